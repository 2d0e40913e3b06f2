-- What holding and giving back make of the pages that are noted.
use Rattle.std.proofs.Common.{◌≡◌, ℕ, List, Bool, true, false, cond, inl, inr, refl, sym, ap, subst, ◌∙◌, Option, Some, None, is_some, is_none, option_map, option_and_then, unwrap_or, []}
use Rattle.std.proofs.lemmas.Option.{none-some}
use Rattle.std.specs.FinMap as map
use Rattle.std.specs.FinMap.{get-empty, get-insert, get-remove}
use Rattle.std.specs.Ordering.{eq_by_cmp}
use mathlib.Core.Bool.{true≢false}
use Rattle.svga_cmd.proofs.KeyLaws.{keys_exact, keys_total}
use Rattle.svga_cmd.proofs.Maps.{get_same, one_key, same_gets}
use Rattle.svga_cmd.specs.Pages.{HasPage, Memory, key_cmp, page_at}
use Rattle.svga_cmd.specs.declared.page.PageKey.{PageKey}
use Rattle.svga_link.specs.Holding.{holding, returned}
use Rattle.svga_ring.proofs.Pages.Noted.{back_unnoted, first_held_page}
use Rattle.svga_ring.specs.Core.{given_with, held_with}
use Rattle.svga_ring.specs.Noting.{NotedPages, first_held, given_back, holds, is_held_now}
use Rattle.svga_ring.specs.Views.{DeviceView, Noted}
use Rattle.svga_device.specs.Serving.{IsBack, IsGiving, IsHolding}

abbrev first_of : Option Noted → Option (List ℕ)
first_of o = option_map (λ n. n.first) o

abbrev back_of : Option Noted → Option (List ℕ)
back_of o = option_and_then (λ n. n.back) o

-- a page that isn't held and wasn't given back isn't noted
not_noted : (noted : NotedPages) (key : PageKey) → holds noted key ≡ false → given_back noted key ≡ None → map.get noted key ≡ None
not_noted noted key free back = go (map.get noted key) refl where
  go : (o : Option Noted) → map.get noted key ≡ o → map.get noted key ≡ None
  go None e = e
  go (Some n) e =
      let none : n.back ≡ None = sym (ap back_of e) ∙ back in
      let some : is_none n.back ≡ false = sym (ap is_held_now e) ∙ free in
      absurd (true≢false (sym (ap is_none none) ∙ some))

-- one that is held is noted
noted_then : (noted : NotedPages) (key : PageKey) → holds noted key ≡ true → (n : Noted) × (map.get noted key ≡ Some n)
noted_then noted key held = go (map.get noted key) refl where
  go : (o : Option Noted) → map.get noted key ≡ o → (n : Noted) × (map.get noted key ≡ Some n)
  go None e = absurd (true≢false (sym held ∙ ap is_held_now e))
  go (Some n) e = (n, e)

hold_first : (noted : NotedPages) (key : PageKey) (bytes : List ℕ) → map.get noted key ≡ None
    → first_held (map.insert noted key (held_with (map.get noted key) bytes)) ≡ map.insert (first_held noted) key bytes
hold_first noted key bytes none =
    let n : Noted = held_with (map.get noted key) bytes in
    same_gets keys_total keys_exact (first_held (map.insert noted key n)) (map.insert (first_held noted) key bytes) (λ q.
    let go : (b : Bool) → first_of (cond b (Some n) (map.get noted q)) ≡ cond b (Some bytes) (page_at (first_held noted) q) =
    λ b. elim b as (λ b. first_of (cond b (Some n) (map.get noted q)) ≡ cond b (Some bytes) (page_at (first_held noted) q))
    [ true ↦ ap (λ o. first_of (Some (held_with o bytes))) none | false ↦ sym (first_held_page noted q) ] in
    first_held_page (map.insert noted key n) q ∙ ap first_of (get-insert keys_total noted key n q) ∙ go (eq_by_cmp key_cmp q key)
    ∙ sym (get-insert keys_total (first_held noted) key bytes q))

fresh_back : (o : Option Noted) (bytes : List ℕ) → back_of (Some (held_with o bytes)) ≡ None
fresh_back None bytes = refl
fresh_back (Some n) bytes = refl

hold_back : (noted : NotedPages) (key q : PageKey) (bytes : List ℕ) → given_back noted q ≡ None
    → given_back (map.insert noted key (held_with (map.get noted key) bytes)) q ≡ None
hold_back noted key q bytes none =
    let n : Noted = held_with (map.get noted key) bytes in
    let go : (b : Bool) → back_of (cond b (Some n) (map.get noted q)) ≡ None =
    λ b. elim b as (λ b. back_of (cond b (Some n) (map.get noted q)) ≡ None) [ true ↦ fresh_back (map.get noted key) bytes | false ↦ none ] in
    ap back_of (get-insert keys_total noted key n q) ∙ go (eq_by_cmp key_cmp q key)

-- one page more is held
pub holding_more : (first e e' : DeviceView) (pages pages' : Memory) (key : PageKey) (bytes : List ℕ) → holds e.noted key ≡ false
    → e' ≡ holding e key bytes → pages' ≡ map.insert pages key bytes → IsHolding first e pages → IsHolding first e' pages'
holding_more first e e' pages pages' key bytes free told put h =
    let noted : NotedPages = map.insert e.noted key (held_with (map.get e.noted key) bytes) in
    let now : IsHolding first (holding e key bytes) (map.insert pages key bytes) = record {
      view = ap {A = DeviceView} {B = DeviceView} (λ v. record v { noted = noted }) h.view;
      noted_is = hold_first e.noted key bytes (not_noted e.noted key free (h.none_back key)) ∙ ap (λ m. map.insert m key bytes) h.noted_is;
      none_back = λ q. hold_back e.noted key q bytes (h.none_back q);
    } in
    subst (λ v. IsHolding first v pages') (sym told) (subst (λ m. IsHolding first (holding e key bytes) m) (sym put) now)

-- none is held at first
pub holding_none : (e : DeviceView) (pages : Memory) → e.noted ≡ map.empty → pages ≡ map.empty → IsHolding e e pages
holding_none e pages noted none = record {
  view = refl;
  noted_is = ap first_held noted ∙ same_gets keys_total keys_exact (first_held map.empty) map.empty (λ q.
      first_held_page map.empty q ∙ ap first_of (get-empty key_cmp q) ∙ sym (get-empty key_cmp q)) ∙ sym none;
  none_back = λ q. ap (λ n. given_back n q) noted ∙ back_unnoted map.empty q (get-empty key_cmp q);
}

pub put_there : (pages pages' : Memory) (key : PageKey) (bytes : List ℕ) → pages' ≡ map.insert pages key bytes → HasPage pages' key
put_there pages pages' key bytes put = ap (λ m. is_some (page_at m key)) put ∙ ap is_some (get_same keys_total keys_exact pages key bytes)

pub put_more : (pages pages' : Memory) (key q : PageKey) (bytes : List ℕ) → pages' ≡ map.insert pages key bytes → HasPage pages q → HasPage pages' q
put_more pages pages' key q bytes put has =
    let go : (b : Bool) → is_some (cond b (Some bytes) (page_at pages q)) ≡ true =
    λ b. elim b as (λ b. is_some (cond b (Some bytes) (page_at pages q)) ≡ true) [ true ↦ refl | false ↦ has ] in
    ap (λ m. is_some (page_at m q)) put ∙ ap is_some (get-insert keys_total pages key bytes q) ∙ go (eq_by_cmp key_cmp q key)

return_first : (noted : NotedPages) (key : PageKey) (bytes : List ℕ) → holds noted key ≡ true
    → first_held (map.insert noted key (given_with (map.get noted key) bytes)) ≡ first_held noted
return_first noted key bytes held =
    let n : Noted = given_with (map.get noted key) bytes in
    let was = noted_then noted key held in
    let same : first_of (Some n) ≡ first_of (map.get noted key) =
    ap (λ o. first_of (Some (given_with o bytes))) was.1 ∙ ap first_of (sym was.1) in
    same_gets keys_total keys_exact (first_held (map.insert noted key n)) (first_held noted) (λ q.
    let go : (b : Bool) → eq_by_cmp key_cmp q key ≡ b → first_of (cond b (Some n) (map.get noted q)) ≡ first_of (map.get noted q) =
    λ b. elim b as (λ b. eq_by_cmp key_cmp q key ≡ b → first_of (cond b (Some n) (map.get noted q)) ≡ first_of (map.get noted q))
    [ true ↦ (λ e. same ∙ ap (λ k. first_of (map.get noted k)) (sym (one_key keys_total keys_exact q key e))) | false ↦ (λ e. refl) ] in
    first_held_page (map.insert noted key n) q ∙ ap first_of (get-insert keys_total noted key n q) ∙ go (eq_by_cmp key_cmp q key) refl
    ∙ sym (first_held_page noted q))

some_back : (o : Option Noted) (bytes : List ℕ) → back_of (Some (given_with o bytes)) ≡ Some bytes
some_back None bytes = refl
some_back (Some n) bytes = refl

gone_back : (before now : Option (List ℕ)) (back : Option (List ℕ)) (bytes : List ℕ) → now ≡ Some bytes → IsBack before now back
    → IsBack before None (Some bytes)
gone_back before now back bytes there (inl b) = inr (refl, sym there ∙ b.0)
gone_back before now back bytes there (inr b) = absurd (none-some bytes (sym b.0 ∙ there))

no_bytes : Option (List ℕ)
no_bytes = None

-- one page more is given back
pub giving_more : (first e e' : DeviceView) (before pages pages' : Memory) (key : PageKey) (bytes : List ℕ) → holds e.noted key ≡ true
    → page_at pages key ≡ Some bytes → e' ≡ returned e key bytes → pages' ≡ map.remove pages key
    → IsGiving first e before pages → IsGiving first e' before pages'
giving_more first e e' before pages pages' key bytes held there told gone g =
    let noted : NotedPages = map.insert e.noted key (given_with (map.get e.noted key) bytes) in
    let n : Noted = given_with (map.get e.noted key) bytes in
    let now : IsGiving first (returned e key bytes) before (map.remove pages key) = record {
      view = ap {A = DeviceView} {B = DeviceView} (λ v. record v { noted = noted }) g.view;
      noted_is = return_first e.noted key bytes held ∙ g.noted_is;
      each = λ q.
          let go : (b : Bool) → eq_by_cmp key_cmp q key ≡ b → IsBack (page_at before q) (cond b None (page_at pages q)) (back_of (cond b (Some n) (map.get e.noted q))) =
          λ b. elim b as (λ b. eq_by_cmp key_cmp q key ≡ b → IsBack (page_at before q) (cond b None (page_at pages q)) (back_of (cond b (Some n) (map.get e.noted q)))) [
            | true ↦ (λ e1. subst (λ back. IsBack (page_at before q) None back) (sym (some_back (map.get e.noted key) bytes))
                (gone_back (page_at before q) (page_at pages q) (given_back e.noted q) bytes (ap (page_at pages) (one_key keys_total keys_exact q key e1) ∙ there) (g.each q)))
            | false ↦ (λ e1. g.each q)
          ] in
          subst (λ now. IsBack (page_at before q) now (given_back noted q)) (sym (get-remove keys_total pages key q))
          (subst (λ o. IsBack (page_at before q) (cond (eq_by_cmp key_cmp q key) None (page_at pages q)) (back_of o)) (sym (get-insert keys_total e.noted key n q))
          (go (eq_by_cmp key_cmp q key) refl));
    } in
    subst (λ v. IsGiving first v before pages') (sym told) (subst (λ m. IsGiving first (returned e key bytes) before m) (sym gone) now)

pub giving_none : (e : DeviceView) (pages : Memory) → ((key : PageKey) → given_back e.noted key ≡ None) → IsGiving e e pages pages
giving_none e pages none = record { view = refl; noted_is = refl; each = λ q. inl (refl, none q) }

-- what is gone stays gone
pub gone_more : (pages pages' : Memory) (key q : PageKey) → pages' ≡ map.remove pages key → page_at pages q ≡ None → page_at pages' q ≡ None
gone_more pages pages' key q gone none =
    let go : (b : Bool) → cond b None (page_at pages q) ≡ None =
    λ b. elim b as (λ b. cond b None (page_at pages q) ≡ None) [ true ↦ refl | false ↦ none ] in
    ap (λ m. page_at m q) gone ∙ get-remove keys_total pages key q ∙ go (eq_by_cmp key_cmp q key)

-- what is there has its bytes
pub some_bytes : (o : Option (List ℕ)) → is_some o ≡ true → o ≡ Some (unwrap_or o [])
some_bytes None is = absurd (true≢false (sym is))
some_bytes (Some bytes) is = refl

-- what isn't there
pub no_page : (o : Option (List ℕ)) → is_some o ≡ false → o ≡ None
no_page None none = refl
no_page (Some bytes) none = absurd (true≢false none)
