-- What is noted of a page.
use Rattle.std.proofs.Common.{◌≡◌, ℕ, List, [], ◌∷◌, map as map_list, true, false, cond, Option, Some, None, is_some, option_and_then, option_map, unwrap_or, refl, sym, ap, ◌∙◌}
use Rattle.std.proofs.lemmas.Option.{none-some, same_Some}
use Rattle.std.specs.FinMap as map
use Rattle.std.specs.FinMap.{get-empty, get-entries, get-from_entries}
use Rattle.std.specs.FinMap.Entries.{find}
use Rattle.std.specs.Ordering.{eq_by_cmp}
use Rattle.svga_cmd.proofs.KeyLaws.{keys_total}
use Rattle.svga_cmd.specs.Pages.{key_cmp, page_at}
use Rattle.svga_cmd.specs.declared.page.PageKey.{PageKey}
use Rattle.svga_model.specs.Acts.{Act}
use Rattle.svga_model.specs.States.{Kept, State}
use Rattle.svga_ring.proofs.Acts.Settled.{AreChainsDone}
use Rattle.svga_ring.specs.Noting.{NotedPages, bytes_at_home, first_held, given_back, holds, is_held_now}
use Rattle.svga_ring.specs.Requests.{Request, is_chain_out}
use Rattle.svga_ring.specs.SoundPages.{IsRunSoFar, reached}
use Rattle.svga_ring.specs.Views.{Noted}

-- A page that isn't noted
pub none_noted : (noted : NotedPages) (key : PageKey) → (map.contains_key noted key ≡ true → ⊥)
    → map.get noted key ≡ None
none_noted noted key not_there = go (map.get noted key) not_there where
  go : (n : Option Noted) → (is_some n ≡ true → ⊥) → n ≡ None
  go None is = refl
  go (Some n) is = absurd (is refl)

-- isn't held, wasn't given back, and has the bytes at home that it has.
pub held_unnoted : (noted : NotedPages) (key : PageKey) → map.get noted key ≡ None → holds noted key ≡ false
held_unnoted noted key none = ap is_held_now none

pub back_unnoted : (noted : NotedPages) (key : PageKey) → map.get noted key ≡ None
    → given_back noted key ≡ None
back_unnoted noted key none = ap (λ n. option_and_then (λ m. m.back) n) none

pub home_unnoted : (noted : NotedPages) (key : PageKey) (bytes : List ℕ) → map.get noted key ≡ None
    → bytes_at_home noted key bytes ≡ bytes
home_unnoted noted key bytes none = ap (λ back. unwrap_or back bytes) (back_unnoted noted key none)

-- Where no page is noted, what the device keeps has to be what is settled, and that is all.
pub runs_unnoted : {s : State} {acts : List Act} {done : ℕ} {read : List ℕ} {kept : Kept}
    {request wanted : Request}
    {answered : ℕ} → kept ≡ (reached s done (is_chain_out request answered) acts).kept
    → AreChainsDone done acts
    → IsRunSoFar s acts done read kept map.empty request wanted answered
runs_unnoted same chains = record {
  kept_is_run = same;
  noted_is_run = λ key bytes back is.
      absurd (none-some (record { first = bytes; back = back }) (sym (get-empty key_cmp key) ∙ is));
  noted_touched = λ key is. absurd (let none = ap (is_some {T = Noted}) (get-empty key_cmp key) in
      cc (none, is));
  chains_done = chains;
}

first_found : (entries : List (PageKey × Noted)) (key : PageKey)
    → find key_cmp key (map_list (λ e. (e.0, e.1.first)) entries)
    ≡ option_map (λ n. n.first) (find key_cmp key entries)
first_found [] key = refl
first_found (e ∷ entries) key = elim (eq_by_cmp key_cmp key e.0) as
    (λ t. cond t (Some e.1.first) (find key_cmp key (map_list (λ e. (e.0, e.1.first)) entries))
    ≡ option_map (λ n. n.first) (cond t (Some e.1) (find key_cmp key entries)))
    [ true ↦ refl | false ↦ first_found entries key ]

-- a page that is noted, with the bytes with which it was first held
pub first_held_page : (noted : NotedPages) (key : PageKey)
    → page_at (first_held noted) key ≡ option_map (λ n. n.first) (map.get noted key)
first_held_page noted key =
    get-from_entries keys_total (map_list (λ e. (e.0, e.1.first)) (map.entries noted)) key
    ∙ first_found (map.entries noted) key ∙ ap (option_map (λ n. n.first)) (sym (get-entries noted key))

-- a page that is known is noted, with these bytes at first
pub noted_page : (noted : NotedPages) (key : PageKey) (bytes : List ℕ)
    → page_at (first_held noted) key ≡ Some bytes
    → (back : Option (List ℕ)) × (map.get noted key ≡ Some (record { first = bytes; back = back }))
noted_page noted key bytes known = go (map.get noted key) refl where
  go : (at : Option Noted) → map.get noted key ≡ at
      → (back : Option (List ℕ)) × (map.get noted key ≡ Some (record { first = bytes; back = back }))
  go None e =
      absurd (none-some bytes (sym (ap (option_map (λ n. n.first)) e) ∙ sym (first_held_page noted key)
      ∙ known))
  go (Some n) e =
      let first : n.first ≡ bytes =
      same_Some n.first bytes (sym (ap (option_map (λ n. n.first)) e) ∙ sym (first_held_page noted key)
      ∙ known) in
      (n.back, e ∙ ap (λ (b : List ℕ). Some (record { first = b; back = n.back })) first)
