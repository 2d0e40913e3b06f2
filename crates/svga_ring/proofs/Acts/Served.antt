-- An act that is served: what was noted is as in the state before it, what was given back as it leaves it.
use Rattle.std.proofs.Common.{◌≡◌, ◌≢◌, ℕ, List, [], Bool, true, false, Option, Some, None, is_some, option_and_then, option_map, unwrap_or, refl, sym, ap, ◌∙◌}
use Rattle.std.specs.FinMap as map
use Rattle.std.specs.FinMap.{get-empty}
use Rattle.std.specs.FinSet.{FinSet}
use mathlib.Core.Option as maybe
use Rattle.svga_cmd.specs.Pages.{HasPage, key_cmp, page_at}
use Rattle.svga_cmd.specs.declared.limits.Limits.{Limits}
use Rattle.svga_cmd.specs.declared.page.PageKey.{PageKey}
use Rattle.svga_model.proofs.TouchLaws.{other_pages}
use Rattle.svga_model.specs.Acts.{Act}
use Rattle.svga_model.specs.Memories.{page_bytes}
use Rattle.svga_model.specs.States.{Kept, State}
use Rattle.svga_model.specs.Steps.{step}
use Rattle.svga_model.specs.Touches.{AgreeOn, IsPut, Touches, touches}
use Rattle.svga_ring.proofs.Acts.ByKnown.{IsCut, IsKnownOf, cut_step, known_touches}
use Rattle.svga_ring.proofs.Pages.Noted.{first_held_page, held_unnoted, home_unnoted, noted_page}
use Rattle.svga_ring.specs.Noting.{NotedPages, bytes_at_home, first_held, given_back, holds}
use Rattle.svga_ring.specs.Locations.{Home, location_home}
use Rattle.svga_ring.specs.SoundPages.{AreLocated}
use Rattle.svga_ring.specs.Views.{Noted}

-- the state as far as it is known
abbrev pub known : Kept → NotedPages → State
known kept noted = record { kept = kept; memory = first_held noted }

-- the bytes of a page that is there
page_is : (o : Option (List ℕ)) → is_some o ≡ true → o ≡ Some (unwrap_or o [])
page_is None e = absurd (cc e)
page_is (Some bytes) e = refl

-- of one that was given back
page_given : (o : Option (List ℕ)) (bytes : List ℕ) → o ≢ None → unwrap_or o bytes ≡ unwrap_or o []
page_given None bytes some = absurd (some refl)
page_given (Some back) bytes some = refl

-- What is kept and was noted is as in the state before the act, and all pages that it touches are noted.
pub record IsKnownBefore (kept : Kept) (noted : NotedPages) (here : State) (x : Act) : Type 0 where
  pub same : kept ≡ here.kept
  pub there : (key : PageKey) → Touches here x key → HasPage here.memory key
  pub firsts : (key : PageKey) (bytes : List ℕ) (back : Option (List ℕ))
      → map.get noted key ≡ Some (record { first = bytes; back = back }) → bytes ≡ page_bytes here.memory key
  pub all_noted : (key : PageKey) → Touches (known kept noted) x key → map.contains_key noted key ≡ true

-- so what is known is so there
known_there : (kept : Kept) (noted : NotedPages) (here : State) (x : Act) → IsKnownBefore kept noted here x
    → IsKnownOf (known kept noted) here
known_there kept noted here x o = record {
  kept = o.same;
  pages = λ key bytes is. (let n = noted_page noted key bytes is in o.firsts key bytes n.0 n.1);
}

pub known_before : (kept : Kept) (noted : NotedPages) (here : State) (x : Act)
    → IsKnownBefore kept noted here x
    → AgreeOn (known kept noted) here x
known_before kept noted here x o key touched = at (map.get noted key) refl where
  at : (n : Option Noted) → map.get noted key ≡ n → page_at (first_held noted) key ≡ page_at here.memory key
  at None none = absurd (let is = o.all_noted key touched in let isnt = ap is_some none in cc (is, isnt))
  at (Some n) some =
      let there = o.there key
      (known_touches (known kept noted) here x key (known_there kept noted here x o) touched) in
      first_held_page noted key ∙ ap (λ m. option_map (λ y. y.first) m) some
      ∙ ap Some (o.firsts key n.first n.back some) ∙ sym (page_is (page_at here.memory key) there)

-- a page that was given back is noted
pub given_noted : (at : Option Noted) → option_and_then (λ n. n.back) at ≢ None → is_some at ≡ true
given_noted None given = absurd (given refl)
given_noted (Some n) given = refl

-- The act in hand is served: what was noted is as in the state before it, and what was given back is as it
-- leaves it.
pub record IsDoneByKnown (kept : Kept) (noted : NotedPages) (here : State) (x : Act) : Type 0 where
  pub before : IsKnownBefore kept noted here x
  pub no_put : IsPut x → ⊥
  pub given : (key : PageKey) → Touches (known kept noted) x key
      → given_back noted key ≡ page_at (step (known kept noted) x).memory key
  pub all_given : (key : PageKey) → Touches (known kept noted) x key → given_back noted key ≢ None
  pub noted_touched : (key : PageKey) → map.contains_key noted key ≡ true → Touches here x key

module _ (kept : Kept) (noted : NotedPages) (here : State) (x : Act) (o : IsDoneByKnown kept noted here x)
  where
    pub is_cut : IsCut (known kept noted) here x
    is_cut = cut_step (known kept noted) here x o.before.same (known_before kept noted here x o.before)

    -- so a page at home holds what the act leaves
    pub home_bytes : (key : PageKey)
        → bytes_at_home noted key (page_bytes here.memory key) ≡ page_bytes (step here x).memory key
    home_bytes key = at (touches here x key) refl (map.get noted key) refl where
      at : (t : Bool) → touches here x key ≡ t → (n : Option Noted) → map.get noted key ≡ n
          → bytes_at_home noted key (page_bytes here.memory key) ≡ page_bytes (step here x).memory key
      at true touched n is =
          let as_known = is_cut.touched key touched in
          page_given (given_back noted key) (page_bytes here.memory key) (o.all_given key as_known)
          ∙ ap (λ p. unwrap_or p []) (o.given key as_known ∙ is_cut.pages key touched)
      at false off None none =
          home_unnoted noted key (page_bytes here.memory key) none
          ∙ ap (λ p. unwrap_or p []) (sym (other_pages here x key o.no_put (λ touched. cc (touched, off))))
      at false off (Some n) some = absurd (let touched = o.noted_touched key (ap is_some some) in
          cc (touched, off))

-- no page moves: what was noted was given back, and is noted no more
pub located_served : {l : Limits} {words : List ℕ} {homes : List Home} {s t : State}
    {lent driver_out : FinSet key_cmp}
    {noted : NotedPages} {device_out : Option PageKey} → ((key : PageKey) → holds noted key ≡ false)
    → ((key : PageKey) → bytes_at_home noted key (page_bytes s.memory key) ≡ page_bytes t.memory key)
    → AreLocated l words homes s lent driver_out noted device_out
    → AreLocated l words homes t lent driver_out map.empty device_out
located_served {t = t} none same o = record {
  slots = o.slots;
  location = o.location;
  each = λ key is.
      let at = o.each key is in
      let bytes = same key ∙ sym (home_unnoted map.empty key (page_bytes t.memory key)
      (get-empty key_cmp key)) in
      record {
        word_is = at.word_is;
        home_is = at.home_is ∙ ap (λ b. maybe.some (location_home b (o.location key))) bytes;
        lent_is = at.lent_is;
        held_is = held_unnoted map.empty key (get-empty key_cmp key) ∙ sym (none key) ∙ at.held_is;
        driver_out_is = at.driver_out_is;
        device_out_is = at.device_out_is;
      };
}
