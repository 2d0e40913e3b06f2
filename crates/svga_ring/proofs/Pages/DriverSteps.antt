-- The driver's steps on pages: it gives one, takes one, moves an empty slot.
use Rattle.std.proofs.Common.{◌≡◌, ◌≢◌, inl, inr, ℕ, ◌≤◌, List, [], ◌∷◌, ◌++◌, length, slice_set, Bool, true, false, Option, Some, None, is_none, unwrap_or, refl, sym, ap, subst, ◌∙◌, arith}
use Rattle.std.proofs.lemmas.Option.{none-some}
use Rattle.std.specs.FinMap as map
use Rattle.std.specs.FinSet as set
use Rattle.std.specs.FinSet.{FinSet}
use lib.ListN.{get_elem?}
use mathlib.Core.Option as maybe
use Rattle.svga_cmd.specs.Pages.{HasPage, IsKey, key_cmp, page_at}
use Rattle.svga_cmd.specs.declared.limits.Limits.{Limits}
use Rattle.svga_cmd.specs.declared.page.PageKey.{PageKey}
use Rattle.svga_cmd.specs.declared.session.Session.{Session}
use Rattle.svga_model.proofs.PutLaws.{page_other, page_put, put_admissible}
use Rattle.svga_model.proofs.RunLaws.{run-first, run_whole}
use Rattle.svga_model.specs.Acts.{Act, Put, Chain}
use Rattle.svga_model.specs.Memories.{page_bytes}
use Rattle.svga_model.specs.Runs.{done, run}
use Rattle.svga_model.specs.States.{Kept, State, opening_state}
use Rattle.svga_model.specs.Steps.{step}
use Rattle.svga_ring.proofs.Steps.Apart.{one_out, sound_apart}
use Rattle.svga_ring.proofs.Acts.Append.{before_last, chain_touches_before, chain_touches_put, last_chain_before, last_chain_put, put_is, put_no_chain, puts_behind_more, puts_in_more, requests_more, runs_more, touches_put}
use Rattle.svga_ring.proofs.Steps.Beside.{requests_beside, reserving_act, stops_act, stops_beside, words_act, words_beside}
use Rattle.svga_ring.proofs.Acts.KnownDone.{clear_take, known_are_done, known_done_still}
use Rattle.svga_ring.proofs.Acts.InHand.{IsTouchedInHand, hand_lent, is_answered, none_out, opening_of, settled_of}
use Rattle.svga_ring.proofs.Pages.Noted.{held_unnoted, home_unnoted, none_noted}
use Rattle.svga_ring.proofs.Pages.Moves.{AreMoved, key_of, left_is, limits_of, moved, page_step}
use Rattle.svga_ring.proofs.Pages.Locations.{found_at_home, found_out_with_driver, found_with_driver, in_fewer, in_here, in_more, in_one, in_other, out_here, out_other, pages_take, located_set}
use Rattle.svga_ring.proofs.Acts.Runs.{page_there, settled_done}
use Rattle.svga_ring.proofs.Acts.Settled.{settled_put}
use Rattle.svga_ring.proofs.Acts.UntouchedPage.{taken_page}
use Rattle.svga_ring.specs.Committed.{settled}
use Rattle.svga_ring.specs.Conditions.{Can, MayTake}
use Rattle.svga_ring.specs.Core.{Core, Give, SlotHome, SlotOut, Take, after, with_driver}
use Rattle.svga_ring.specs.Noting.{NotedPages, bytes_at_home}
use Rattle.svga_ring.specs.Locations.{Home, with_driver as with_the_driver, at_home, out_with_driver}
use Rattle.svga_ring.specs.Requests.{Request, is_chain_out}
use Rattle.svga_ring.specs.SharedTable.{page_word, slot_number, table_length}
use Rattle.svga_ring.specs.TableSteps.{page_left}
use Rattle.svga_ring.specs.Sound.{IsSound, IsSoundOfWords}
use Rattle.svga_ring.specs.SoundPages.{AreLocated, AreClear, IsRunSoFar, PutsPage, TouchesAt, by_chain, by_command, known_done, reached}
use Rattle.svga_ring.specs.Views.{Noted, Terms}

-- what is settled with a Put more
settled_with_put : (s : State) (acts : List Act) (n : ℕ) (out : Bool) (key : PageKey) (bytes : List ℕ)
    → done s (settled n out acts) ≡ length (settled n out acts)
    → reached s n out (acts ++ Put key bytes ∷ []) ≡ step (reached s n out acts) (Put key bytes)
settled_with_put s acts n out key bytes all =
    let x : Act = Put key bytes in
    ap (λ l. run s l) (settled_put acts n out key bytes) ∙ (run_whole s (settled n out acts) (x ∷ []) all).0
    ∙ run-first (run s (settled n out acts)) x [] true
    (ap is_none (put_admissible (run s (settled n out acts)) key bytes))

-- the parts of what is sound, with a Put more of a page that was with the driver
clear_give : (s : State) (acts : List Act) (n passed seen : ℕ) (lent : FinSet key_cmp) (r : Request)
    (answered : ℕ)
    (key : PageKey) (bytes : List ℕ)
    → known_done acts passed seen ≤ n → set.contains lent key ≡ false
    → AreClear s acts n passed seen lent r answered
    → AreClear s (acts ++ Put key bytes ∷ []) n passed seen (set.insert lent key) r answered
clear_give s acts n passed seen lent r answered key bytes most free o = record {
  with_driver_free = λ m q low touched. in_more lent key q
      (o.with_driver_free m q (omega (arith, low, known_done_still acts (Put key bytes) passed seen refl))
      (touches_put s acts q key bytes m touched));
  request_free =
      λ q out touched. in_more lent key q (o.request_free q out
      (chain_touches_before s r acts q key bytes touched));
  later_puts = λ m q low touched puts. (
      let before_it = touches_put s acts q key bytes m touched in
      elim (puts_behind_more acts (Put key bytes) m q puts) as (λ _. ⊥) [
        | inl earlier ↦ o.later_puts m q low before_it earlier
        | inr one ↦ given q (put_is one) (o.with_driver_free m q (omega (arith, low, most)) before_it)
      ]
      );
  request_later_puts = λ q out chain touched puts. (
      let x : Act = Put key bytes in
      let last = before_last acts chain.front (Chain r.id r.descriptor) x chain.rest
      (put_no_chain r.id r.descriptor)
      chain.acts_are in
      let earlier_chain = last_chain_before r acts key bytes chain in
      elim (puts_in_more last.between x q (subst (λ l. PutsPage l q) last.rest_is puts)) as (λ _. ⊥) [
        | inl earlier ↦ o.request_later_puts q out earlier_chain touched earlier
        | inr one ↦ given q (put_is one) (o.request_free q out (earlier_chain, touched))
      ]
      );
}
  where
    given : (q : PageKey) → q ≡ key → set.contains lent q ≡ true → ⊥
    given q same is = let there = subst (λ p. set.contains lent p ≡ true) same is in cc (free, there)

-- bytes of pages after a Put
other_bytes : (t : State) (key q : PageKey) (bytes : List ℕ) → q ≢ key
    → page_bytes (step t (Put key bytes)).memory q ≡ page_bytes t.memory q
other_bytes t key q bytes differ = ap (λ p. unwrap_or p []) (page_other t.memory key q bytes differ)

runs_give : (s : State) (acts : List Act) (n : ℕ) (read : List ℕ) (kept : Kept) (noted : NotedPages)
    (r wanted : Request) (answered : ℕ) (key : PageKey) (bytes : List ℕ)
    → reached s n (is_chain_out r answered) (acts ++ Put key bytes ∷ [])
    ≡ step (reached s n (is_chain_out r answered) acts) (Put key bytes)
    → map.get noted key ≡ None
    → IsRunSoFar s acts n read kept noted r wanted answered
    → IsRunSoFar s (acts ++ Put key bytes ∷ []) n read kept noted r wanted answered
runs_give s acts n read kept noted r wanted answered key bytes next none o =
    runs_more (Put key bytes) put_no_chain (ap (λ t. t.kept) (sym next))
    (λ q note is.
    sym (other_bytes (reached s n (is_chain_out r answered) acts) key q bytes (noted_here q note is))
    ∙ ap (λ t. page_bytes t.memory q) (sym next))
    (λ q out touched. chain_touches_put s r acts q key bytes touched) o
  where
    noted_here : (q : PageKey) (note : Noted) → map.get noted q ≡ Some note → q ≢ key
    noted_here q note is same =
        let here = subst (λ p. map.get noted p ≡ Some note) same is in none-some note (sym none ∙ here)

-- the page that is given is at home with its bytes
pages_give : {l : Limits} {words : List ℕ} {homes : List Home} {s : State} {lent out : FinSet key_cmp}
    {noted : NotedPages} {device_out : Option PageKey} (key : PageKey) (bytes : List ℕ)
    → IsKey l key → length words ≡ table_length l → HasPage s.memory key → set.contains out key ≡ true
    → map.get noted key ≡ None
    → AreLocated l words homes s lent out noted device_out
    → AreLocated l (slice_set words (page_word l key) 1)
    (slice_set homes (slot_number l key) (maybe.some (Some bytes))) (step s (Put key bytes))
    (set.insert lent key) (set.remove out key) noted device_out
pages_give {s = s} {lent = lent} {out = out} {noted = noted} key bytes is wide has is_out none o =
    let old = found_out_with_driver (o.location key) (o.each key is) is_out in
    let next : State = step s (Put key bytes) in
    let put : page_bytes next.memory key ≡ bytes = ap (λ p. unwrap_or p [])
    (page_put s.memory key bytes has) in
    located_set key 1 (maybe.some (Some bytes)) at_home is wide
    (λ q differ. (
      other_bytes s key q bytes differ,
      in_other lent key q differ,
      out_other out key q differ,
      refl,
      refl,
    ))
    (record {
      word_is = refl;
      home_is =
          ap (λ b. maybe.some (maybe.some (Some b)))
          (sym (home_unnoted noted key (page_bytes next.memory key) none ∙ put));
      lent_is = in_here lent key;
      held_is = old.held_is;
      driver_out_is = out_here out key;
      device_out_is = old.device_out_is;
    })
    o

-- an empty slot goes out,
pages_out : {l : Limits} {words : List ℕ} {homes : List Home} {s : State} {lent out : FinSet key_cmp}
    {noted : NotedPages} {device_out : Option PageKey} (key : PageKey)
    → IsKey l key → length words ≡ table_length l → set.contains lent key ≡ false
    → set.contains out key ≡ false
    → AreLocated l words homes s lent out noted device_out
    → AreLocated l (slice_set words (page_word l key) 3) (slice_set homes (slot_number l key) maybe.none) s
    lent
    (set.insert out key) noted device_out
pages_out {out = out} key is wide free home o =
    let old = found_with_driver (o.location key) (o.each key is) free home in
    located_set key 3 maybe.none out_with_driver is wide
    (λ q differ. (refl, refl, in_other out key q differ, refl, refl))
    (record {
      word_is = refl;
      home_is = refl;
      lent_is = old.lent_is;
      held_is = old.held_is;
      driver_out_is = in_here out key;
      device_out_is = old.device_out_is;
    })
    o

-- and home
pages_in : {l : Limits} {words : List ℕ} {homes : List Home} {s : State} {lent out : FinSet key_cmp}
    {noted : NotedPages} {device_out : Option PageKey} (key : PageKey)
    → IsKey l key → length words ≡ table_length l → set.contains out key ≡ true
    → AreLocated l words homes s lent out noted device_out
    → AreLocated l (slice_set words (page_word l key) 0)
    (slice_set homes (slot_number l key) (maybe.some None)) s lent (set.remove out key) noted device_out
pages_in {out = out} key is wide is_out o =
    let old = found_out_with_driver (o.location key) (o.each key is) is_out in
    located_set key 0 (maybe.some None) with_the_driver is wide
    (λ q differ. (refl, refl, out_other out key q differ, refl, refl))
    (record {
      word_is = refl;
      home_is = refl;
      lent_is = old.lent_is;
      held_is = old.held_is;
      driver_out_is = out_here out key;
      device_out_is = old.device_out_is;
    })
    o

pub keeps_give : (k : Session) (c : Core) (key : PageKey) (bytes : List ℕ) → IsSound k c
    → Can (Give key bytes) c
    → IsSound k (after (Give key bytes) c)
keeps_give k c key bytes o can =
    let d = c.driver in
    let e = c.device in
    let s : State = opening_of k in
    let out : Bool = is_chain_out d.request e.answered in
    let i : ℕ = page_word d.terms.limits key in
    let is = key_of key o can.1.1 in
    let free = (found_out_with_driver (o.pages.location key) (o.pages.each key is) can.1.0).lent_is in
    let none = none_noted e.noted key
    (λ there. let lent = hand_lent k c key o (o.runs.noted_touched key there) in cc (free, lent)) in
    let next = settled_with_put s d.acts e.done out key bytes
    (settled_done s d.acts e.done d.request out o.of_words.acts.in_turn o.runs.chains_done
    o.requests.out_is_last_chain) in
    let has = page_there k.limits k.first (settled e.done out d.acts) key is in
    let pages = pages_give key bytes is o.of_words.fixed.length_is has can.1.0 none o.pages in
    let more : IsSoundOfWords k (with_driver c (record d { acts = d.acts ++ Put key bytes ∷ [] })) =
    words_act k c (Put key bytes) refl (is, can.1.2) (put_admissible _ key bytes) o.of_words in
    sound_apart can.0 (words_beside i 1 (omega arith) more)
    (moved k c d.terms.limits key 1 (maybe.some (Some bytes)) (limits_of o)
    (subst (λ (u : State). AreMoved k c key 1 (maybe.some (Some bytes)) u (set.insert d.lent key)
    (set.remove d.out key) e.noted e.out k.limits) (sym next) pages))
    (clear_give s d.acts e.done d.passed d.seen d.lent d.request e.answered key bytes
    (known_are_done o.of_words) free o.clear)
    (runs_give s d.acts e.done e.read e.kept e.noted d.request e.wanted e.answered key bytes next none
    o.runs) (requests_more _ (λ out last. last_chain_put d.request d.acts key bytes last)
    (requests_beside i 1 (omega arith) (omega arith) (omega arith) o.requests))
    (stops_act d.acts (Put key bytes) refl (stops_beside i 1 (omega arith) o.stops))
    (reserving_act d.acts (Put key bytes) refl o.reserving)
    (λ a b of_a of_b. one_out o can.0 a b (in_fewer d.out key a of_a) (in_fewer d.out key b of_b))

-- what holds of a page that may be taken: it isn't noted, and no chain is out
record IsFree (k : Session) (c : Core) (key : PageKey) : Type 0 where
  off : is_chain_out c.driver.request c.device.answered ≡ false
  untouched : (m : ℕ) → known_done c.driver.acts c.driver.passed c.driver.seen ≤ m
      → TouchesAt (opening_of k) c.driver.acts m key → ⊥
  unnoted : map.get c.device.noted key ≡ None

is_free : (k : Session) (c : Core) (key : PageKey) → IsSound k c → MayTake c.driver key → IsFree k c key
is_free k c key o may = record {
  off = off;
  untouched = untouched;
  unnoted = none_noted c.device.noted key (λ there. untouched_in_hand (o.runs.noted_touched key there));
}
  where
    off : is_chain_out c.driver.request c.device.answered ≡ false
    off = none_out c.driver.request c.device.answered (is_answered o may.none_open)

    untouched : (m : ℕ) → known_done c.driver.acts c.driver.passed c.driver.seen ≤ m
        → TouchesAt (opening_of k) c.driver.acts m key → ⊥
    untouched =
        subst (λ (t : Terms). (m : ℕ) → known_done c.driver.acts c.driver.passed c.driver.seen ≤ m
        → TouchesAt (opening_state t.limits t.first) c.driver.acts m key → ⊥)
        o.of_words.session.of_driver may.untouched

    untouched_in_hand : IsTouchedInHand k c key → ⊥
    untouched_in_hand (by_command x spells touched) = untouched c.device.done (known_are_done o.of_words)
        touched
    untouched_in_hand (by_chain none out wanted touched) = cc (off, out)

pub keeps_take : (k : Session) (c : Core) (key : PageKey) → IsSound k c → Can (Take key) c
    → IsSound k (after (Take key) c)
keeps_take k c key o can =
    let d = c.driver in
    let e = c.device in
    let free = is_free k c key o can.1.1 in
    page_step c.driver.terms.limits key 3 maybe.none (limits_of o) o can.0
    (pages_take key (key_of key o can.1.0) o.of_words.fixed.length_is can.1.1.lent
    (held_unnoted e.noted key free.unnoted)
    o.pages)
    (clear_take key free.untouched free.off o.clear)
    o.runs
    (λ a b of_a of_b. in_one d.out key a can.1.1.none_out of_a
    ∙ sym (in_one d.out key b can.1.1.none_out of_b))

-- the slot of a page that isn't lent, and isn't out, is empty
pub slot_empty : (k : Session) (c : Core) (key : PageKey) → IsSound k c → Can (SlotOut key) c
    → get_elem? c.homes (slot_number k.limits key) ≡ maybe.some (maybe.some None)
slot_empty k c key o can =
    (found_with_driver (o.pages.location key) (o.pages.each key (key_of key o can.1.0)) can.1.1
    (can.1.2 key)).home_is

-- the same, as the driver knows it
pub slot_empty_known : (k : Session) (c : Core) (key : PageKey) → IsSound k c → Can (SlotOut key) c
    → get_elem? c.homes (slot_number c.driver.terms.limits key) ≡ maybe.some (maybe.some None)
slot_empty_known k c key o can =
    ap (λ l. get_elem? c.homes (slot_number l key)) (limits_of o) ∙ slot_empty k c key o can

pub keeps_slot_out : (k : Session) (c : Core) (key : PageKey) → IsSound k c → Can (SlotOut key) c
    → IsSound k (after (SlotOut key) c)
keeps_slot_out k c key o can =
    let d = c.driver in
    page_step c.driver.terms.limits key 3 maybe.none (limits_of o) o can.0
    (pages_out key (key_of key o can.1.0) o.of_words.fixed.length_is can.1.1 (can.1.2 key) o.pages) o.clear
    o.runs
    (λ a b of_a of_b. in_one d.out key a can.1.2 of_a ∙ sym (in_one d.out key b can.1.2 of_b))

pub keeps_slot_home : (k : Session) (c : Core) (key : PageKey) → IsSound k c → Can (SlotHome key) c
    → IsSound k (after (SlotHome key) c)
keeps_slot_home k c key o can =
    let d = c.driver in
    page_step c.driver.terms.limits key 0 (maybe.some None) (limits_of o) o can.0
    (pages_in key (key_of key o can.1.0) o.of_words.fixed.length_is can.1.1 o.pages) o.clear o.runs
    (λ a b of_a of_b.
    o.one_slot (λ q. cc (can.0, q)) a b (in_fewer d.out key a of_a) (in_fewer d.out key b of_b))

-- what is taken
pub gives_run : (k : Session) (c : Core) (key : PageKey) → IsSound k c → Can (Take key) c
    → get_elem? c.homes (slot_number k.limits key)
    ≡ maybe.some (maybe.some (Some (page_bytes (run (opening_state k.limits k.first) c.driver.acts).memory
    key)))
gives_run k c key o can =
    let d = c.driver in
    let e = c.device in
    let s : State = opening_of k in
    let is = key_of key o can.1.0 in
    let free = is_free k c key o can.1.1 in
    let here = found_at_home (o.pages.location key) (o.pages.each key is) can.1.1.lent
    (held_unnoted e.noted key free.unnoted) in
    let t : State = settled_of k c in
    let low = known_are_done o.of_words in
    let whole : page_at (run s d.acts).memory key ≡ page_at t.memory key =
    taken_page s d.acts e.done key o.of_words.acts.in_turn o.runs.chains_done
    (λ m le touched. free.untouched m (omega (arith, le, low)) touched)
    ∙ ap (λ b. page_at (reached s e.done b d.acts).memory key) (sym free.off) in
    let bytes : bytes_at_home e.noted key (page_bytes t.memory key) ≡ page_bytes (run s d.acts).memory key =
    home_unnoted e.noted key (page_bytes t.memory key) free.unnoted ∙ ap (λ p. unwrap_or p []) (sym whole) in
    here.home_is ∙ ap (λ b. maybe.some (maybe.some (Some b))) bytes

-- and as the driver knows it
pub taken_known : (k : Session) (c : Core) (key : PageKey) → IsSound k c → Can (Take key) c
    → get_elem? c.homes (slot_number c.driver.terms.limits key)
    ≡ maybe.some (maybe.some (Some (page_left c.driver key)))
taken_known k c key o can =
    ap (λ l. get_elem? c.homes (slot_number l key)) (limits_of o) ∙ gives_run k c key o can
    ∙ ap (λ b. maybe.some (maybe.some (Some b))) (sym (left_is k c key o))
