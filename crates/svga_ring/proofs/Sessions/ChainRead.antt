-- A whole session: a page of zeros is given, a chain with that page alone is asked for, read and answered;
-- the page is taken and given again, and taken once the seats have joined.
use Rattle.std.proofs.Common.{◌≡◌, ℕ, zero, suc, ◌<◌, ◌≤◌, List, [], ◌∷◌, ◌++◌, ◌||◌, cond, nat_le, nat_lt, replicate, Bool, true, false, Option, Some, None, Ok, Err, is_none, option_and_then, option_map, slice_index_or, unwrap_or, refl, sym, ap, subst, ◌∙◌, arith}
use Rattle.std.proofs.lemmas.Bool.Decides.{nat_tests}
use Rattle.std.proofs.lemmas.List.{length-replicate}
use Rattle.std.proofs.lemmas.List.Elements.{All-replicate}
use Rattle.std.specs.FinMap as map
use Rattle.std.specs.FinSet as set
use Rattle.std.specs.FinSet.{FinSet, contains-empty}
use Rattle.std.specs.Ordering.{eq_by_cmp}
use Rattle.svga_cmd.specs.declared.constants.TheConstants.{MAX_PLACES}
use Rattle.svga_cmd.proofs.KeyLaws.{keys_exact, keys_total}
use Rattle.svga_cmd.proofs.Maps.{one_key}
use Rattle.svga_cmd.specs.Pages.{IsPage, key_cmp, page_at}
use Rattle.svga_cmd.specs.declared.fault.Fault.TheVariants as fault
use Rattle.svga_cmd.specs.declared.page.PageKey.{PageKey}
use Rattle.svga_cmd.specs.declared.page.PageKey.TheVariants.{Guest}
use Rattle.svga_cmd.specs.declared.session.Session.{Session}
use Rattle.svga_model.proofs.PutLaws.{page_put, put_admissible}
use Rattle.svga_model.proofs.RunLaws.{run-first}
use Rattle.svga_model.proofs.ValidMemory.{opening_has}
use Rattle.svga_model.proofs.ValidStateLaws.{opening_good}
use Rattle.svga_model.specs.Acts.{Put, Chain}
use Rattle.svga_model.specs.Faults.{IsAdmissible, fault_of}
use Rattle.svga_model.specs.Regions.{place_count, places_with}
use Rattle.svga_model.specs.Runs.{run}
use Rattle.svga_model.specs.Standing.{first_standing, least_standing}
use Rattle.svga_model.specs.States.{State, opening_state}
use Rattle.svga_model.specs.Steps.{step}
use Rattle.svga_model.specs.Touches.{Touches, touches}
use Rattle.svga_model.specs.Walks.{TablePosition, Tables, descriptor_in, given_tests, last_tests, next_position, outcome_after, positions_from, run_pages, tables_of, unless, walk, walk_outcome}
use Rattle.svga_model.proofs.TouchWalks.{is_entered}
use Rattle.svga_ring.proofs.Steps.Each.{keeps_all, list_sound}
use Rattle.svga_ring.proofs.Sessions.Closes.{can_close, can_go_on}
use Rattle.svga_ring.proofs.Sessions.OpensInWords.{opens}
use Rattle.svga_ring.proofs.Pages.DeviceSteps.{held_is}
use Rattle.svga_ring.proofs.Pages.Locations.{in_here, not_out_again, out_here}
use Rattle.svga_ring.specs.Conditions.{Can, NoSlotOut, NoneOpen, loaded_chain}
use Rattle.svga_ring.specs.Core.{Core, Event, Give, GiveBack, HeldSlotHome, HeldSlotOut, Hold, Join, LoadConfig, LoadNext, LoadReply, LoadRequest, SlotHome, SlotOut, Split, StoreConfig, StoreReply, StoreRequest, Take, TakeJoined, after, opening_core}
use Rattle.svga_ring.specs.Lists.{CanAll, after_all}
use Rattle.svga_ring.specs.Sound.{IsSound}
use Rattle.std.proofs.lemmas.Option.{none-some}
use mathlib.Core.Option as maybe
use Rattle.svga_cmd.proofs.Maps.{by_key, get_other, get_same, tied}
use Rattle.svga_ring.proofs.Pages.Noted.{first_held_page, held_unnoted}
use Rattle.svga_ring.specs.Core.{bytes_in, given_with, held_with}
use Rattle.svga_ring.specs.Noting.{NotedPages, given_back, holds, is_held_now, known_state}
use Rattle.svga_ring.specs.Requests.{is_ring_request, next_request, no_request}
use Rattle.svga_ring.specs.SharedTable.{slot_number}
use Rattle.svga_ring.specs.Views.{Noted}
use Rattle.svga_model.specs.Memories.{page_bytes}
use Rattle.svga_ring.proofs.Acts.InHand.{chain_out}
use Rattle.svga_ring.specs.Requests.{is_chain_out}
use Rattle.svga_ring.specs.SoundPages.{reached}

abbrev pub zeros : List ℕ
zeros = replicate 4096 0

abbrev key : PageKey
key = Guest 1

abbrev top : TablePosition
top = record { table = 1; pair = 0 }

none_behind : (n guest : ℕ) (tables : Tables) → positions_from n guest tables None ≡ []
unfolding positions_from
none_behind zero guest tables = refl
none_behind (suc n) guest tables = refl

-- a walk over a page of zeros, or over one that isn't known, goes no further than its first pair
next_zeros : (guest : ℕ) → next_position guest top (descriptor_in zeros 0) ≡ None
next_zeros guest = refl

next_unknown : (guest : ℕ) → next_position guest top (descriptor_in [] 0) ≡ None
next_unknown guest = refl

walk_one : (guest : ℕ) (tables : Tables) → next_position guest top (descriptor_in (tables 1) 0) ≡ None
    → walk guest tables 1 ≡ top ∷ []
unfolding positions_from
walk_one guest tables ends =
    ap (λ next. top ∷ positions_from 4095 guest tables next) ends
    ∙ ap (λ l. top ∷ l) (none_behind 4095 guest tables)

-- it gives no pages
zeros_given : (guest : ℕ) (tables : Tables) → 1 < guest → tables 1 ≡ zeros
    → walk_outcome guest tables 1 ≡ Ok []
zeros_given guest tables low are =
    let inside : nat_le guest 1 ≡ false = grind (arith, nat_tests) in
    let ends : next_position guest top (descriptor_in (tables 1) 0) ≡ None =
    ap (λ page. next_position guest top (descriptor_in page 0)) are ∙ next_zeros guest in
    ap (λ b. cond b (Err fault.BadPage) (outcome_after guest tables 0 [] (walk guest tables 1))) inside
    ∙ ap (λ places. outcome_after guest tables 0 [] places) (walk_one guest tables ends)
    ∙ ap (λ page. unless (first_standing (last_tests guest 1 top (descriptor_in page 0)))
    ([] ++ (run_pages (descriptor_in page 0) ++ []))) are

zeros_admissible : (s : State) (id : ℕ) → id ≤ 4095 → 1 < s.kept.limits.pages → tables_of s.memory 1 ≡ zeros
    → place_count s.kept.regions ≤ MAX_PLACES → IsAdmissible s (Chain id 1)
unfolding fault_of
zeros_admissible s id low guest are few =
    let small : nat_lt 4095 id ≡ false = grind (arith, nat_tests) in
    let room : nat_lt MAX_PLACES (places_with s.kept.regions id 0) ≡ false = grind (arith, nat_tests) in
    ap (λ high. least_standing ((high, fault.RegionId) ∷ cond (high || false) []
    (given_tests s.kept.regions id (walk_outcome s.kept.limits.pages (tables_of s.memory) 1)))) small
    ∙ ap (λ given. least_standing ((false, fault.RegionId) ∷ given_tests s.kept.regions id given))
    (zeros_given s.kept.limits.pages (tables_of s.memory) guest are)
    ∙ ap (λ full. least_standing ((false, fault.RegionId) ∷ (full, fault.PlaceLimit) ∷ [])) room

-- it touches that page alone
touches_is : (s : State) (id : ℕ) (q : PageKey)
    → next_position s.kept.limits.pages top (descriptor_in (tables_of s.memory 1) 0) ≡ None
    → touches s (Chain id 1) q ≡ (eq_by_cmp key_cmp q key || false)
touches_is s id q ends =
    ap (λ places. is_entered q places) (walk_one s.kept.limits.pages (tables_of s.memory) ends)

touched_is : (s : State) (id : ℕ) (q : PageKey)
    → next_position s.kept.limits.pages top (descriptor_in (tables_of s.memory 1) 0) ≡ None
    → Touches s (Chain id 1) q → q ≡ key
touched_is s id q ends touched =
    go (eq_by_cmp key_cmp q key) refl (sym (touches_is s id q ends) ∙ touched) where
      go : (b : Bool) → eq_by_cmp key_cmp q key ≡ b → (b || false) ≡ true → q ≡ key
      go true e has = one_key keys_total keys_exact q key e
      go false e has = absurd (cc has)

-- The state with the page of zeros put.
put_zeros : (k : Session) → 1 < k.limits.pages
    → run (opening_state k.limits k.first) (Put key zeros ∷ [])
    ≡ step (opening_state k.limits k.first) (Put key zeros)
put_zeros k low =
    let s = opening_state k.limits k.first in
    run-first s (Put key zeros) [] true (ap is_none (put_admissible s key zeros))

table_zeros : (k : Session) → 1 < k.limits.pages
    → page_at (run (opening_state k.limits k.first) (Put key zeros ∷ [])).memory key ≡ Some zeros
table_zeros k low =
    let s = opening_state k.limits k.first in
    ap (λ (t : State). page_at t.memory key) (put_zeros k low)
    ∙ page_put s.memory key zeros (opening_has k.limits key low)

pub is_zeros : IsPage zeros
is_zeros = record {
  length_is = length-replicate {A = ℕ} 4096 0;
  each = All-replicate (λ byte. byte < 256)
      4096 0 (omega arith);
}

asked_zeros : (k : Session) (id : ℕ) → id ≤ 4095 → 1 < k.limits.pages
    → IsAdmissible (run (opening_state k.limits k.first) (Put key zeros ∷ [])) (Chain id 1)
asked_zeros k id low guest =
    let s = opening_state k.limits k.first in
    let t : State = step s (Put key zeros) in
    subst (λ (u : State). IsAdmissible u (Chain id 1)) (sym (put_zeros k guest))
    (zeros_admissible t id low guest (ap (λ p. unwrap_or p [])
    (page_put s.memory key zeros (opening_has k.limits key guest)))
    (opening_good k.limits k.first k.within.device).kept.regions.within)

ends_there : (k : Session) → 1 < k.limits.pages
    → next_position (run (opening_state k.limits k.first) (Put key zeros ∷ [])).kept.limits.pages top
    (descriptor_in (tables_of (run (opening_state k.limits k.first) (Put key zeros ∷ [])).memory 1) 0) ≡ None
ends_there k low =
    let t : State = run (opening_state k.limits k.first) (Put key zeros ∷ []) in
    ap (λ p. next_position t.kept.limits.pages top (descriptor_in (unwrap_or p []) 0)) (table_zeros k low)
    ∙ next_zeros t.kept.limits.pages

abbrev asking : ℕ → List Event
asking id = Split ∷ SlotOut key ∷ Give key zeros ∷ StoreRequest id 1 ∷ LoadRequest ∷ []

can_asking : (k : Session) (id : ℕ) → id ≤ 4095 → 1 < k.limits.pages → CanAll (asking id) (opening_core k)
can_asking k id low guest = (
  refl,
  (
    (refl, (guest, contains-empty key_cmp key, λ q. contains-empty key_cmp q)),
    (
      (refl, (in_here set.empty key, guest, is_zeros)),
      (
        (
          refl,
          record {
            runs = refl;
            none_pending = refl;
            none_reserved = λ w. refl;
            none_open = refl;
            all_taken = (opens k).loads.stop_is (λ e. cc e);
            admissible = asked_zeros k id low guest;
            pages_lent = λ q touched.
                subst (λ p. set.contains {R = key_cmp} (set.insert set.empty key) p ≡ true)
                (sym (touched_is (run (opening_state k.limits k.first) (Put key zeros ∷ [])) id q
                (ends_there k guest) touched))
                (in_here set.empty key);
          },
        ),
        ((refl, tt), tt),
      ),
    ),
  ),
)

abbrev asked : Session → ℕ → Core
asked k id = after_all (asking id) (opening_core k)

asked_sound : (k : Session) (id : ℕ) → id ≤ 4095 → 1 < k.limits.pages → IsSound k (asked k id)
asked_sound k id low guest = list_sound k (asking id) (can_asking k id low guest)

-- The chain is in hand, and the page may be held.
module _ (k : Session) (id : ℕ) (low : id ≤ 4095) (guest : 1 < k.limits.pages) where
  no_ring : is_ring_request (next_request no_request id 1) ≡ false
  no_ring = grind (arith, nat_tests)

  unknown : next_position k.limits.pages top (descriptor_in
      (tables_of (known_state (asked k id).device).memory 1) 0) ≡ None
  unknown = ap (λ p. next_position k.limits.pages top (descriptor_in (unwrap_or p []) 0))
      (first_held_page map.empty key ∙ ap (λ (n : Option Noted). option_map (λ m. m.first) n)
      (map.get-empty key_cmp key))
      ∙ next_unknown k.limits.pages

  can_hold : Can (Hold key (Chain id 1)) (asked k id)
  can_hold = (
    refl,
    (
      guest,
      loaded_chain refl (omega arith) no_ring,
      touches_is (known_state (asked k id).device) id key unknown
          ∙ ap (λ b. b || false) (tied keys_total keys_exact key),
      held_unnoted map.empty key (map.get-empty key_cmp key),
      refl,
    ),
  )

  -- what is noted of it
  abbrev note : Noted
  note = held_with (map.get (asked k id).device.noted key)
      (bytes_in (slice_index_or (asked k id).homes (slot_number k.limits key) maybe.none))

  noted_held : map.get (after (Hold key (Chain id 1)) (asked k id)).device.noted key ≡ Some note
  noted_held = get_same keys_total keys_exact (asked k id).device.noted key note

  -- its slot is brought home and taken out again
  abbrev holding : List Event
  holding = Hold key (Chain id 1) ∷ HeldSlotHome key ∷ HeldSlotOut key ∷ []

  can_holding : CanAll holding (asked k id)
  can_holding =
      let noted : NotedPages = (after (Hold key (Chain id 1)) (asked k id)).device.noted in
      let is_held : holds noted key ≡ true = ap is_held_now noted_held
      ∙ held_is (map.get (asked k id).device.noted key)
      (bytes_in (slice_index_or (asked k id).homes (slot_number k.limits key) maybe.none)) in
      (can_hold, ((refl, (guest, refl)), ((refl, (guest, is_held, refl)), tt)))

  abbrev held : Core
  held = after_all holding (asked k id)

  held_sound : IsSound k held
  held_sound = keeps_all k holding (asked k id) (asked_sound k id low guest) can_holding

  can_give : Can (GiveBack key zeros) held
  can_give = (refl, (guest, refl, is_zeros))

  abbrev given : Core
  given = after (GiveBack key zeros) held

  is_out : is_chain_out held.driver.request held.device.answered ≡ true
  is_out = chain_out held.driver.request held.device.answered (omega arith) no_ring

  first_zeros : note.first ≡ zeros
  first_zeros = held_sound.runs.noted_is_run key note.first note.back noted_held
      ∙ ap (λ out. page_bytes (reached (opening_state k.limits k.first) held.device.done out
      held.driver.acts).memory key) is_out
      ∙ ap (λ p. unwrap_or p []) (table_zeros k guest)

  noted_given : map.get given.device.noted key ≡ Some (given_with (map.get held.device.noted key) zeros)
  noted_given = get_same keys_total keys_exact held.device.noted key
      (given_with (map.get held.device.noted key) zeros)

  is_noted : map.get given.device.noted key ≡ Some (record { first = zeros; back = Some zeros })
  is_noted = noted_given ∙ ap (λ n. Some (given_with n zeros)) noted_held
      ∙ ap (λ (bytes : List ℕ). Some (record { first = bytes; back = Some zeros })) first_zeros

  known_zeros : page_at (known_state given.device).memory key ≡ Some zeros
  known_zeros = first_held_page given.device.noted key ∙ ap (λ n. option_map (λ m. m.first) n) is_noted

  ends_known : next_position given.device.kept.limits.pages top
      (descriptor_in (tables_of (known_state given.device).memory 1) 0)
      ≡ None
  ends_known = ap (λ p. next_position given.device.kept.limits.pages top (descriptor_in (unwrap_or p []) 0))
      known_zeros
      ∙ next_zeros given.device.kept.limits.pages

  none_held : (q : PageKey) → holds given.device.noted q ≡ false
  none_held q = by_key keys_total keys_exact q key (holds given.device.noted q ≡ false)
      (λ same. subst (λ p. holds given.device.noted p ≡ false) (sym same) (ap is_held_now is_noted))
      (λ differ. ap is_held_now
      (get_other keys_total keys_exact held.device.noted key q
      (given_with (map.get held.device.noted key) zeros) differ
      ∙ get_other keys_total keys_exact map.empty key q note differ ∙ map.get-empty key_cmp q))

  back_is : given_back given.device.noted key ≡ Some zeros
  back_is = ap (λ n. option_and_then (λ m. m.back) n) is_noted

  can_reply : Can StoreReply given
  can_reply = (
    refl,
    record {
      waits = omega arith;
      no_ring = no_ring;
      none_held = none_held;
      given = λ q touched.
          subst (λ p. given_back given.device.noted p ≡ page_at (known_state given.device).memory p)
          (sym (touched_is (known_state given.device) id q ends_known touched)) (back_is ∙ sym known_zeros);
      all_given = λ q touched none.
          none-some zeros (sym (subst (λ p. given_back given.device.noted p ≡ None)
          (touched_is (known_state given.device) id q ends_known touched) none) ∙ back_is);
    },
  )

  abbrev reading : List Event
  reading = asking id ++ holding ++ GiveBack key zeros ∷ StoreReply ∷ LoadReply ∷ []

  can_read : CanAll reading (opening_core k)
  can_read = can_go_on (asking id) (holding ++ GiveBack key zeros ∷ StoreReply ∷ LoadReply ∷ [])
      (opening_core k)
      (can_asking k id low guest)
      (can_go_on holding (GiveBack key zeros ∷ StoreReply ∷ LoadReply ∷ []) (asked k id) can_holding
      (can_give, (can_reply, ((refl, tt), tt))))

  abbrev answered : Core
  answered = after_all reading (opening_core k)

  answered_sound : IsSound k answered
  answered_sound = list_sound k reading can_read

  none_open : NoneOpen answered.driver
  none_open = sym answered_sound.requests.reply_is

  -- the driver takes the page, puts its empty slot home, and gives the page again
  no_slot : NoSlotOut answered.driver
  no_slot q = not_out_again set.empty key q (contains-empty key_cmp q)

  abbrev again : List Event
  again = Take key ∷ SlotHome key ∷ SlotOut key ∷ Give key zeros ∷ []

  can_again : CanAll again answered
  can_again =
      let first : FinSet key_cmp = answered.driver.out in (
        (
          refl,
          (
            guest,
            record {
              lent = in_here set.empty key;
              none_out = no_slot;
              none_open = none_open;
              untouched = λ n low touched. absurd (none-some touched.0 touched.1);
            },
          ),
        ),
        (
          (refl, (guest, in_here first key)),
          (
            (
              refl,
              (guest, out_here answered.driver.lent key, λ q. not_out_again first key q (no_slot q)),
            ),
            ((refl, (in_here (set.remove (set.insert first key) key) key, guest, is_zeros)), tt),
          ),
        ),
      )

  abbrev given_again : Core
  given_again = after_all again answered

  abbrev closing : List Event
  closing = StoreConfig ∷ LoadConfig ∷ LoadNext ∷ Join ∷ []

  can_end : CanAll (closing ++ TakeJoined key ∷ []) given_again
  can_end =
      let o = keeps_all k again answered answered_sound can_again in
      can_go_on closing (TakeJoined key ∷ []) given_again (can_close k given_again o refl none_open refl
      (λ w. refl) refl)
      ((refl, (guest, in_here (set.remove answered.driver.lent key) key)), tt)

  pub with_chain : CanAll (reading ++ again ++ closing ++ TakeJoined key ∷ []) (opening_core k)
  with_chain = can_go_on reading (again ++ closing ++ TakeJoined key ∷ []) (opening_core k) can_read
      (can_go_on again (closing ++ TakeJoined key ∷ []) answered can_again can_end)
