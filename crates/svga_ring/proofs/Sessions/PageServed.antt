-- A page of the framebuffer is given, an UPDATE that touches it is served behind which a FENCE comes, and the
-- driver takes the page once it sees the fence.
use Rattle.std.proofs.Common.{◌≡◌, ◌≢◌, ℕ, zero, suc, ◌+◌, ◌<◌, ◌≤◌, ◌^◌, List, [], ◌∷◌, ◌++◌, ◌||◌, Bool, true, false, Some, None, is_none, option_and_then, option_map, slice_index_or, unwrap_or, refl, sym, ap, subst, ◌∙◌, arith}
use Rattle.std.proofs.lemmas.Option.{none-some, same_Some}
use Rattle.std.specs.FinMap as map
use Rattle.std.specs.FinSet as set
use Rattle.std.specs.FinSet.{contains-empty}
use Rattle.std.specs.List.{list_any}
use Rattle.std.specs.Ordering.{eq_by_cmp}
use mathlib.Core.Option as maybe
use Rattle.svga_cmd.proofs.KeyLaws.{keys_exact, keys_total}
use Rattle.svga_cmd.proofs.Maps.{by_key, get_other, get_same, one_key, tied}
use Rattle.svga_cmd.specs.Limits.{frame_page_count}
use Rattle.svga_cmd.specs.Pages.{IsKey, key_cmp, page_at}
use Rattle.svga_cmd.specs.Spelling.{Spells}
use Rattle.svga_cmd.specs.declared.command.Command.{Command}
use Rattle.svga_cmd.specs.declared.command.Command.TheVariants.{Fence, Update}
use Rattle.svga_cmd.specs.declared.page.PageKey.{PageKey}
use Rattle.svga_cmd.specs.declared.page.PageKey.TheVariants.{Frame}
use Rattle.svga_cmd.specs.declared.session.Session.{Session}
use Rattle.svga_cmd.specs.declared.session.Way.TheVariants.{Reserve}
use Rattle.svga_model.proofs.PutLaws.{page_put, put_admissible}
use Rattle.svga_model.proofs.RunLaws.{run-first}
use Rattle.svga_model.proofs.ValidMemory.{opening_has}
use Rattle.svga_model.specs.Acts.{Do, Put}
use Rattle.svga_model.specs.Faults.{IsAdmissible, fault_of}
use Rattle.svga_model.specs.Fences.{number_of_fence}
use Rattle.svga_model.specs.Regions.{frame_places}
use Rattle.svga_model.specs.Runs.{run}
use Rattle.svga_model.specs.States.{State, frame_pages, opening_state}
use Rattle.svga_model.specs.Steps.{step}
use Rattle.svga_model.specs.Touches.{Touches, has_page, is_page, touches}
use Rattle.svga_ring.proofs.Pages.Locations.{in_here, not_out_again}
use Rattle.svga_ring.proofs.Pages.Noted.{first_held_page, held_unnoted}
use Rattle.svga_ring.proofs.Sessions.ChainRead.{is_zeros, zeros}
use Rattle.svga_ring.proofs.Sessions.Closes.{can_go_on}
use Rattle.svga_ring.proofs.Sessions.FenceTaken.{fence_admissible, fence_touches, spells_fence}
use Rattle.svga_ring.proofs.Sessions.Reads.{can_read}
use Rattle.svga_ring.proofs.Sessions.TableWords.{opening_is_layout}
use Rattle.svga_ring.proofs.Steps.Each.{keeps_all, list_sound}
use Rattle.svga_ring.proofs.Words.Turns.{some_dwords}
use Rattle.svga_ring.specs.Conditions.{ArePending, Can, MayStoreCell, read_command}
use Rattle.svga_ring.specs.Core.{Commit, Core, Event, Give, GiveBack, Hold, LoadCell, LoadFence, LoadNext, SlotOut, Split, StoreCell, StoreFence, StoreReserved, StoreStop, Take, after, bytes_in, given_with, held_with, opening_core, put_count}
use Rattle.svga_ring.specs.Layouts.{ring_dwords}
use Rattle.svga_ring.specs.Lists.{CanAll, after_all}
use Rattle.svga_ring.specs.Noting.{given_back, holds, is_held_now, known_state}
use Rattle.svga_ring.specs.SharedTable.{slot_number}
use Rattle.svga_ring.specs.Sound.{IsSound}
use Rattle.svga_ring.specs.SoundPages.{TouchesAt}
use Rattle.svga_ring.specs.Views.{DriverView, Noted, opening_layout}

abbrev key : PageKey
key = Frame 0

abbrev update : Command
update = Update 0 0 1 1

abbrev update_words : List ℕ
update_words = 1 ∷ 0 ∷ 0 ∷ 1 ∷ 1 ∷ []

spells_update : Spells update update_words
spells_update = record { well_formed = tt; words = refl }

-- It touches the one page of the framebuffer.
frame_is : (n : ℕ) → n ≡ 1 → (q : PageKey)
    → has_page (frame_places n) q ≡ (eq_by_cmp key_cmp q key || false)
unfolding has_page
frame_is n one q = ap (λ m. list_any (is_page q) (frame_places m)) one

touches_is : (s : State) → frame_pages s.kept ≡ 1 → (q : PageKey)
    → touches s (Do update) q ≡ (eq_by_cmp key_cmp q key || false)
touches_is s one q = frame_is (frame_pages s.kept) one q

touched_is : (s : State) → frame_pages s.kept ≡ 1 → (q : PageKey) → Touches s (Do update) q → q ≡ key
touched_is s one q touched =
    go (eq_by_cmp key_cmp q key) refl (sym (touches_is s one q) ∙ touched) where
      go : (b : Bool) → eq_by_cmp key_cmp q key ≡ b → (b || false) ≡ true → q ≡ key
      go true e has = one_key keys_total keys_exact q key e
      go false e has = absurd (cc has)

update_admissible : (s : State) → IsAdmissible s (Do update)
unfolding fault_of
update_admissible s = refl

-- one word more fits
may_cell : (d : DriverView) → d.stopped ≡ false → d.reserved ≢ 0 → put_count d < 8
    → 2560 ≤ ring_dwords d.layout → MayStoreCell d
may_cell d runs some few wide = record {
  runs = runs;
  reserved = λ way. some;
  room = omega (arith, few, wide);
  short = omega (arith, few);
}

module _ (k : Session) (v : ℕ) (is : v ≡ number_of_fence k.first 0) (low : v < 2 ^ 32) (way : k.way ≡ Reserve)
    (frame : frame_page_count k.limits ≡ 1) where
  here : IsKey k.limits key
  here = omega (arith, frame)

  abbrev opening : State
  opening = opening_state k.limits k.first

  put_zeros : run opening (Put key zeros ∷ []) ≡ step opening (Put key zeros)
  put_zeros = run-first opening (Put key zeros) [] true (ap is_none (put_admissible opening key zeros))

  one_page : frame_pages (run opening (Put key zeros ∷ [])).kept ≡ 1
  one_page = ap (λ (s : State). frame_pages s.kept) put_zeros ∙ frame

  page_zeros : page_at (run opening (Put key zeros ∷ [])).memory key ≡ Some zeros
  page_zeros = ap (λ (s : State). page_at s.memory key) put_zeros
      ∙ page_put opening.memory key zeros (opening_has k.limits key here)

  abbrev giving : List Event
  giving = Split ∷ SlotOut key ∷ Give key zeros ∷ []

  can_giving : CanAll giving (opening_core k)
  can_giving = (
    refl,
    (
      (refl, (here, contains-empty key_cmp key, λ q. contains-empty key_cmp q)),
      ((refl, (in_here set.empty key, here, is_zeros)), tt),
    ),
  )

  wide : 2560 ≤ ring_dwords (opening_layout k)
  wide = (some_dwords (opening_layout k) (opening_is_layout k)).0

  abbrev writing : List Event
  writing = StoreReserved 20 ∷ StoreCell 1 ∷ StoreCell 0 ∷ StoreCell 0 ∷ StoreCell 1 ∷ StoreCell 1
      ∷ Commit update ∷ []

  can_writing : CanAll writing (after_all giving (opening_core k))
  can_writing = (
    (refl, (way, refl)),
    (
      (refl, (may_cell _ refl (omega arith) (omega arith) wide, omega arith)),
      (
        (refl, (may_cell _ refl (omega arith) (omega arith) wide, omega arith)),
        (
          (refl, (may_cell _ refl (omega arith) (omega arith) wide, omega arith)),
          (
            (refl, (may_cell _ refl (omega arith) (omega arith) wide, omega arith)),
            (
              (refl, (may_cell _ refl (omega arith) (omega arith) wide, omega arith)),
              (
                (
                  refl,
                  record {
                    all_sent = refl;
                    spelled = spells_update;
                    pending = subst (λ w. ArePending w update_words update) (sym way) refl;
                    none_open = refl;
                    admissible = update_admissible (run opening (Put key zeros ∷ []));
                    pages_lent = λ q touched.
                        subst (λ p. set.contains {R = key_cmp} (set.insert set.empty key) p ≡ true)
                        (sym (touched_is (run opening (Put key zeros ∷ [])) one_page q touched))
                        (in_here set.empty key);
                    fence = tt;
                    by_dword = λ w. absurd (cc (w, way));
                  },
                ),
                tt,
              ),
            ),
          ),
        ),
      ),
    ),
  )

  abbrev fencing : List Event
  fencing = StoreReserved 8 ∷ StoreCell 30 ∷ StoreCell v ∷ Commit (Fence v) ∷ StoreReserved 0 ∷ LoadNext ∷ []

  abbrev written : Core
  written = after_all writing (after_all giving (opening_core k))

  can_fencing : CanAll fencing written
  can_fencing = (
    (refl, (way, refl)),
    (
      (refl, (may_cell _ refl (omega arith) (omega arith) wide, omega arith)),
      (
        (refl, (may_cell _ refl (omega arith) (omega arith) wide, low)),
        (
          (
            refl,
            record {
              all_sent = refl;
              spelled = spells_fence v low;
              pending = subst (λ w. ArePending w (30 ∷ v ∷ []) (Fence v)) (sym way) refl;
              none_open = refl;
              admissible = fence_admissible _ v;
              pages_lent = λ q touched.
                  absurd (fence_touches (run opening (Put key zeros ∷ Do update ∷ [])) v q touched);
              fence = (is, omega arith);
              by_dword = λ w. absurd (cc (w, way));
            },
          ),
          ((refl, (way, refl)), ((refl, tt), tt)),
        ),
      ),
    ),
  )

  abbrev sending : List Event
  sending = giving ++ writing ++ fencing

  can_sending : CanAll sending (opening_core k)
  can_sending = can_go_on giving (writing ++ fencing) (opening_core k) can_giving
      (can_go_on writing fencing (after_all giving (opening_core k)) can_writing can_fencing)

  abbrev sent : Core
  sent = after_all sending (opening_core k)

  sent_sound : IsSound k sent
  sent_sound = list_sound k sending can_sending

  -- the UPDATE is read, and is in hand
  abbrev five : List Event
  five = LoadCell ∷ LoadCell ∷ LoadCell ∷ LoadCell ∷ LoadCell ∷ []

  can_five : CanAll five sent × ((after_all five sent).device.read ≡ update_words)
  can_five = can_read k update update_words spells_update update_words [] (30 ∷ v ∷ []) sent sent_sound refl
      refl refl refl refl

  abbrev read : Core
  read = after_all five sent

  whole : Spells update read.device.read
  whole = subst (Spells update) (sym can_five.1) spells_update

  can_hold : Can (Hold key (Do update)) read
  can_hold = (
    refl,
    (
      here,
      read_command update whole,
      touches_is (known_state read.device) frame key
          ∙ ap (λ b. b || false) (tied keys_total keys_exact key),
      held_unnoted map.empty key (map.get-empty key_cmp key),
      refl,
    ),
  )

  -- it is held, and given back as it was
  abbrev note : Noted
  note = held_with (map.get read.device.noted key)
      (bytes_in (slice_index_or read.homes (slot_number k.limits key) maybe.none))

  abbrev held : Core
  held = after (Hold key (Do update)) read

  noted_held : map.get held.device.noted key ≡ Some note
  noted_held = get_same keys_total keys_exact read.device.noted key note

  held_sound : IsSound k held
  held_sound = keeps_all k (five ++ Hold key (Do update) ∷ []) sent sent_sound
      (can_go_on five (Hold key (Do update) ∷ []) sent can_five.0 (can_hold, tt))

  abbrev given : Core
  given = after (GiveBack key zeros) held

  first_zeros : note.first ≡ zeros
  first_zeros = held_sound.runs.noted_is_run key note.first note.back noted_held
      ∙ ap (λ p. unwrap_or p []) page_zeros

  is_noted : map.get given.device.noted key ≡ Some (record { first = zeros; back = Some zeros })
  is_noted = get_same keys_total keys_exact held.device.noted key
      (given_with (map.get held.device.noted key) zeros) ∙ ap (λ n. Some (given_with n zeros)) noted_held
      ∙ ap (λ (bytes : List ℕ). Some (record { first = bytes; back = Some zeros })) first_zeros

  known_zeros : page_at (known_state given.device).memory key ≡ Some zeros
  known_zeros = first_held_page given.device.noted key ∙ ap (λ n. option_map (λ m. m.first) n) is_noted

  none_held : (q : PageKey) → holds given.device.noted q ≡ false
  none_held q = by_key keys_total keys_exact q key (holds given.device.noted q ≡ false)
      (λ same. subst (λ p. holds given.device.noted p ≡ false) (sym same) (ap is_held_now is_noted))
      (λ differ. ap is_held_now
      (get_other keys_total keys_exact held.device.noted key q
      (given_with (map.get held.device.noted key) zeros) differ
      ∙ get_other keys_total keys_exact map.empty key q note differ ∙ map.get-empty key_cmp q))

  back_is : given_back given.device.noted key ≡ Some zeros
  back_is = ap (λ n. option_and_then (λ m. m.back) n) is_noted

  can_stop : Can (StoreStop update) given
  can_stop = (
    refl,
    record {
      read_whole = whole;
      none_held = none_held;
      given = λ q touched.
          subst (λ p. given_back given.device.noted p ≡ page_at (known_state given.device).memory p)
          (sym (touched_is (known_state given.device) frame q touched)) (back_is ∙ sym known_zeros);
      all_given = λ q touched none.
          none-some zeros (sym (subst (λ p. given_back given.device.noted p ≡ None)
          (touched_is (known_state given.device) frame q touched) none) ∙ back_is);
      fence = λ value e. absurd (cc e);
    },
  )

  abbrev serving : List Event
  serving = Hold key (Do update) ∷ GiveBack key zeros ∷ StoreStop update ∷ []

  can_serving : CanAll serving read
  can_serving = (can_hold, ((refl, (here, refl, is_zeros)), (can_stop, tt)))

  abbrev stopped : Core
  stopped = after_all serving read

  stopped_sound : IsSound k stopped
  stopped_sound = keeps_all k (five ++ serving) sent sent_sound
      (can_go_on five serving sent can_five.0 can_serving)

  -- the FENCE is read, and its number stored
  abbrev two : List Event
  two = LoadCell ∷ LoadCell ∷ []

  can_two : CanAll two stopped × ((after_all two stopped).device.read ≡ 30 ∷ v ∷ [])
  can_two = can_read k (Fence v) (30 ∷ v ∷ []) (spells_fence v low) (30 ∷ v ∷ []) [] [] stopped stopped_sound
      refl refl refl (λ i. (sym can_five.1 i ++ (30 ∷ v ∷ [])) ++ []) refl

  -- behind the fence no command touches the page
  untouched : (n : ℕ) → 1 ≤ n → TouchesAt opening (Put key zeros ∷ Do update ∷ Do (Fence v) ∷ []) n key → ⊥
  untouched zero past touched = omega (arith, past)
  untouched (suc zero) past touched =
      let s : State = run opening (Put key zeros ∷ Do update ∷ []) in
      fence_touches s v key (subst (λ c. Touches s (Do c) key)
      (sym (same_Some (Fence v) touched.0 touched.1)) touched.2)
  untouched (suc (suc n)) past touched = absurd (none-some touched.0 touched.1)

  abbrev taking : List Event
  taking = StoreFence v ∷ LoadFence ∷ Take key ∷ []

  can_taking : CanAll taking (after_all two stopped)
  can_taking = (
    (refl, subst (Spells (Fence v)) (sym can_two.1) (spells_fence v low)),
    (
      (refl, tt),
      (
        (
          refl,
          (
            here,
            record {
              lent = in_here set.empty key;
              none_out = λ q. not_out_again set.empty key q (contains-empty key_cmp q);
              none_open = refl;
              untouched = untouched;
            },
          ),
        ),
        tt,
      ),
    ),
  )

  pub page_served : CanAll (sending ++ five ++ serving ++ two ++ taking) (opening_core k)
  page_served = can_go_on sending (five ++ serving ++ two ++ taking) (opening_core k) can_sending
      (can_go_on five (serving ++ two ++ taking) sent can_five.0
      (can_go_on serving (two ++ taking) read can_serving
      (can_go_on two taking stopped can_two.0 can_taking)))
