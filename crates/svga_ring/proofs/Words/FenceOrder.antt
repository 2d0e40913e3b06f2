-- Fences: how many stand among the first commands, what the register tells, and that each step keeps them in
-- order.
use Rattle.std.proofs.Common.{◌≡◌, ◌≢◌, inl, inr, ℕ, zero, suc, ◌+◌, ◌-◌, ◌<◌, ◌≤◌, List, [], ◌∷◌, ◌++◌, length, take, drop, get_or, slice_index, slice_set, Bool, true, false, if◌then◌else◌, Some, refl, sym, ap, subst, ◌∙◌, arith, append-nil, length-append, add-one, get_or-set_same}
use Rattle.std.proofs.Math.Seq.{get_or-append_seam, take-suc}
use Rattle.std.proofs.lemmas.Bool.{cases_lt}
use Rattle.std.proofs.lemmas.Bool.Decides.{nat_tests}
use Rattle.std.proofs.lemmas.List.{get_or_append_left, take-append-drop, take-append-le, take_all}
use Rattle.std.proofs.lemmas.List.Elements.{filter_map-append}
use Rattle.std.proofs.lemmas.Option.{get_or_from_slice_get, none-some, same_Some, slice_get_within}
use Rattle.std.specs.List.{slice_get}
use Rattle.svga_cmd.specs.declared.constants.TheConstants.{FENCE_WINDOW}
use Rattle.svga_cmd.proofs.SpelledLaws.{same_command}
use Rattle.svga_cmd.specs.Spelling.{Spells}
use Rattle.svga_cmd.specs.declared.command.Command.{Command}
use Rattle.svga_cmd.specs.declared.command.Command.TheVariants.{Fence}
use Rattle.svga_cmd.specs.declared.session.Session.{Session}
use Rattle.svga_model.specs.Fences.{fence_value, fences, number_of_fence, register_after}
use Rattle.svga_ring.proofs.Words.Cells.{fixed_set, open_fence, ring_beside}
use Rattle.svga_ring.proofs.Words.Told.{in_hand}
use Rattle.svga_ring.proofs.Words.NextCommand.{IsNext}
use Rattle.svga_ring.specs.Committed.{commands, fences_passed}
use Rattle.svga_ring.specs.Conditions.{Can, IsNextFence}
use Rattle.svga_ring.specs.Core.{Core, StoreFence, after}
use Rattle.svga_ring.specs.Seen.{IsSeen}
use Rattle.svga_ring.specs.SharedTable.{fence_word}
use Rattle.svga_ring.specs.Sound.{IsSoundOfWords}
use Rattle.svga_ring.specs.SoundFences.{AreFencesInOrder}

-- a command, between those before and those behind
split_at : (cs : List Command) (n : ℕ) (c : Command) → slice_get cs n ≡ Some c
    → cs ≡ take n cs ++ c ∷ drop (suc n) cs
split_at [] n c e = absurd (none-some c e)
split_at (d ∷ ds) zero c e = ap (λ x. x ∷ ds) (same_Some d c e)
split_at (d ∷ ds) (suc n) c e = ap (λ l. d ∷ l) (split_at ds n c e)

-- how many fences the first n commands have
abbrev fences_before : List Command → ℕ → ℕ
fences_before cs n = length (fences (take n cs))

-- they have no more than all
fences_within : (n : ℕ) (cs : List Command) → fences_before cs n ≤ length (fences cs)
fences_within n cs =
    let front : List Command = take n cs in
    let back : List Command = drop n cs in
    let whole : fences (front ++ back) ≡ fences cs = ap (λ l. fences l) (take-append-drop n cs) in
    let parts : fences (front ++ back) ≡ fences front
    ++ fences back = filter_map-append fence_value front back in
    omega (arith, ap length whole, ap length parts, length-append (fences front) (fences back))

-- the fences among one command more
pub fences_to : (cs : List Command) (n : ℕ) (c : Command) → slice_get cs n ≡ Some c
    → fences (take (suc n) cs) ≡ fences (take n cs) ++ fences (c ∷ [])
fences_to cs n c is =
    ap (λ l. fences l) (take-suc cs n c (slice_get_within cs n c is)
    ∙ ap (λ d. take n cs ++ d ∷ []) (get_or_from_slice_get cs n c c is))
    ∙ filter_map-append fence_value (take n cs) (c ∷ [])

-- the fence that command n is comes behind those of the commands before
record IsFenceAt (cs : List Command) (n value : ℕ) : Type 0 where
  pub there : fences_before cs n < length (fences cs)
  pub is : slice_index (fences cs) (fences_before cs n) ≡ value

fence_at : (cs : List Command) (n value : ℕ) → slice_get cs n ≡ Some (Fence value) → IsFenceAt cs n value
fence_at cs n value e =
    let front : List Command = take n cs in
    let back : List Command = drop (suc n) cs in
    let split : fences cs ≡ fences (front ++ Fence value ∷ back) = ap (λ l. fences l)
    (split_at cs n (Fence value) e) in
    let parts : fences cs ≡ fences front ++ value ∷ fences back =
    split ∙ filter_map-append fence_value front (Fence value ∷ back) in
    let seam = get_or-append_seam (fences front) value (fences back) 0 in
    record {
      there = omega (arith, ap length parts, length-append (fences front) (value ∷ fences back));
      is = ap (λ l. slice_index l (length (fences front))) parts ∙ seam;
    }

-- the fences that have passed are there, where one that is stored is the next command
passed_low : (cs : List Command) (done : ℕ) (stored : Bool)
    → (stored ≡ true → (value : ℕ) × (slice_get cs done ≡ Some (Fence value)))
    → fences_passed cs done stored ≤ length (fences cs)
passed_low cs done false of_fence = let low = fences_within done cs in omega arith
passed_low cs done true of_fence =
    let at = of_fence refl in
    let here = fence_at cs done at.0 at.1 in
    omega (arith, here.there)

-- with the fence in hand no fewer have passed
passed_more : (cs : List Command) (done : ℕ) (stored : Bool)
    → fences_passed cs done stored ≤ fences_passed cs done true
passed_more cs done false = omega arith
passed_more cs done true = omega arith

-- the register shows the number of the last fence
register_last : (first n : ℕ) → register_after first (suc n) ≡ number_of_fence first n
register_last first n = grind (arith, nat_tests)

register_more : (first n : ℕ) → register_after first (n + 1) ≡ number_of_fence first n
register_more first n = ap (λ m. register_after first m) (add-one n) ∙ register_last first n

-- Fences that are at most 65,536 apart and have one number are one, and no near fence has the number below
-- the first.
same_numbers : (first j m : ℕ) → j ≤ m + FENCE_WINDOW → m ≤ j + FENCE_WINDOW
    → number_of_fence first j ≡ number_of_fence first m → j ≡ m
same_numbers first j m ahead behind e = omega arith

none_yet : (first m : ℕ) → m < FENCE_WINDOW → first - 1 ≢ number_of_fence first m
none_yet first m low e = omega arith

-- so counts of fences that are at most 65,536 apart are one where the register is
same_fences : (first j m : ℕ) → j ≤ m + FENCE_WINDOW → m ≤ j + FENCE_WINDOW
    → register_after first j ≡ register_after first m → j ≡ m
same_fences first zero zero ahead behind e = refl
same_fences first zero (suc m) ahead behind e = absurd
    (none_yet first m (omega arith) (e ∙ register_last first m))
same_fences first (suc j) zero ahead behind e = absurd
    (none_yet first j (omega arith) (sym e ∙ register_last first j))
same_fences first (suc j) (suc m) ahead behind e =
    let one : number_of_fence first j ≡ number_of_fence first m =
    sym (register_last first j) ∙ e ∙ register_last first m in
    ap suc (same_numbers first j m (omega arith) (omega arith) one)

-- Of the counts that the register may show one alone is right.
pub seen_is : {first seen sent register j m : ℕ} → sent ≤ seen + FENCE_WINDOW
    → IsSeen first seen sent register j
    → IsSeen first seen sent register m → j ≡ m
seen_is {first = first} {j = j} {m = m} window of_j of_m =
    let ahead : j ≤ m + FENCE_WINDOW = omega (arith, of_j.most, of_m.least) in
    let behind : m ≤ j + FENCE_WINDOW = omega (arith, of_m.most, of_j.least) in
    same_fences first j m ahead behind (sym of_j.shown ∙ of_m.shown)

-- A fence in hand is the next of the commands,
pub fence_in_hand : {k : Session} {c : Core} → IsSoundOfWords k c → c.device.stored ≡ true
    → (value : ℕ) × (slice_get (commands c.driver.acts) c.device.done ≡ Some (Fence value))
fence_in_hand o stored = let fence = o.fences.in_hand stored in
    (fence.0, (in_hand (Fence fence.0) o fence.1).is)

-- so no more fences have passed than there are.
pub passed_in : {k : Session} {c : Core} → IsSoundOfWords k c
    → IsSeen k.first c.driver.seen (length (fences (commands c.driver.acts))) (slice_index c.words fence_word)
    (fences_passed (commands c.driver.acts) c.device.done c.device.stored)
passed_in {c = c} o = record {
  least = o.fences.seen_passed;
  most = passed_low (commands c.driver.acts) c.device.done c.device.stored (fence_in_hand o);
  shown = o.fences.register_is;
}

-- Where all commands are done, FENCE shows the number of the last fence.
pub last_fence : {k : Session} {c : Core} → IsSoundOfWords k c
    → c.device.done ≡ length (commands c.driver.acts)
    → slice_index c.words fence_word ≡ register_after k.first (length (fences (commands c.driver.acts)))
last_fence {k} {c} o all =
    let cs = commands c.driver.acts in
    let whole : length (fences (take c.device.done cs)) ≡ length (fences cs) =
    ap (λ l. length (fences l)) (take_all c.device.done cs (omega (arith, all))) in
    o.fences.register_is ∙ ap (register_after k.first) (omega (arith, whole, (passed_in o).most))

-- fences have their numbers in order, and few enough are past those seen
record AreNumbered (first seen : ℕ) (numbers : List ℕ) : Type 0 where
  numbered : (j : ℕ) → j < length numbers → get_or numbers j 0 ≡ number_of_fence first j
  window : length numbers ≤ seen + FENCE_WINDOW

one_numbered : (first seen value : ℕ) (numbers : List ℕ) → value ≡ number_of_fence first (length numbers)
    → length numbers < seen + FENCE_WINDOW
    → AreNumbered first seen numbers → AreNumbered first seen (numbers ++ value ∷ [])
one_numbered first seen value numbers is near o =
    let longer : length (numbers ++ value ∷ []) ≡ length numbers + 1 = length-append numbers (value ∷ []) in
    record {
      numbered = λ j less. elim (cases_lt j (length numbers)) as
          (λ _. get_or (numbers ++ value ∷ []) j 0 ≡ number_of_fence first j) [
            | inl earlier ↦ get_or_append_left numbers (value ∷ []) 0 j earlier ∙ o.numbered j earlier
            | inr past ↦
                let same : j ≡ length numbers = omega (arith, past, less, longer) in
                ap (λ n. get_or (numbers ++ value ∷ []) n 0) same ∙ get_or-append_seam numbers value [] 0 ∙ is
                ∙ ap (λ n. number_of_fence first n) (sym same)
          ];
      window = omega (arith, near, longer);
    }

-- a command more
numbered_more : (first : ℕ) (cs : List Command) (seen : ℕ) (c : Command) → IsNextFence first cs seen c
    → AreNumbered first seen (fences cs) → AreNumbered first seen (fences cs ++ fences (c ∷ []))
numbered_more first cs seen (Fence value) is o = one_numbered first seen value (fences cs) is.0 is.1 o
numbered_more first cs seen c is o = subst (λ l. AreNumbered first seen l) (sym (append-nil (fences cs))) o

pub fences_commit : (first : ℕ) (cs : List Command) (c : Command) (done : ℕ) (read : List ℕ) (stored : Bool)
    (register seen last : ℕ) → done ≤ length cs → IsNextFence first cs seen c
    → AreFencesInOrder first cs done read stored register seen last
    → AreFencesInOrder first (cs ++ c ∷ []) done read stored register seen last
fences_commit first cs c done read stored register seen last low is o =
    let more : fences (cs ++ c ∷ []) ≡ fences cs
    ++ fences (c ∷ []) = filter_map-append fence_value cs (c ∷ []) in
    let all : AreNumbered first seen (fences (cs ++ c ∷ [])) =
    subst (λ l. AreNumbered first seen l) (sym more)
    (numbered_more first cs seen c is record { numbered = o.numbered; window = o.window }) in
    let same : fences_passed cs done stored ≡ fences_passed (cs ++ c ∷ []) done stored =
    ap (λ l. length (fences l) + (if stored then 1 else 0)) (sym (take-append-le done cs (c ∷ []) low)) in
    record {
      numbered = all.numbered;
      window = all.window;
      register_is = o.register_is ∙ ap (λ n. register_after first n) same;
      seen_passed = omega (arith, o.seen_passed, same);
      in_hand = o.in_hand;
      last_is = o.last_is;
    }

-- words that are read further: no fence was in hand whose number is stored
pub fences_read : (first : ℕ) (cs : List Command) (done : ℕ) (read more : List ℕ) (stored : Bool)
    (register seen last : ℕ) → ((command : Command) → Spells command read → ⊥)
    → AreFencesInOrder first cs done read stored register seen last
    → AreFencesInOrder first cs done more stored register seen last
fences_read first cs done read more stored register seen last not_whole o = record {
  numbered = o.numbered;
  window = o.window;
  register_is = o.register_is;
  seen_passed = o.seen_passed;
  in_hand = λ t. absurd (let fence = o.in_hand t in not_whole (Fence fence.0) fence.1);
  last_is = o.last_is;
}

-- a word beside FENCE is stored
pub fences_beside : (first : ℕ) (cs : List Command) (done : ℕ) (read : List ℕ) (stored : Bool)
    (register other seen last : ℕ) → other ≡ register
    → AreFencesInOrder first cs done read stored register seen last
    → AreFencesInOrder first cs done read stored other seen last
fences_beside first cs done read stored register other seen last same o = record {
  numbered = o.numbered;
  window = o.window;
  register_is = same ∙ o.register_is;
  seen_passed = o.seen_passed;
  in_hand = o.in_hand;
  last_is = o.last_is;
}

-- a number is stored of a fence alone
none_stored : (c : Command) (read : List ℕ) (stored : Bool) → Spells c read
    → (stored ≡ true → (value : ℕ) × Spells (Fence value) read) → ((value : ℕ) → c ≡ Fence value → ⊥)
    → ◌≡◌ {A = ℕ} 0 (if stored then 1 else 0)
none_stored c read false spells hand is_none_of = refl
none_stored c read true spells hand is_none_of =
    let fence = hand refl in absurd (is_none_of fence.0 (same_command c (Fence fence.0) read spells fence.1))

-- the command that was read counts as a fence where its number is stored
counted : (c : Command) (read : List ℕ) (stored : Bool) → Spells c read
    → ((value : ℕ) → c ≡ Fence value → stored ≡ true)
    → (stored ≡ true → (value : ℕ) × Spells (Fence value) read)
    → length (fences (c ∷ [])) ≡ (if stored then 1 else 0)
counted (Fence value) read stored spells is hand = ap (λ b. if b then 1 else 0) (sym (is value refl))
counted c read stored spells is hand = none_stored c read stored spells hand (λ value e. cc e)

-- the command in hand is taken: its fence has passed already
pub fences_taken : (first : ℕ) (cs : List Command) (c : Command) (done : ℕ) (read : List ℕ) (stored : Bool)
    (register seen last : ℕ)
    → IsNext cs done c read → Spells c read → ((value : ℕ) → c ≡ Fence value → stored ≡ true)
    → AreFencesInOrder first cs done read stored register seen last
    → AreFencesInOrder first cs (done + 1) [] false register seen last
fences_taken first cs c done read stored register seen last next spells is o =
    let one : length (fences (c ∷ [])) ≡ (if stored then 1 else 0) = counted c read stored spells is
    o.in_hand in
    let longer : length (fences (take (done + 1) cs))
    ≡ length (fences (take done cs)) + length (fences (c ∷ [])) =
    ap (λ n. length (fences (take n cs))) (add-one done) ∙ ap length (fences_to cs done c next.is)
    ∙ length-append (fences (take done cs)) (fences (c ∷ [])) in
    let same : fences_passed cs done stored ≡ fences_passed cs (done + 1) false = omega
    (arith, one, longer) in record {
      numbered = o.numbered;
      window = o.window;
      register_is = o.register_is ∙ ap (λ n. register_after first n) same;
      seen_passed = omega (arith, o.seen_passed, same);
      in_hand = λ t. absurd (cc t);
      last_is = o.last_is;
    }

-- FENCE is stored: it shows the fence in hand
pub fences_stored : {first done register seen last value : ℕ} {cs : List Command} {read : List ℕ}
    {stored : Bool}
    (words : List ℕ) → Spells (Fence value) read → slice_get cs done ≡ Some (Fence value)
    → fence_word < length words
    → AreFencesInOrder first cs done read stored register seen last
    → AreFencesInOrder first cs done read true (slice_index (slice_set words fence_word value) fence_word)
    seen last
fences_stored {first} {done} {register} {seen} {last} {value} {cs} {read} {stored} words spells is inside
    of_fences =
    let here = fence_at cs done value is in
    let before : ℕ = fences_before cs done in
    let shown : value ≡ register_after first (before + 1) =
    sym here.is ∙ of_fences.numbered before here.there ∙ sym (register_more first before) in
    record {
      numbered = of_fences.numbered;
      window = of_fences.window;
      register_is = get_or-set_same words 6 value 0 inside ∙ shown;
      seen_passed = omega (arith, of_fences.seen_passed, passed_more cs done stored);
      in_hand = λ q. (value, spells);
      last_is = of_fences.last_is;
    }

-- The step of the device that stores it keeps what is sound of words.
pub words_store_fence : (k : Session) (c : Core) (value : ℕ) → IsSoundOfWords k c → Can (StoreFence value) c
    → IsSoundOfWords k (after (StoreFence value) c)
words_store_fence k c value o can =
    let lay = c.device.layout in
    let next = in_hand (Fence value) o can.1 in record {
      session = o.session;
      order = o.order;
      ring = ring_beside fence_word value o.session.layout (search arith) o.ring;
      fixed = fixed_set _ _ lay _ fence_word value (open_fence lay) o.fixed;
      known = o.known;
      loads = o.loads;
      fences = fences_stored c.words can.1 next.is (omega (arith, o.fixed.length_is)) o.fences;
      acts = o.acts;
    }

-- Where FENCE is stored, the command in hand is the fence of this number.
pub stored_is_read : {k : Session} {c : Core} {value : ℕ} → IsSoundOfWords k c
    → AreFencesInOrder k.first (commands c.driver.acts) c.device.done c.device.read true
    (slice_index (slice_set c.words fence_word value) fence_word) c.driver.seen c.driver.fence_loads.last
    → Spells (Fence value) c.device.read
stored_is_read {k} {c} {value} o of_fences =
    let cs = commands c.driver.acts in
    let fence = of_fences.in_hand refl in
    let here = fence_at cs c.device.done fence.0 (in_hand (Fence fence.0) o fence.1).is in
    let before : ℕ = fences_before cs c.device.done in
    let same : fence.0 ≡ value =
    sym here.is ∙ of_fences.numbered before here.there ∙ sym (register_more k.first before)
    ∙ sym of_fences.register_is
    ∙ get_or-set_same c.words fence_word value 0 (omega (arith, o.fixed.length_is)) in
    subst (λ v. Spells (Fence v) c.device.read) same fence.1
