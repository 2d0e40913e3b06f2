-- How many commands the driver knows to be done, by its last load of STOP or by
-- the last fence that it saw.
use Rattle.std.proofs.Common.{◌≡◌, ℕ, zero, suc, ◌-◌, ◌<◌, ◌≤◌, List, [], ◌∷◌, ◌++◌, length, take, nat_lt, ◌==◌, Bool, false, true, if◌then◌else◌, Some, refl, sym, ap, subst, ◌∙◌, arith, length-append}
use Rattle.std.proofs.lemmas.Bool.Decides.{nat_tests}
use Rattle.std.specs.FinSet as set
use Rattle.std.specs.FinSet.{FinSet}
use Rattle.svga_cmd.proofs.KeyLaws.{keys_exact, keys_total}
use Rattle.svga_cmd.proofs.Maps.{by_key}
use Rattle.std.specs.List.{slice_get}
use Rattle.svga_cmd.specs.Pages.{key_cmp}
use Rattle.svga_cmd.specs.declared.command.Command.{Command}
use Rattle.svga_cmd.specs.declared.command.Command.TheVariants.{Fence}
use Rattle.svga_cmd.specs.declared.page.PageKey.{PageKey}
use Rattle.svga_cmd.specs.declared.session.Session.{Session}
use Rattle.svga_model.specs.Acts.{Act, Do}
use Rattle.svga_model.specs.States.{State}
use Rattle.svga_ring.proofs.Acts.Append.{commands_still}
use Rattle.svga_ring.proofs.Words.FenceOrder.{fence_in_hand, fences_to}
use Rattle.svga_ring.proofs.Pages.Locations.{out_other}
use Rattle.svga_ring.proofs.Words.NextCommand.{commands-append}
use Rattle.svga_ring.specs.Committed.{before_fence, commands, fences_passed}
use Rattle.svga_model.specs.Fences.{fences}
use Rattle.svga_ring.specs.Core.{Core}
use Rattle.svga_ring.specs.Requests.{Request, is_chain_out}
use Rattle.svga_ring.specs.Sound.{IsSoundOfWords}
use Rattle.svga_ring.specs.SoundPages.{AreClear, TouchesAt, known_done}

-- a fence among the first commands has fewer before it
low_fence : (cs : List Command) (n j : ℕ) → j < length (fences (take n cs)) → before_fence j cs < n
low_fence [] zero j low = absurd (omega (arith, low))
low_fence [] (suc n) j low = absurd (omega (arith, low))
low_fence (c ∷ cs) zero j low = absurd (omega (arith, low))
low_fence (Fence value ∷ cs) (suc n) zero low = omega arith
low_fence (Fence value ∷ cs) (suc n) (suc j) low =
    let fewer = low_fence cs n j (omega (arith, low)) in omega (arith, fewer)
low_fence (c ∷ cs) (suc n) zero low = let fewer = low_fence cs n zero low in omega (arith, fewer)
low_fence (c ∷ cs) (suc n) (suc j) low = let fewer = low_fence cs n (suc j) low in omega (arith, fewer)

-- and one that has passed no more than are done
low_passed : (cs : List Command) (n j : ℕ) (stored : Bool) → j < fences_passed cs n stored
    → (stored ≡ true → (value : ℕ) × (slice_get cs n ≡ Some (Fence value))) → before_fence j cs ≤ n
low_passed cs n j false low in_hand = let fewer = low_fence cs n j (omega (arith, low)) in
    omega (arith, fewer)
low_passed cs n j true low in_hand =
    let fence = in_hand refl in
    let one_more = ap length (fences_to cs n (Fence fence.0) fence.1)
    ∙ length-append (fences (take n cs)) (fence.0 ∷ []) in
    let fewer = low_fence cs (suc n) j (omega (arith, low, one_more)) in omega (arith, fewer)

-- a later fence stands no earlier
fence_rises : (cs : List Command) (j k : ℕ) → j ≤ k → before_fence j cs ≤ before_fence k cs
fence_rises [] j k le = omega arith
fence_rises (c ∷ cs) (suc j) zero le = absurd (omega (arith, le))
fence_rises (Fence value ∷ cs) zero k le = omega arith
fence_rises (Fence value ∷ cs) (suc j) (suc k) le =
    let on = fence_rises cs j k (omega (arith, le)) in omega (arith, on)
fence_rises (c ∷ cs) zero zero le = omega arith
fence_rises (c ∷ cs) zero (suc k) le = let on = fence_rises cs zero (suc k) le in omega (arith, on)
fence_rises (c ∷ cs) (suc j) (suc k) le = let on = fence_rises cs (suc j) (suc k) le in omega (arith, on)

-- the number of commands before the last fence that was seen, and the larger of two numbers, as the
-- definition has them
abbrev by_fence : List Command → ℕ → ℕ
by_fence cs seen = if seen == 0 then 0 else before_fence (seen - 1) cs

abbrev larger : ℕ → ℕ → ℕ
larger a b = if nat_lt a b then b else a

by_fence-at : (cs : List Command) (j : ℕ) → by_fence cs (suc j) ≡ before_fence j cs
by_fence-at cs j =
    let some : (suc j == 0) ≡ false = grind (arith, nat_tests) in
    let one : suc j - 1 ≡ j = omega arith in
    ap (λ t. if t then 0 else before_fence (suc j - 1) cs) some ∙ ap (λ i. before_fence i cs) one

by_fence-low : (cs : List Command) (n seen : ℕ) → ((j : ℕ) → j < seen → before_fence j cs ≤ n)
    → by_fence cs seen ≤ n
by_fence-low cs n zero each = omega arith
by_fence-low cs n (suc j) each = let low = each j (omega arith) in omega (arith, by_fence-at cs j, low)

by_fence-rises : (cs : List Command) (seen more : ℕ) → seen ≤ more → by_fence cs seen ≤ by_fence cs more
by_fence-rises cs zero more le = omega arith
by_fence-rises cs (suc j) zero le = absurd (omega (arith, le))
by_fence-rises cs (suc j) (suc k) le =
    let on = fence_rises cs j k (omega (arith, le)) in omega (arith, by_fence-at cs j, by_fence-at cs k, on)

larger_low : (a b n : ℕ) → a ≤ n → b ≤ n → larger a b ≤ n
larger_low a b n of_a of_b = elim (nat_lt a b) as (λ t. (if t then b else a) ≤ n)
    [ true ↦ of_b | false ↦ of_a ]

pub larger_most : (a b : ℕ) → (a ≤ larger a b) × (b ≤ larger a b)
larger_most a b = grind (arith, nat_tests)

-- What the driver knows to be done is no less than what it knows by STOP,
pub known_done_least : (acts : List Act) (passed seen : ℕ) → passed ≤ known_done acts passed seen
known_done_least acts passed seen = (larger_most passed (by_fence (commands acts) seen)).0

-- and never falls as more is known.
pub known_done_rises : (acts : List Act) (passed seen more_passed more_seen : ℕ) → passed ≤ more_passed
    → seen ≤ more_seen
    → known_done acts passed seen ≤ known_done acts more_passed more_seen
known_done_rises acts passed seen more_passed more_seen of_passed of_seen =
    let cs = commands acts in
    let most = larger_most more_passed (by_fence cs more_seen) in
    let on = by_fence-rises cs seen more_seen of_seen in
    larger_low passed (by_fence cs seen) (larger more_passed (by_fence cs more_seen))
    (omega (arith, most.0, of_passed)) (omega (arith, most.1, on))

-- Once the driver knows more to be taken, fewer acts have to be clear.
pub clear_known : {s : State} {acts : List Act} {done passed seen : ℕ} {lent : FinSet key_cmp}
    {request : Request}
    {answered : ℕ} (more_passed more_seen : ℕ) → passed ≤ more_passed → seen ≤ more_seen
    → AreClear s acts done passed seen lent request answered
    → AreClear s acts done more_passed more_seen lent request answered
clear_known {acts = acts} {passed = passed} {seen = seen} more_passed more_seen of_passed of_seen o =
    let rises = known_done_rises acts passed seen more_passed more_seen of_passed of_seen in
    record {
      with_driver_free = λ n key low. o.with_driver_free n key (omega (arith, rises, low));
      request_free = o.request_free;
      later_puts = o.later_puts;
      request_later_puts = o.request_later_puts;
    }

-- A page may be taken that no command that isn't known to be done touches, where no chain is out.
pub clear_take : {s : State} {acts : List Act} {done passed seen : ℕ} {lent : FinSet key_cmp}
    {request : Request}
    {answered : ℕ} (key : PageKey)
    → ((n : ℕ) → known_done acts passed seen ≤ n → TouchesAt s acts n key → ⊥)
    → is_chain_out request answered ≡ false
    → AreClear s acts done passed seen lent request answered
    → AreClear s acts done passed seen (set.remove lent key) request answered
clear_take {s = s} {acts = acts} {lent = lent} key untouched off o = record {
  with_driver_free = λ n q low touched. by_key keys_total keys_exact q key
      (set.contains (set.remove lent key) q ≡ true)
      (λ same. absurd (untouched n low (subst (λ p. TouchesAt s acts n p) same touched)))
      (λ differ. out_other lent key q differ ∙ o.with_driver_free n q low touched);
  request_free = λ q out touched. absurd (cc (off, out));
  later_puts = o.later_puts;
  request_later_puts = o.request_later_puts;
}

-- a fence that is there stays where it is
fence_append : (j : ℕ) (cs : List Command) (c : Command) → j < length (fences cs)
    → before_fence j (cs ++ c ∷ []) ≡ before_fence j cs
fence_append j [] c low = absurd (omega arith)
fence_append zero (Fence value ∷ cs) c low = refl
fence_append (suc j) (Fence value ∷ cs) c low = ap suc (fence_append j cs c (omega arith))
fence_append zero (d ∷ cs) c low = ap suc (fence_append zero cs c low)
fence_append (suc j) (d ∷ cs) c low = ap suc (fence_append (suc j) cs c low)

by_fence-append : (seen : ℕ) (cs : List Command) (c : Command) → seen ≤ length (fences cs)
    → by_fence (cs ++ c ∷ []) seen ≡ by_fence cs seen
by_fence-append zero cs c low = refl
by_fence-append (suc j) cs c low =
    by_fence-at (cs ++ c ∷ []) j ∙ fence_append j cs c (omega arith) ∙ sym (by_fence-at cs j)

-- an act more leaves what is known to be done
pub known_done_still : (acts : List Act) (x : Act) (passed seen : ℕ) → commands (x ∷ []) ≡ []
    → known_done (acts ++ x ∷ []) passed seen ≡ known_done acts passed seen
known_done_still acts x passed seen none =
    ap (λ cs. larger passed (by_fence cs seen)) (commands_still acts x none)

pub known_done_command : (acts : List Act) (c : Command) (passed seen : ℕ)
    → seen ≤ length (fences (commands acts))
    → known_done (acts ++ Do c ∷ []) passed seen ≡ known_done acts passed seen
known_done_command acts c passed seen low =
    ap (λ cs. larger passed (by_fence cs seen)) (commands-append acts (Do c ∷ []))
    ∙ ap (λ p. larger passed p) (by_fence-append seen (commands acts) c low)

-- What is known to be done is done.
pub known_are_done : {k : Session} {c : Core} → IsSoundOfWords k c
    → known_done c.driver.acts c.driver.passed c.driver.seen ≤ c.device.done
known_are_done {c = c} o =
    let d = c.driver in
    let cs = commands d.acts in
    let n : ℕ = c.device.done in
    larger_low d.passed (by_fence cs d.seen) n o.known.passed_low (by_fence-low cs n d.seen (λ j less.
    low_passed cs n j c.device.stored (omega (arith, less, o.fences.seen_passed)) (fence_in_hand o)))
