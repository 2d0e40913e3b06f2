-- The least fault of two lists of tests, one behind the other.
use Rattle.std.proofs.Common.{◌≡◌, ◌≤◌, ◌<◌, refl, sym, ap, ◌∙◌, List, [], ◌∷◌, ◌++◌, Bool, true, false, cond, Option, Some, None, arith, nat_le}
use Rattle.std.proofs.lemmas.Bool.Decides.{nat_tests}
use Rattle.svga_cmd.specs.Fault.{number_of}
use Rattle.svga_cmd.specs.declared.fault.Fault.{Fault}
use Rattle.svga_model.specs.Standing.{least_standing, lesser_of}

-- the lesser of two faults, where each may be none
abbrev pub lesser_of_two : Option Fault → Option Fault → Option Fault
lesser_of_two None o = o
lesser_of_two (Some f) o = Some (lesser_of f o)

-- a fault and one whose number isn't below its own, or is
pub chosen_first : (f g : Fault) → number_of f ≤ number_of g → lesser_of f (Some g) ≡ f
chosen_first f g l = ap (λ b. cond b f g)
    (let t : nat_le (number_of f) (number_of g) ≡ true = grind (arith, nat_tests) in t)

pub chosen_second : (f g : Fault) → number_of g < number_of f → lesser_of f (Some g) ≡ g
chosen_second f g l = ap (λ b. cond b f g)
    (let t : nat_le (number_of f) (number_of g) ≡ false = grind (arith, nat_tests) in t)

-- of three faults it is one whether the last two or the first two are compared first
three : (f g h : Fault) → lesser_of f (Some (lesser_of g (Some h))) ≡ lesser_of (lesser_of f (Some g)) (Some h)
three f g h = go (nat_le (number_of f) (number_of g)) (nat_le (number_of g) (number_of h)) refl refl where
  go : (p q : Bool) → nat_le (number_of f) (number_of g) ≡ p → nat_le (number_of g) (number_of h) ≡ q
      → lesser_of f (Some (lesser_of g (Some h))) ≡ lesser_of (lesser_of f (Some g)) (Some h)
  go true true e d = ap (λ k. lesser_of f (Some k)) (chosen_first g h (grind (arith, nat_tests)))
      ∙ chosen_first f g (grind (arith, nat_tests)) ∙ sym (chosen_first f h (grind (arith, nat_tests)))
      ∙ ap (λ k. lesser_of k (Some h)) (sym (chosen_first f g (grind (arith, nat_tests))))
  go true false e d = ap (λ k. lesser_of f (Some k)) (chosen_second g h (grind (arith, nat_tests)))
      ∙ ap (λ k. lesser_of k (Some h)) (sym (chosen_first f g (grind (arith, nat_tests))))
  go false true e d = ap (λ k. lesser_of f (Some k)) (chosen_first g h (grind (arith, nat_tests)))
      ∙ chosen_second f g (grind (arith, nat_tests)) ∙ sym (chosen_first g h (grind (arith, nat_tests)))
      ∙ ap (λ k. lesser_of k (Some h)) (sym (chosen_second f g (grind (arith, nat_tests))))
  go false false e d = ap (λ k. lesser_of f (Some k)) (chosen_second g h (grind (arith, nat_tests)))
      ∙ chosen_second f h (grind (arith, nat_tests)) ∙ sym (chosen_second g h (grind (arith, nat_tests)))
      ∙ ap (λ k. lesser_of k (Some h)) (sym (chosen_second f g (grind (arith, nat_tests))))

-- the same where some are none
grouped : (f : Fault) (o p : Option Fault) → lesser_of f (lesser_of_two o p) ≡ lesser_of (lesser_of f o) p
grouped f None p = refl
grouped f (Some g) None = refl
grouped f (Some g) (Some h) = three f g h

-- the least of both lists is the lesser of the least ones of each
pub least_of_both : (xs ys : List (Bool × Fault))
    → least_standing (xs ++ ys) ≡ lesser_of_two (least_standing xs) (least_standing ys)
least_of_both [] ys = refl
least_of_both ((true, f) ∷ xs) ys = ap (λ o. Some (lesser_of f o)) (least_of_both xs ys)
    ∙ ap Some (grouped f (least_standing xs) (least_standing ys))
least_of_both ((false, f) ∷ xs) ys = least_of_both xs ys

-- so it is the lesser of what each list is refused with
pub of_both : (xs ys : List (Bool × Fault)) (a b r : Option Fault) → a ≡ least_standing xs → b ≡ least_standing ys
    → lesser_of_two a b ≡ r → r ≡ least_standing (xs ++ ys)
of_both xs ys a b r p q e = sym e ∙ (λ i. lesser_of_two (p i) (q i)) ∙ sym (least_of_both xs ys)
