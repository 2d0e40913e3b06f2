-- Which faults stand, which of them is the least, and that the first of ordered faults is.
use Rattle.std.proofs.Common.{◌≡◌, inl, inr, ℕ, ◌<◌, ◌≤◌, List, [], ◌∷◌, Bool, true, false, cond, refl, sym, ap, subst, Option, Some, None, arith, nat_le}
use Rattle.std.proofs.lemmas.Bool.Decides.{nat_tests}
use Rattle.std.specs.Prelude.{IfSome}
use Rattle.svga_cmd.specs.Fault.{number_of}
use Rattle.svga_cmd.specs.declared.fault.Fault.{Fault}
use Rattle.svga_model.specs.Standing.{AreAtLeast, AreOrdered, Stands, first_standing, least_standing, lesser_of}

-- faults above a number are none below it
above : (n low : ℕ) (rules : List (Bool × Fault)) → n ≤ low → AreOrdered low rules → AreAtLeast n rules
above n low [] within ordered = tt
above n low (rule ∷ rules) within ordered = ((λ _. omega (arith, ordered.0)), above n (number_of rule.1) rules (omega (arith, ordered.0)) ordered.1)

-- a test that is false changes nothing
behind : (f : Fault) (rules : List (Bool × Fault)) (first : Option Fault) → IfSome first (λ g. AreAtLeast (number_of g) rules) → IfSome first (λ g. AreAtLeast (number_of g) ((false, f) ∷ rules))
behind f rules None least = least
behind f rules (Some g) least = ((λ e. cc), least)

pub first_least : (low : ℕ) (rules : List (Bool × Fault)) → AreOrdered low rules → IfSome (first_standing rules) (λ f. AreAtLeast (number_of f) rules)
first_least low [] ordered = tt
first_least low ((true, f) ∷ rules) ordered = ((λ _. omega arith), above (number_of f) (number_of f) rules (omega arith) ordered.1)
first_least low ((false, f) ∷ rules) ordered = behind f rules (first_standing rules) (first_least (number_of f) rules ordered.1)

-- the least fault of ordered tests is above the number that they begin from
least_above : (low : ℕ) (rules : List (Bool × Fault)) → AreOrdered low rules → IfSome (least_standing rules) (λ f. low < number_of f)
least_above low [] ordered = tt
least_above low ((true, f) ∷ rules) ordered = chosen (least_standing rules) (least_above (number_of f) rules ordered.1) where
  chosen : (rest : Option Fault) → IfSome rest (λ g. number_of f < number_of g) → low < number_of (lesser_of f rest)
  chosen None above = ordered.0
  chosen (Some g) above = ap_chosen (nat_le (number_of f) (number_of g)) where
    ap_chosen : (b : Bool) → low < number_of (cond b f g)
    ap_chosen true = ordered.0
    ap_chosen false = omega (arith, ordered.0, above)
least_above low ((false, f) ∷ rules) ordered = raised (least_standing rules) (least_above (number_of f) rules ordered.1) where
  raised : (rest : Option Fault) → IfSome rest (λ g. number_of f < number_of g) → IfSome rest (λ g. low < number_of g)
  raised None above = tt
  raised (Some g) above = omega (arith, ordered.0, above)

-- a fault below all others is the lesser one
lesser_first : (f : Fault) (rest : Option Fault) → IfSome rest (λ g. number_of f < number_of g) → lesser_of f rest ≡ f
lesser_first f None above = refl
lesser_first f (Some g) above = ap (λ b. cond b f g) (let e : nat_le (number_of f) (number_of g) ≡ true = grind (arith, nat_tests) in e)

pub first_is_least : (low : ℕ) (rules : List (Bool × Fault)) → AreOrdered low rules → first_standing rules ≡ least_standing rules
first_is_least low [] ordered = refl
first_is_least low ((true, f) ∷ rules) ordered = ap Some (sym (lesser_first f (least_standing rules) (least_above (number_of f) rules ordered.1)))
first_is_least low ((false, f) ∷ rules) ordered = first_is_least (number_of f) rules ordered.1

-- f is one of the faults that stand, and none of them has a lesser number
abbrev pub IsLeast : List (Bool × Fault) → Fault → Type 0
IsLeast rules f = Stands rules f × ((g : Fault) → Stands rules g → number_of f ≤ number_of g)

-- what a least fault says of the tests that it is found among
abbrev pub Describes : Option Fault → List (Bool × Fault) → Type 0
Describes None rules = (g : Fault) → Stands rules g → ⊥
Describes (Some f) rules = IsLeast rules f

-- one test that is false before the others
passed : (f : Fault) (rules : List (Bool × Fault)) (rest : Option Fault) → Describes rest rules → Describes rest ((false, f) ∷ rules)
passed f rules None none = others where
  others : (g : Fault) → Stands ((false, f) ∷ rules) g → ⊥
  others g (inl e) = let t = ap (λ r. r.0) e in absurd cc
  others g (inr h) = none g h
passed f rules (Some l) least = (inr least.0, others) where
  others : (g : Fault) → Stands ((false, f) ∷ rules) g → number_of l ≤ number_of g
  others g (inl e) = let t = ap (λ r. r.0) e in absurd cc
  others g (inr h) = least.1 g h

-- one test that is true before the others, none of which is
alone : (f : Fault) (rules : List (Bool × Fault)) → Describes None rules → IsLeast ((true, f) ∷ rules) f
alone f rules none = (inl refl, others) where
  others : (g : Fault) → Stands ((true, f) ∷ rules) g → number_of f ≤ number_of g
  others g (inl e) = let n = ap (λ r. number_of r.1) e in omega (arith, n)
  others g (inr h) = absurd (none g h)

-- one test that is true before the others, of which another is
chosen : (f l : Fault) (rules : List (Bool × Fault)) (b : Bool) → nat_le (number_of f) (number_of l) ≡ b → IsLeast rules l → IsLeast ((true, f) ∷ rules) (cond b f l)
chosen f l rules true le least = (inl refl, others) where
  others : (g : Fault) → Stands ((true, f) ∷ rules) g → number_of f ≤ number_of g
  others g (inl e) = let n = ap (λ r. number_of r.1) e in omega (arith, n)
  others g (inr h) = let n = least.1 g h in grind (arith, nat_tests)
chosen f l rules false le least = (inr least.0, others) where
  others : (g : Fault) → Stands ((true, f) ∷ rules) g → number_of l ≤ number_of g
  others g (inl e) = let n = ap (λ r. number_of r.1) e in grind (arith, nat_tests)
  others g (inr h) = least.1 g h

first_of : (f : Fault) (rules : List (Bool × Fault)) (rest : Option Fault) → Describes rest rules → Describes (Some (lesser_of f rest)) ((true, f) ∷ rules)
first_of f rules None none = alone f rules none
first_of f rules (Some l) least = chosen f l rules (nat_le (number_of f) (number_of l)) refl least

-- the least fault is the least of those that stand, and there is none where none stands
pub least_describes : (rules : List (Bool × Fault)) → Describes (least_standing rules) rules
least_describes [] = λ g h. h
least_describes ((true, f) ∷ rules) = first_of f rules (least_standing rules) (least_describes rules)
least_describes ((false, f) ∷ rules) = passed f rules (least_standing rules) (least_describes rules)

pub least_some : (rules : List (Bool × Fault)) (f : Fault) → least_standing rules ≡ Some f → IsLeast rules f
least_some rules f e = subst (λ o. Describes o rules) e (least_describes rules)

pub least_none : (rules : List (Bool × Fault)) → least_standing rules ≡ None → (g : Fault) → Stands rules g → ⊥
least_none rules e = subst (λ o. Describes o rules) e (least_describes rules)

-- where none stands there is no least one
pub none_least : (rules : List (Bool × Fault)) → ((g : Fault) → Stands rules g → ⊥) → least_standing rules ≡ None
none_least rules none = go (least_standing rules) (least_describes rules) where
  go : (o : Option Fault) → Describes o rules → o ≡ None
  go None d = refl
  go (Some f) d = absurd (none f d.0)
