-- Runs by parts.
use Rattle.std.proofs.Common.{◌≡◌, suc, ◌+◌, ◌<◌, ◌≤◌, List, [], ◌∷◌, ◌++◌, length, take, Bool, true, false, cond, refl, sym, ap, ◌∙◌, None, is_none, arith}
use Rattle.svga_model.specs.Acts.{Act}
use Rattle.svga_model.specs.Faults.{fault_of, is_admissible}
use Rattle.svga_model.specs.Runs.{done, run}
use Rattle.svga_model.specs.States.{State}
use Rattle.svga_model.specs.Steps.{step}

-- what the first act's test makes of a run
pub run-first : (s : State) (act : Act) (acts : List Act) (b : Bool) → is_admissible s act ≡ b → run s (act ∷ acts) ≡ cond b (run (step s act) acts) s
run-first s act acts b e = ap (λ t. cond t (run (step s act) acts) s) e

pub done-first : (s : State) (act : Act) (acts : List Act) (b : Bool) → is_admissible s act ≡ b → done s (act ∷ acts) ≡ cond b (suc (done (step s act) acts)) 0
done-first s act acts b e = ap (λ t. cond t (suc (done (step s act) acts)) 0) e

-- no more acts are run than there are
more_most : (s : State) (act : Act) (acts : List Act) (b : Bool) → is_admissible s act ≡ b → done (step s act) acts ≤ length acts → done s (act ∷ acts) ≤ length (act ∷ acts)
more_most s act acts true t most = let n = done-first s act acts true t in omega (arith, n, most)
more_most s act acts false t most = let n = done-first s act acts false t in omega (arith, n)

pub done_most : (s : State) (xs : List Act) → done s xs ≤ length xs
done_most s [] = omega arith
done_most s (act ∷ acts) = more_most s act acts (is_admissible s act) refl (done_most (step s act) acts)

-- a first part that is run whole
abbrev GoesOn : State → List Act → List Act → Type 0
GoesOn s xs ys = (run s (xs ++ ys) ≡ run (run s xs) ys) × (done s (xs ++ ys) ≡ done s xs + done (run s xs) ys)

more_whole : (s : State) (act : Act) (acts ys : List Act) (b : Bool) → is_admissible s act ≡ b → done s (act ∷ acts) ≡ length (act ∷ acts) → (done (step s act) acts ≡ length acts → GoesOn (step s act) acts ys) → GoesOn s (act ∷ acts) ys
more_whole s act acts ys true t e rest = (
  run-first s act (acts ++ ys) true t ∙ (on n).0 ∙ ap (λ r. run r ys) (sym (run-first s act acts true t)),
  done-first s act (acts ++ ys) true t ∙ (let m = (on n).1 in let sum : suc (done (step s act) (acts ++ ys)) ≡ suc (done (step s act) acts) + done (run (step s act) acts) ys = omega (arith, m) in sum)
      ∙ sym (λ i. done-first s act acts true t i + done (run-first s act acts true t i) ys),
)
  where
    n : done (step s act) acts ≡ length acts
    n = let first = done-first s act acts true t in omega (arith, first, e)

    on : done (step s act) acts ≡ length acts → GoesOn (step s act) acts ys
    on = rest
more_whole s act acts ys false t e rest = let n = done-first s act acts false t in absurd (omega (arith, n, e))

pub run_whole : (s : State) (xs ys : List Act) → done s xs ≡ length xs → (run s (xs ++ ys) ≡ run (run s xs) ys) × (done s (xs ++ ys) ≡ done s xs + done (run s xs) ys)
run_whole s [] ys e = (refl, omega arith)
run_whole s (act ∷ acts) ys e = more_whole s act acts ys (is_admissible s act) refl e (run_whole (step s act) acts ys)

-- a first part that isn't
abbrev Ends : State → List Act → List Act → Type 0
Ends s xs ys = (run s (xs ++ ys) ≡ run s xs) × (done s (xs ++ ys) ≡ done s xs)

more_ended : (s : State) (act : Act) (acts ys : List Act) (b : Bool) → is_admissible s act ≡ b → done s (act ∷ acts) < length (act ∷ acts) → (done (step s act) acts < length acts → Ends (step s act) acts ys) → Ends s (act ∷ acts) ys
more_ended s act acts ys true t l rest =
    let first = done-first s act acts true t in
    let ends = rest (omega (arith, first, l)) in (
      run-first s act (acts ++ ys) true t ∙ ends.0 ∙ sym (run-first s act acts true t),
      done-first s act (acts ++ ys) true t ∙ ap suc ends.1 ∙ sym first,
    )
more_ended s act acts ys false t l rest = (
  run-first s act (acts ++ ys) false t ∙ sym (run-first s act acts false t),
  done-first s act (acts ++ ys) false t ∙ sym (done-first s act acts false t),
)

pub run_ended : (s : State) (xs ys : List Act) → done s xs < length xs → (run s (xs ++ ys) ≡ run s xs) × (done s (xs ++ ys) ≡ done s xs)
run_ended s [] ys l = absurd (omega arith)
run_ended s (act ∷ acts) ys l = more_ended s act acts ys (is_admissible s act) refl l (run_ended (step s act) acts ys)

-- the acts that were run, by themselves
abbrev IsFrontOf : State → List Act → Type 0
IsFrontOf s xs = (run s (take (done s xs) xs) ≡ run s xs) × (done s (take (done s xs) xs) ≡ done s xs)

more_front : (s : State) (act : Act) (acts : List Act) (b : Bool) → is_admissible s act ≡ b → IsFrontOf (step s act) acts → IsFrontOf s (act ∷ acts)
more_front s act acts true t rest =
    let front = ap (λ n. take n (act ∷ acts)) (done-first s act acts true t) in (
      ap (run s) front ∙ run-first s act (take (done (step s act) acts) acts) true t ∙ rest.0 ∙ sym (run-first s act acts true t),
      ap (done s) front ∙ done-first s act (take (done (step s act) acts) acts) true t ∙ ap suc rest.1 ∙ sym (done-first s act acts true t),
    )
more_front s act acts false t rest = (
  ap (λ n. run s (take n (act ∷ acts))) (done-first s act acts false t) ∙ sym (run-first s act acts false t),
  ap (λ n. done s (take n (act ∷ acts))) (done-first s act acts false t) ∙ sym (done-first s act acts false t),
)

pub run_front : (s : State) (xs : List Act) → (run s (take (done s xs) xs) ≡ run s xs) × (done s (take (done s xs) xs) ≡ done s xs)
run_front s [] = (refl, refl)
run_front s (act ∷ acts) = more_front s act acts (is_admissible s act) refl (run_front (step s act) acts)

-- the heads and the tails of equal lists
pub head_same : (x y : Act) (xs ys : List Act) → x ∷ xs ≡ y ∷ ys → x ≡ y
head_same x y xs ys e = cc e

pub tail_same : (x y : Act) (xs ys : List Act) → x ∷ xs ≡ y ∷ ys → xs ≡ ys
tail_same x y xs ys e = cc e

-- the act at which a run ends isn't admissible
more_refused : (s : State) (x act : Act) (xs ys : List Act) (b : Bool) → is_admissible s x ≡ b → x ∷ xs ≡ take (done s (x ∷ xs)) (x ∷ xs) ++ act ∷ ys → fault_of (run s (x ∷ xs)) act ≡ None
    → (xs ≡ take (done (step s x) xs) xs ++ act ∷ ys → fault_of (run (step s x) xs) act ≡ None → ⊥) → ⊥
more_refused s x act xs ys true t e none rest = rest
    (tail_same x x xs (take (done (step s x) xs) xs ++ act ∷ ys) (e ∙ ap (λ n. take n (x ∷ xs) ++ act ∷ ys) (done-first s x xs true t)))
    (ap (λ r. fault_of r act) (sym (run-first s x xs true t)) ∙ none)
more_refused s x act xs ys false t e none rest =
    let same = head_same x act xs ys (e ∙ ap (λ n. take n (x ∷ xs) ++ act ∷ ys) (done-first s x xs false t)) in
    let fault : fault_of s x ≡ None = ap (fault_of s) same ∙ ap (λ r. fault_of r act) (sym (run-first s x xs false t)) ∙ none in
    let answer = ap is_none fault in cc (t, answer)

pub run_refused : (s : State) (xs ys : List Act) (act : Act) → xs ≡ take (done s xs) xs ++ act ∷ ys → fault_of (run s xs) act ≡ None → ⊥
run_refused s [] ys act e none = cc e
run_refused s (x ∷ xs) ys act e none = more_refused s x act xs ys (is_admissible s x) refl e none (run_refused (step s x) xs ys act)
