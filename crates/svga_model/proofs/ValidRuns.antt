-- A run keeps what makes a state valid.
use Rattle.std.proofs.Common.{◌≡◌, List, [], ◌∷◌, Bool, true, false, refl, sym, subst, All}
use Rattle.std.proofs.lemmas.List.Elements.{All-head, All-tail}
use Rattle.svga_model.proofs.ActLaws.{none_is}
use Rattle.svga_model.proofs.RunLaws.{run-first}
use Rattle.svga_model.proofs.ValidStateLaws.{step_good, step_limits}
use Rattle.svga_model.specs.Acts.{Act, IsAct}
use Rattle.svga_model.specs.Faults.{fault_of, is_admissible}
use Rattle.svga_model.specs.Runs.{run}
use Rattle.svga_model.specs.States.{State}
use Rattle.svga_model.specs.Steps.{step}
use Rattle.svga_model.specs.ValidStates.{IsState}

-- one act more
more_good : (s : State) (act : Act) (acts : List Act) (b : Bool) → is_admissible s act ≡ b → IsState s → All (IsAct s.kept.limits) (act ∷ acts)
    → (IsState (step s act) → All (IsAct (step s act).kept.limits) acts → IsState (run (step s act) acts)) → IsState (run s (act ∷ acts))
more_good s act acts true t good acts_good rest = subst IsState (sym (run-first s act acts true t))
    (rest (step_good s act good (All-head (IsAct s.kept.limits) act acts acts_good) (none_is (fault_of s act) t)) (subst (λ l. All (IsAct l) acts) (sym (step_limits s act)) (All-tail (IsAct s.kept.limits) act acts acts_good)))
more_good s act acts false t good acts_good rest = subst IsState (sym (run-first s act acts false t)) good

pub run_good : (s : State) (acts : List Act) → IsState s → All (IsAct s.kept.limits) acts → IsState (run s acts)
run_good s [] good acts_good = good
run_good s (act ∷ acts) good acts_good = more_good s act acts (is_admissible s act) refl good acts_good (run_good (step s act) acts)
