use Rattle.std.proofs.Common.{◌≡◌, Result, Ok, Err, None, OnOk, refl, ap, ◌∙◌}
use Rattle.std.specs.Result.{result_err}
use Rattle.svga_model.specs.Faults.{fault_of}
use Rattle.svga_model.specs.Steps.{updated}
use Rattle.uses.proofs.displaying.write_and_update.Goals as goal

-- what holds after Ok holds where there is no fault
ran : {T E : Type 0} {P : Type 0} (r : Result T E) → result_err r ≡ None → OnOk r P → P
ran (Ok v) none holds = holds
ran (Err e) none holds = cc

pub returns-clause-shown : goal.returns-clause-shown
unfolding fault_of
returns-clause-shown c = λ _.
    ran c.run-painted.result c.run-painted.ensures.fault c.run-painted.ensures.ok
    ∙ ap (λ s. updated s 0 0 c.args.width c.args.height) (c.if-not-write.ensures.put refl)
