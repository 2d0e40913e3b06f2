use Rattle.std.proofs.Common.{◌≡◌, arith, rules, subst, sym}
use Rattle.svga_cmd.specs.Limits.{AreLimits}
use Rattle.svga_machine.specs.Displays.{IsWholeState}
use Rattle.svga_machine.specs.MachineSet.{state_with}
use Rattle.svga_model.specs.CaptureFields.{limits_in}
use Rattle.svga_model.specs.Captures.{opening_in}
use Rattle.svga_capture.specs.declared.fields.Fields.{Fields}
use Rattle.svga_capture.proofs.OpeningWhole.{opening_whole, words_small}
use Rattle.svga_capture.proofs.opening.opening_of.Goals as goal

pub returns-clause-whole : goal.returns-clause-whole
returns-clause-whole c =
    let opened : state_with c.in_ok-machine.machine c.open_pages.new.pages ≡ opening_in c.args.bytes.now = search rules in
    subst (IsWholeState (limits_in c.args.bytes.now)) (sym opened)
    (opening_whole c.args.bytes.now c.requires.good (subst (λ (f : Fields). AreLimits f.limits) c.requires.said c.requires.limits)
    (λ i. omega (arith, c.type_inv.bytes i)))

pub returns-clause-numbers : goal.returns-clause-numbers
returns-clause-numbers c = words_small c.args.bytes.now (λ i. omega (arith, c.type_inv.bytes i))
