use Rattle.std.proofs.Common.{◌≡◌, ap, subst, ◌∙◌, None}
use Rattle.svga_cmd.specs.Lent.{command_of}
use Rattle.svga_model.specs.Acts.{Do}
use Rattle.svga_model.specs.Faults.{ReadsNumbers, fault_of}
use Rattle.svga_model.specs.States.{shape_of}
use Rattle.svga_shape.specs.ShapeSet.{shape_in}
use Rattle.svga_machine.specs.MachineSet.{state_with}
use Rattle.svga_machine.proofs.RunLaws.{admitted_as, admitted_none, given_fault, refused_is}
use Rattle.svga_machine.proofs.machine.Machine.run.Goals as goal
use Rattle.svga_machine.proofs.machine.Machine.run.Goals.{In_ok-admit}
use Rattle.svga_machine.proofs.machine.Machine.run.Given.{Over}

pub returns-in_err-admit-clause-fault : goal.returns-in_err-admit-clause-fault
returns-in_err-admit-clause-fault g c =
    given_fault c.from_residual.result c.in_err-admit.field-0.0 c.from_residual.ensures.1 ∙ refused_is (state_with c.args.self.now (g.P.PageStore.pages c.args.store.now)) (command_of c.args.command.now) (shape_in c.self.inside.shape) c.in_err-admit.field-0.0
    (c.self.invariant.0.shape ∙ ap (λ m. shape_of m.kept) c.self.view_is) c.in_err-admit.ensures.fault

pub blit_to_screens-requires-clause-admitted : goal.blit_to_screens-requires-clause-admitted
blit_to_screens-requires-clause-admitted g c = admitted_as (shape_in c.self.inside.shape) (shape_of c.args.self.now.kept) (command_of c.args.command.now) _
    (c.self.invariant.0.shape ∙ ap (λ m. shape_of m.kept) c.self.view_is) (ap command_of c.in-BlitToScreen.is) c.in_ok-admit.ensures.fault

pub blit_to_region-requires-clause-admitted : goal.blit_to_region-requires-clause-admitted
blit_to_region-requires-clause-admitted g c = admitted_as (shape_in c.self.inside.shape) (shape_of c.args.self.now.kept) (command_of c.args.command.now) _
    (c.self.invariant.0.shape ∙ ap (λ m. shape_of m.kept) c.self.view_is) (ap command_of c.in-BlitToGmrfb.is) c.in_ok-admit.ensures.fault

-- a command that is admitted and reads no numbers has no fault
unrefused : (g : Over) (c : In_ok-admit g) → (ReadsNumbers (command_of c.args.command.now) → ⊥)
    → None ≡ fault_of (state_with c.args.self.now (g.P.PageStore.pages c.args.store.now)) (Do (command_of c.args.command.now))
unrefused g c = admitted_none (state_with c.args.self.now (g.P.PageStore.pages c.args.store.now)) (command_of c.args.command.now) (shape_in c.self.inside.shape)
    (c.self.invariant.0.shape ∙ ap (λ m. shape_of m.kept) c.self.view_is) c.in_ok-admit.ensures.fault

pub returns-in-Update-clause-fault : goal.returns-in-Update-clause-fault
returns-in-Update-clause-fault g c = unrefused g (goal.at.returns-in-Update-clause-fault g c).In_ok-admit (subst (λ k. ReadsNumbers (command_of k)) c.in-Update.is)

pub returns-in-Fence-clause-fault : goal.returns-in-Fence-clause-fault
returns-in-Fence-clause-fault g c = unrefused g (goal.at.returns-in-Fence-clause-fault g c).In_ok-admit (subst (λ k. ReadsNumbers (command_of k)) c.in-Fence.is)

pub returns-in-DefineScreen-clause-fault : goal.returns-in-DefineScreen-clause-fault
returns-in-DefineScreen-clause-fault g c = unrefused g (goal.at.returns-in-DefineScreen-clause-fault g c).In_ok-admit (subst (λ k. ReadsNumbers (command_of k)) c.in-DefineScreen.is)

pub returns-in-DestroyScreen-clause-fault : goal.returns-in-DestroyScreen-clause-fault
returns-in-DestroyScreen-clause-fault g c = unrefused g (goal.at.returns-in-DestroyScreen-clause-fault g c).In_ok-admit (subst (λ k. ReadsNumbers (command_of k)) c.in-DestroyScreen.is)

pub returns-in-DefineGmrfb-clause-fault : goal.returns-in-DefineGmrfb-clause-fault
returns-in-DefineGmrfb-clause-fault g c = unrefused g (goal.at.returns-in-DefineGmrfb-clause-fault g c).In_ok-admit (subst (λ k. ReadsNumbers (command_of k)) c.in-DefineGmrfb.is)

pub returns-in-BlitToScreen-clause-fault : goal.returns-in-BlitToScreen-clause-fault
returns-in-BlitToScreen-clause-fault g c = unrefused g (goal.at.returns-in-BlitToScreen-clause-fault g c).In_ok-admit (subst (λ k. ReadsNumbers (command_of k)) c.in-BlitToScreen.is)

pub returns-in-BlitToGmrfb-clause-fault : goal.returns-in-BlitToGmrfb-clause-fault
returns-in-BlitToGmrfb-clause-fault g c = unrefused g (goal.at.returns-in-BlitToGmrfb-clause-fault g c).In_ok-admit (subst (λ k. ReadsNumbers (command_of k)) c.in-BlitToGmrfb.is)

pub returns-in-DefineGmr2-clause-fault : goal.returns-in-DefineGmr2-clause-fault
returns-in-DefineGmr2-clause-fault g c = unrefused g (goal.at.returns-in-DefineGmr2-clause-fault g c).In_ok-admit (subst (λ k. ReadsNumbers (command_of k)) c.in-DefineGmr2.is)
