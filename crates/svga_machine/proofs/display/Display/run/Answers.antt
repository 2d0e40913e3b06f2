use Rattle.svga_cmd.specs.Lent.{command_of}
use Rattle.svga_machine.specs.MachineSet.{state_with}
use Rattle.svga_machine.proofs.StoreStates.{served_after, serves}
use Rattle.svga_machine.proofs.display.Display.run.Goals as goal

pub run-requires-clause-there : goal.run-requires-clause-there
run-requires-clause-there c =
    serves c.self.inside.limits (state_with c.self.inside.machine c.self.inside.pages)
    (command_of c.args.command.now) c.self.invariant

pub invariant_of-self : goal.invariant_of-self
invariant_of-self c =
    served_after c.self.inside.limits c.self.inside.machine c.run.new.self c.self.inside.pages c.run.new.store
    (command_of c.args.command.now) c.run.result c.self.invariant c.requires
    c.run.ensures.fault c.run.ensures.ok c.run.ensures.err
