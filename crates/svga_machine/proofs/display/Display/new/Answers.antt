use Rattle.std.proofs.Common.{ap}
use Rattle.svga_machine.proofs.StoreStates.{served_first}
use Rattle.svga_machine.proofs.display.Display.new.Goals as goal

pub invariant_of-result : goal.invariant_of-result
invariant_of-result c =
    served_first c.args.limits c.in_ok-machine.machine c.in_ok-pages.pages c.requires
    (ap (λ m. m.kept) c.in_ok-machine.ensures) c.in_ok-pages.ensures
