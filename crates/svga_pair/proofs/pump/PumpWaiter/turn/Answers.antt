use Rattle.std.proofs.Common.{subst, sym}
use Rattle.svga_device.specs.Devices.{Shows}
use Rattle.svga_pair.proofs.pump.PumpWaiter.turn.Goals as goal

pub returns-clause-shows : goal.returns-clause-shows
returns-clause-shows g c = λ first shown. c.step.ensures.shows first (subst (Shows first) (sym c.self.view_is) shown)
