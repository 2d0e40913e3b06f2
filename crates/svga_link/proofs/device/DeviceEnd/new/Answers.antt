use Rattle.std.proofs.Common.{ap, sym}
use Rattle.svga_ring.specs.Views.{DeviceView}
use Rattle.svga_link.proofs.Opening.{device_end_opens}
use Rattle.svga_link.proofs.device.DeviceEnd.new.Goals as goal

pub invariant_of-result : goal.invariant_of-result
invariant_of-result c = (device_end_opens c.requires.opening.0 _ _ _ c.requires.opening.1 c.requires.carried c.requires.row, sym (ap (λ (e : DeviceView). e.answered) c.requires.opening.1))
