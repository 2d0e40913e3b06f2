use Rattle.std.proofs.Common.{ap, sym, subst, ◌∙◌}
use Rattle.svga_ring.specs.Conditions.{IsServed}
use Rattle.svga_link.proofs.EndsKept.{device_end_served}
use Rattle.svga_link.specs.Seats.{SeenDeviceSeat}
use Rattle.svga_link.proofs.device.DeviceEnd.store_stop.Goals as goal

pub invariant_of-self : goal.invariant_of-self
invariant_of-self c =
    let command = c.requires.0 in
    let may = subst (λ e. IsServed e command) (sym (ap (λ d. d.view) c.self.view_is)) c.requires.1 in
    let taken = c.store_stop.ensures command may.read_whole in (
      device_end_served _ _ _ _ _ command c.self.invariant.0 may (ap (λ s. s.view) taken) (ap (λ s. s.carried) taken),
      c.self.invariant.1 ∙ ap (λ (s : SeenDeviceSeat). s.view.answered) (sym taken),
    )
