use Rattle.std.proofs.Common.{ap, sym, subst, ◌∙◌}
use Rattle.svga_ring.specs.Conditions.{IsChainServed}
use Rattle.svga_link.proofs.DeviceEnds.{end_replied}
use Rattle.svga_link.specs.Ends.{DeviceSeen}
use Rattle.svga_link.specs.Seats.{SeenDeviceSeat}
use Rattle.svga_link.proofs.device.DeviceEnd.reply.Goals as goal

pub invariant_of-self : goal.invariant_of-self
invariant_of-self c =
    let t = c.store_reply.ensures in
    let may = subst (λ (d : DeviceSeen). IsChainServed d.view) (sym c.self.view_is) c.requires.served in (
      end_replied _ _ _ _ _ c.self.invariant.0 may (ap (λ s. s.view) t) (ap (λ s. s.carried) t),
      c.requires.number ∙ ap (λ (d : DeviceSeen). d.view.wanted.number) (sym c.self.view_is) ∙ ap (λ (s : SeenDeviceSeat). s.view.answered) (sym t),
    )
