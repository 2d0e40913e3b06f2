use Rattle.std.proofs.Common.{Some, ◌∷◌, ap, sym, ◌∙◌}
use Rattle.svga_ring.specs.SharedTable.{slot_number}
use Rattle.svga_link.specs.Seats.{SeenDeviceSeat}
use Rattle.svga_link.proofs.device_seat.DeviceSeat.hold.Goals as goal

pub exchange-page-requires : goal.exchange-page-requires
exchange-page-requires c =
    let t = c.take_page.ensures in
    let others = c.args.self.now.carried in (
      Some t.0,
      (
        others,
        ap (λ (s : SeenDeviceSeat). s.carried) t.1
            ∙ ap (λ (s : SeenDeviceSeat). (slot_number s.view.terms.limits c.args.key, Some t.0) ∷ others) (sym t.1),
      ),
    )
