use Rattle.std.proofs.Common.{ap, sym, subst, ◌∙◌, slice_set}
use Rattle.std.specs.FinMap as map
use Rattle.svga_cmd.specs.Pages.{IsKey}
use Rattle.svga_link.proofs.DeviceEnds.{end_holds}
use Rattle.svga_link.proofs.PageRows.{page_put}
use Rattle.svga_link.specs.Ends.{DeviceSeen, IsDeviceEnd, pages_in}
use Rattle.svga_link.specs.Holding.{holding}
use Rattle.svga_link.specs.Seats.{SeenDeviceSeat}
use Rattle.svga_link.proofs.device.DeviceEnd.hold.Goals as goal

pub invariant_of-self : goal.invariant_of-self
invariant_of-self c =
    let i = c.self.invariant.0 in
    let is_key = subst (λ (d : DeviceSeen). IsKey d.view.terms.limits c.args.key) (sym c.self.view_is) c.requires.key in
    let t = c.hold-page.ensures in
    let items = c.self.inside.row.items in (
      subst (λ row. IsDeviceEnd c.hold-page.new.self.view c.hold-page.new.self.carried row)
          (λ j. slice_set items (sym c.slot_number-slot.ensures j) (sym t.1 j))
          (end_holds _ _ _ _ items c.args.key t.0 i is_key (ap (λ s. s.view) t.2) (ap (λ s. s.carried) t.2)),
      c.self.invariant.1 ∙ ap (λ (s : SeenDeviceSeat). s.view.answered) (sym t.2),
    )

pub returns : goal.returns
returns c =
    let i = c.self.invariant.0 in
    let is_key = subst (λ (d : DeviceSeen). IsKey d.view.terms.limits c.args.key) (sym c.self.view_is) c.requires.key in
    let t = c.hold-page.ensures in
    let l = c.self.inside.seat.view.terms.limits in
    let items = c.self.inside.row.items in
    let limits = ap (λ (s : SeenDeviceSeat). s.view.terms.limits) t.2 in
    let pages = (λ j. pages_in (limits j) (slice_set items (c.slot_number-slot.ensures j) (t.1 j))) ∙ page_put l items c.args.key t.0 is_key i.row_is in
    let left : SeenDeviceSeat = c.hold-page.new.self in (
      t.0,
      (λ j. record { table = (t.2 j).table; view = (t.2 j).view; pages = pages j })
          ∙ ap (λ (d : DeviceSeen). record d { view = holding d.view c.args.key t.0; pages = map.insert d.pages c.args.key t.0 }) c.self.view_is,
    )
