use Rattle.std.proofs.Common.{ap, sym, subst, ◌∙◌, is_some, arith}
use Rattle.svga_cmd.specs.Pages.{IsKey}
use Rattle.svga_ring.specs.Noting.{holds}
use Rattle.svga_link.proofs.DeviceEnds.{in_row}
use Rattle.svga_link.proofs.PageRows.{found_there}
use Rattle.svga_link.specs.Ends.{DeviceSeen}
use Rattle.svga_link.proofs.device.DeviceEnd.held.Goals as goal

pub index-requires : goal.index-requires
index-requires c =
    let is_key = subst (λ (d : DeviceSeen). IsKey d.view.terms.limits c.args.key) (sym c.self.view_is) c.requires in
    let low = in_row _ _ _ c.args.key _ c.self.invariant.0 is_key c.slot_number-slot.ensures in
    omega (arith, low, c.self.inside.row.ok.0)

pub returns : goal.returns
returns c =
    let i = c.self.invariant.0 in
    let is_key = subst (λ (d : DeviceSeen). IsKey d.view.terms.limits c.args.key) (sym c.self.view_is) c.requires in
    c.is_some.ensures
    ∙ ap is_some (sym (found_there c.self.inside.seat.view.terms.limits c.self.inside.row.items c.args.key c.slot_number-slot.result c.index.result.now i.row_is c.slot_number-slot.ensures c.index.ensures is_key))
    ∙ sym (i.mine c.args.key) ∙ ap (λ (d : DeviceSeen). holds d.view.noted c.args.key) c.self.view_is
