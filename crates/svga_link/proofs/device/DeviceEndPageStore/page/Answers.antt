use Rattle.std.proofs.Common.{ap, sym, subst, ◌∙◌, arith}
use Rattle.svga_cmd.specs.Pages.{HasPage, page_at}
use Rattle.svga_link.proofs.DeviceEnds.{in_row}
use Rattle.svga_link.proofs.PageRows.{found_there, keys_there, there_is}
use Rattle.svga_link.specs.Ends.{DeviceSeen}
use Rattle.svga_link.proofs.device.DeviceEndPageStore.page.Goals as goal

pub index-requires : goal.index-requires
index-requires c =
    let i = c.self.invariant.0 in
    let has = subst (λ (d : DeviceSeen). HasPage d.pages c.args.key) (sym c.self.view_is) c.requires in
    let is_key = keys_there c.self.inside.seat.view.terms.limits c.self.inside.row.items c.args.key i.row_is has in
    let low = in_row _ _ _ c.args.key _ i is_key c.slot_number-slot.ensures in
    omega (arith, low, c.self.inside.row.ok.0)

pub unreachable-requires : goal.unreachable-requires
unreachable-requires c =
    let i = c.self.invariant.0 in
    let l = c.self.inside.seat.view.terms.limits in
    let items = c.self.inside.row.items in
    let has = subst (λ (d : DeviceSeen). HasPage d.pages c.args.key) (sym c.self.view_is) c.requires in
    there_is l items c.args.key c.slot_number-slot.result c.index.result.now i.row_is c.slot_number-slot.ensures c.index.ensures has c.in-None.is

pub returns : goal.returns
returns c =
    let i = c.self.invariant.0 in
    let l = c.self.inside.seat.view.terms.limits in
    let items = c.self.inside.row.items in
    let has = subst (λ (d : DeviceSeen). HasPage d.pages c.args.key) (sym c.self.view_is) c.requires in
    let is_key = keys_there l items c.args.key i.row_is has in
    sym (ap (λ (d : DeviceSeen). page_at d.pages c.args.key) c.self.view_is)
    ∙ found_there l items c.args.key c.slot_number-slot.result c.index.result.now i.row_is c.slot_number-slot.ensures c.index.ensures is_key ∙ c.in-Some.is
