use Rattle.std.proofs.Common.{Some, refl, ap, sym, subst, ◌∙◌, arith, slice_set}
use Rattle.std.specs.FinMap as map
use Rattle.svga_cmd.specs.Pages.{HasPage, page_at}
use Rattle.svga_link.proofs.DeviceEnds.{end_written, in_row}
use Rattle.svga_link.proofs.PageRows.{found_there, keys_there, page_put, there_is}
use Rattle.svga_link.specs.Ends.{DeviceSeen, pages_in}
use Rattle.svga_link.proofs.device.DeviceEndPageStore.page_mut.Goals as goal

pub index_mut-requires : goal.index_mut-requires
index_mut-requires c =
    let i = c.self.invariant.0 in
    let has = subst (λ (d : DeviceSeen). HasPage d.pages c.args.key) (sym c.self.view_is) c.requires in
    let is_key = keys_there c.self.inside.seat.view.terms.limits c.self.inside.row.items c.args.key i.row_is has in
    let low = in_row _ _ _ c.args.key _ i is_key c.slot_number-slot.ensures in
    omega (arith, low, c.self.inside.row.ok.0)

pub unreachable-requires : goal.unreachable-requires
unreachable-requires c =
    let i = c.self.invariant.0 in
    let l = c.self.inside.seat.view.terms.limits in
    let items = c.self.inside.row.items in
    let has = subst (λ (d : DeviceSeen). HasPage d.pages c.args.key) (sym c.self.view_is) c.requires in
    there_is l items c.args.key c.slot_number-slot.result c.index_mut.result.now i.row_is c.slot_number-slot.ensures c.index_mut.ensures.value has c.in-None.is

pub invariant_of-self-lent : goal.invariant_of-self-lent
invariant_of-self-lent c =
    let i = c.self.invariant.0 in
    let items = c.self.inside.row.items in
    let has = subst (λ (d : DeviceSeen). HasPage d.pages c.args.key) (sym c.self.view_is) c.requires in
    λ w. rw c.in-Some.is (end_written _ _ items c.args.key w c.slot_number-slot.result i has c.slot_number-slot.ensures, c.self.invariant.1)

pub returns : goal.returns
returns c =
    let i = c.self.invariant.0 in
    let l = c.self.inside.seat.view.terms.limits in
    let items = c.self.inside.row.items in
    let has = subst (λ (d : DeviceSeen). HasPage d.pages c.args.key) (sym c.self.view_is) c.requires in
    let is_key = keys_there l items c.args.key i.row_is has in (
      (refl, λ w. rw c.in-Some.is (λ j. record (c.self.view_is j) { pages = (ap (λ n. pages_in l (slice_set items n (Some w))) c.slot_number-slot.ensures ∙ page_put l items c.args.key w is_key i.row_is ∙ ap (λ (d : DeviceSeen). map.insert d.pages c.args.key w) c.self.view_is) j })),
      record {
        writes_back = tt;
        page = sym (ap (λ (d : DeviceSeen). page_at d.pages c.args.key) c.self.view_is)
            ∙ found_there l items c.args.key c.slot_number-slot.result c.index_mut.result.now i.row_is c.slot_number-slot.ensures c.index_mut.ensures.value is_key
            ∙ c.in-Some.is ∙ ap Some (sym c.in-Some.page-is);
      },
    )
