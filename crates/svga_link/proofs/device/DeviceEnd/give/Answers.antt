use Rattle.std.proofs.Common.{ap, sym, subst, ◌∙◌, arith, slice_set, IsSome, unwrap_or, []}
use Rattle.std.specs.FinMap as map
use Rattle.svga_model.specs.Memories.{page_bytes}
use Rattle.svga_ring.specs.Noting.{holds}
use Rattle.svga_link.proofs.DeviceEnds.{end_returns, held_there, in_row}
use Rattle.svga_link.proofs.PageRows.{found_there, keys_there, page_gone}
use Rattle.svga_link.specs.Ends.{DeviceSeen, IsDeviceEnd, pages_in}
use Rattle.svga_link.specs.Holding.{returned}
use Rattle.svga_link.specs.Seats.{SeenDeviceSeat}
use Rattle.svga_link.proofs.device.DeviceEnd.give.Goals as goal

pub index_mut-requires : goal.index_mut-requires
index_mut-requires c =
    let i = c.self.invariant.0 in
    let key = c.args.key in
    let has = held_there _ _ _ key i (ap (λ (d : DeviceSeen). holds d.view.noted key) c.self.view_is ∙ c.requires) in
    let is_key = keys_there c.self.inside.seat.view.terms.limits c.self.inside.row.items key i.row_is has in
    let low = in_row _ _ _ key _ i is_key c.slot_number-slot.ensures in
    omega (arith, low, c.self.inside.row.ok.0)

pub unwrap-page-requires : goal.unwrap-page-requires
unwrap-page-requires c =
    let i = c.self.invariant.0 in
    let key = c.args.key in
    let l = c.self.inside.seat.view.terms.limits in
    let items = c.self.inside.row.items in
    let has = held_there _ _ _ key i (ap (λ (d : DeviceSeen). holds d.view.noted key) c.self.view_is ∙ c.requires) in
    let is_key = keys_there c.self.inside.seat.view.terms.limits c.self.inside.row.items key i.row_is has in
    let there = found_there l items key c.slot_number-slot.result c.index_mut.result.now i.row_is c.slot_number-slot.ensures c.index_mut.ensures.value is_key in
    subst IsSome (there ∙ sym c.take.ensures.value) has

pub give-requires-clause-key : goal.give-requires-clause-key
give-requires-clause-key c =
    let i = c.self.invariant.0 in
    let key = c.args.key in
    let has = held_there _ _ _ key i (ap (λ (d : DeviceSeen). holds d.view.noted key) c.self.view_is ∙ c.requires) in
    keys_there c.self.inside.seat.view.terms.limits c.self.inside.row.items key i.row_is has

pub invariant_of-self : goal.invariant_of-self
invariant_of-self c =
    let i = c.self.invariant.0 in
    let key = c.args.key in
    let items = c.self.inside.row.items in
    let has = held_there _ _ _ key i (ap (λ (d : DeviceSeen). holds d.view.noted key) c.self.view_is ∙ c.requires) in
    let is_key = keys_there c.self.inside.seat.view.terms.limits c.self.inside.row.items key i.row_is has in
    let t = c.give.ensures in (
      subst (λ row. IsDeviceEnd c.give.new.self.view c.give.new.self.carried row)
          (λ j. slice_set items (sym c.slot_number-slot.ensures j) (sym c.take.ensures.after j))
          (end_returns _ _ _ _ items key c.unwrap-page.result i is_key (ap (λ s. s.view) t) (ap (λ s. s.carried) t)),
      c.self.invariant.1 ∙ ap (λ (s : SeenDeviceSeat). s.view.answered) (sym t),
    )

pub returns : goal.returns
returns c =
    let i = c.self.invariant.0 in
    let key = c.args.key in
    let l = c.self.inside.seat.view.terms.limits in
    let items = c.self.inside.row.items in
    let has = held_there _ _ _ key i (ap (λ (d : DeviceSeen). holds d.view.noted key) c.self.view_is ∙ c.requires) in
    let is_key = keys_there c.self.inside.seat.view.terms.limits c.self.inside.row.items key i.row_is has in
    let there = found_there l items key c.slot_number-slot.result c.index_mut.result.now i.row_is c.slot_number-slot.ensures c.index_mut.ensures.value is_key in
    let t = c.give.ensures in
    let limits = ap (λ (s : SeenDeviceSeat). s.view.terms.limits) t in
    let pages = (λ j. pages_in (limits j) (slice_set items (c.slot_number-slot.ensures j) (c.take.ensures.after j))) ∙ page_gone l items key is_key i.row_is in
    let bytes = sym (ap (λ o. unwrap_or o []) (there ∙ sym c.take.ensures.value ∙ c.unwrap-page.ensures)) in
    (λ j. record { table = (t j).table; view = (t j).view; pages = pages j })
    ∙ (λ j. record { table = c.self.inside.seat.table; view = returned c.self.inside.seat.view key (bytes j); pages = map.remove (pages_in l items) key })
    ∙ ap (λ (d : DeviceSeen). record d { view = returned d.view key (page_bytes d.pages key); pages = map.remove d.pages key }) c.self.view_is
