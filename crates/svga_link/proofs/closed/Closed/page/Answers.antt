use Rattle.std.proofs.Common.{arith, ap, sym, subst, ◌∙◌}
use Rattle.svga_cmd.specs.Pages.{HasPage, page_at}
use Rattle.svga_model.specs.Closings.{Closed}
use Rattle.svga_ring.proofs.Pages.Locations.{slot_there}
use Rattle.svga_link.proofs.PageRows.{found_there, keys_there, there_is}
use Rattle.svga_link.proofs.closed.Closed.page.Goals as goal

pub index-requires : goal.index-requires
index-requires c =
    let limits = c.self.inside.session.limits in
    let row_is = c.self.invariant.row_is in
    let has = subst (λ (r : Closed). HasPage r.pages c.args.key) (sym c.self.view_is) c.requires in
    let low = slot_there limits c.args.key (keys_there limits _ c.args.key row_is has) in
    omega (arith, low, row_is, c.slot_number.ensures)

pub unreachable-requires : goal.unreachable-requires
unreachable-requires c =
    there_is c.self.inside.session.limits c.self.inside.row.items c.args.key _ _ c.self.invariant.row_is c.slot_number.ensures
    c.index.ensures (subst (λ (r : Closed). HasPage r.pages c.args.key) (sym c.self.view_is) c.requires) c.in-None.is

pub returns : goal.returns
returns c =
    let limits = c.self.inside.session.limits in
    let row_is = c.self.invariant.row_is in
    let has = subst (λ (r : Closed). HasPage r.pages c.args.key) (sym c.self.view_is) c.requires in
    ap (λ (r : Closed). page_at r.pages c.args.key) (sym c.self.view_is)
    ∙ found_there limits c.self.inside.row.items c.args.key _ _ row_is c.slot_number.ensures c.index.ensures
    (keys_there limits _ c.args.key row_is has)
    ∙ c.in-Some.is
