use Rattle.std.proofs.Common.{Some, refl, slice_set, arith, ap, sym, subst, ◌∙◌}
use Rattle.std.specs.FinMap as map
use Rattle.svga_cmd.specs.Pages.{HasPage, page_at}
use Rattle.svga_ring.proofs.Pages.Locations.{slot_there}
use Rattle.svga_link.proofs.PageRows.{found_there, keys_there, page_put, there_is}
use Rattle.svga_link.proofs.PagesKept.{driver_end_written}
use Rattle.svga_link.specs.Ends.{DriverSeen, pages_in}
use Rattle.svga_link.proofs.driver.DriverEnd.page_here.Goals as goal

pub index_mut-requires : goal.index_mut-requires
index_mut-requires c =
    let e = c.self.inside in
    let l = e.seat.view.terms.limits in
    let has : HasPage (pages_in l e.row.items) c.args.key =
    subst (λ (d : DriverSeen). HasPage d.pages c.args.key) (sym c.self.view_is) c.requires in
    let is_key = keys_there l e.row.items c.args.key c.self.invariant.row_is has in
    let low = slot_there l c.args.key is_key in omega (arith, c.slot-slot.ensures, low, c.self.invariant.row_is, e.row.ok.0)

pub unreachable-requires : goal.unreachable-requires
unreachable-requires c =
    let e = c.self.inside in
    let l = e.seat.view.terms.limits in
    let has : HasPage (pages_in l e.row.items) c.args.key =
    subst (λ (d : DriverSeen). HasPage d.pages c.args.key) (sym c.self.view_is) c.requires in
    let is_key = keys_there l e.row.items c.args.key c.self.invariant.row_is has in
    there_is l e.row.items c.args.key c.slot-slot.result c.index_mut.result.now c.self.invariant.row_is
    c.slot-slot.ensures c.index_mut.ensures.value has c.in-None.is

pub invariant_of-self-lent : goal.invariant_of-self-lent
invariant_of-self-lent c =
    let e = c.self.inside in
    let l = e.seat.view.terms.limits in
    let has : HasPage (pages_in l e.row.items) c.args.key =
    subst (λ (d : DriverSeen). HasPage d.pages c.args.key) (sym c.self.view_is) c.requires in
    let is_key = keys_there l e.row.items c.args.key c.self.invariant.row_is has in
    λ w. rw c.in-Some.is (driver_end_written _ _ _ _ _ _ e.row.items c.args.key w c.slot-slot.result c.self.invariant has
    c.slot-slot.ensures)

pub returns : goal.returns
returns c =
    let e = c.self.inside in
    let l = e.seat.view.terms.limits in
    let has : HasPage (pages_in l e.row.items) c.args.key =
    subst (λ (d : DriverSeen). HasPage d.pages c.args.key) (sym c.self.view_is) c.requires in
    let is_key = keys_there l e.row.items c.args.key c.self.invariant.row_is has in
    let there = found_there l e.row.items c.args.key c.slot-slot.result c.index_mut.result.now c.self.invariant.row_is
    c.slot-slot.ensures c.index_mut.ensures.value is_key in (
      (
        refl,
        λ w. rw c.in-Some.is (λ j. record (c.self.view_is j) {
          pages = (ap (λ n. pages_in l (slice_set e.row.items n (Some w))) c.slot-slot.ensures
              ∙ page_put l e.row.items c.args.key w is_key c.self.invariant.row_is
              ∙ ap (λ (d : DriverSeen). map.insert d.pages c.args.key w) c.self.view_is) j;
        }),
      ),
      record {
        writes_back = tt;
        page = sym (ap (λ (d : DriverSeen). page_at d.pages c.args.key) c.self.view_is) ∙ there ∙ c.in-Some.is
            ∙ ap Some (sym c.in-Some.page-is);
      },
    )
