use Rattle.std.proofs.Common.{◌≡◌, ◌+◌, ◌/◌, ◌<◌, ◌^◌, ◌==◌, false, length, ap, sym, subst, ◌∙◌}
use Rattle.svga_link.proofs.Begins.{begun_seen, begun_stays, driver_end_begun, no_words}
use Rattle.svga_link.specs.Ends.{DriverSeen, pages_in}
use Rattle.svga_link.specs.ReserveAnswers.{CanBegin, IsBegun}
use Rattle.svga_link.specs.Reserving.{in_place_by}
use Rattle.svga_link.proofs.driver.DriverEnd.begin.Goals as goal

pub invariant_of-self-in-Ok : goal.invariant_of-self-in-Ok
invariant_of-self-in-Ok c =
    let same = sym c.self.view_is in
    let can = subst (λ (d : DriverSeen). CanBegin d c.args.bytes) same c.requires.can in
    let runs = subst (λ (d : DriverSeen). d.view.stopped ≡ false) same c.requires.runs in
    let short = subst (λ (d : DriverSeen). length d.view.sent + c.args.bytes / 4 < 2 ^ 62) same c.requires.short in
    let place = c.is_in_place-self-inside.ensures ∙ ap (λ w. in_place_by w (c.in-Ok.reserved.first == c.args.bytes)) c.way.ensures in
    driver_end_begun _ _ _ _ _ _ _ _ _ c.args.bytes _ c.in-Ok.reserved c.self.invariant can.none_begun can.aligned can.small runs short
    c.in-Ok.ensures.answers c.facts.ensures (ap (λ s. s.carried) c.reserve_on.ensures.left) place

pub returns-in-Ok : goal.returns-in-Ok
returns-in-Ok c =
    let same = sym c.self.view_is in
    let can = subst (λ (d : DriverSeen). CanBegin d c.args.bytes) same c.requires.can in
    let left = c.reserve_on.new.seat.view in
    let begun = c.in-Ok.ensures.answers in
    let stays = begun_stays c.self.inside.seat.view left c.args.bytes c.in-Ok.reserved begun in
    let seen = begun_seen c.reserve_on.new.seat.table left c.args.bytes _ (pages_in left.terms.limits c.self.inside.row.items) c.args.self.now
    (ap (λ s. s.table) c.reserve_on.ensures.left ∙ ap (λ d. d.table) c.self.view_is)
    (no_words _ left _ _ _ _ _ _ c.self.invariant can.none_begun stays.pending)
    (ap (λ t. pages_in t.limits c.self.inside.row.items) stays.terms ∙ ap (λ d. d.pages) c.self.view_is) in (
      c.requires.can,
      subst (λ d. IsBegun d c.args.bytes c.in-Ok.reserved left) (ap (λ d. d.view) c.self.view_is) begun,
      seen,
    )
