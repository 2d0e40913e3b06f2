use Rattle.std.proofs.Common.{◌≡◌, ◌*◌, ◌<◌, false, length, ap, sym, subst, arith, ◌∙◌}
use Rattle.svga_link.proofs.EndsKept.{buffer_room, buffered, buffered_words, with_word, with_words}
use Rattle.svga_link.specs.Ends.{DriverSeen}
use Rattle.svga_link.specs.contracts.driver.DriverEnd.{the_view}
use Rattle.svga_link.specs.Reserving.{goes_in_place}
use Rattle.svga_link.proofs.driver.DriverEnd.put_in_buffer.Goals as goal

pub index_mut-requires : goal.index_mut-requires
index_mut-requires c = omega (arith, buffer_room _ _ _ _ _ _ _ c.self.invariant, c.self.inside.buffer.ok.0)

pub invariant_of-self : goal.invariant_of-self
invariant_of-self c =
    let same = sym c.self.view_is in
    buffered _ _ _ _ _ _ c.args.word _ c.self.invariant
    (subst (λ (d : DriverSeen). 4 * length d.words < d.reserved) same c.requires.room)
    (subst (λ (d : DriverSeen). goes_in_place d.view d.reserved ≡ false) same c.requires.apart)

pub returns : goal.returns
returns c =
    let fits = buffer_room _ _ _ _ _ _ _ c.self.invariant in
    let more = buffered_words c.self.inside.seat.view.pending c.self.inside.buffer.items c.self.inside.filled c.args.word fits in
    ap (with_words (the_view c.self.inside)) more ∙ ap (with_word c.args.word) c.self.view_is
