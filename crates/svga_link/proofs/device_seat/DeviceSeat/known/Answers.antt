use Rattle.std.proofs.Common.{arith, ◌-◌, ap, subst, sym, ◌∙◌}
use Rattle.svga_ring.specs.Core.{read_count}
use Rattle.svga_ring.specs.Rings.{AreCounts, dwords_of}
use Rattle.svga_link.proofs.DeviceTold.{known_counts}
use Rattle.svga_link.proofs.Offsets.{layout_of}
use Rattle.svga_link.proofs.device_seat.DeviceSeat.known.Goals as goal

pub returns : goal.returns
returns c =
    let session = c.self.inside.session in
    let e = c.self.inside.seat.me.0.of_device in
    let counts = known_counts session c.self.inside.seat.me c.self.inside.next c.self.inside.at c.self.invariant.1 in
    let here = subst (λ g. AreCounts g c.self.inside.next c.self.inside.at e.next (read_count e)) (sym c.ring_of-ring.ensures) counts in
    let free = c.free.ensures.dwords e.next (read_count e) here in
    let view = ap (λ s. s.view.next - read_count s.view) c.self.view_is in
    let max = ap (λ g. g.max) c.ring_of-ring.ensures in
    let min = ap (λ g. g.min) c.ring_of-ring.ensures in
    let dwords = ap dwords_of c.ring_of-ring.ensures in
    omega (arith, free, dwords, max, min, (layout_of session).whole, (layout_of session).least, counts.behind, counts.room) ∙ view
