-- The area is what the blit's rectangle shares with the screen.
use Rattle.std.proofs.Common.{refl, sym, ◌∙◌, to_z, of_z, w32, arith}
use Rattle.std.proofs.lemmas.Int.{ints}
use Rattle.svga_transfer.proofs.AreaLaws.{area_painted, nothing_painted}
use Rattle.svga_transfer.proofs.paint.painted_area.Goals as goal

pub returns-then-area-eq0-clause-none : goal.returns-then-area-eq0-clause-none
returns-then-area-eq0-clause-none c = λ bytes g.
    let corner = c.corner_of-corner.result in
    nothing_painted c.args.blit.now _ c.args.def.now (to_z w32 (of_z w32 corner.x)) (to_z w32 (of_z w32 corner.y)) _
    (omega (arith, ints, c.corner_of-corner.ensures.x)) (omega (arith, ints, c.corner_of-corner.ensures.y))
    c.clip-area.ensures bytes g c.if-area-eq0.true

pub returns-clause-some : goal.returns-clause-some
returns-clause-some c = λ bytes g.
    let corner = c.corner_of-corner.result in (
      refl,
      area_painted c.args.blit.now _ c.args.def.now (to_z w32 (of_z w32 corner.x)) (to_z w32 (of_z w32 corner.y)) _
          (omega (arith, ints, c.corner_of-corner.ensures.x)) (omega (arith, ints, c.corner_of-corner.ensures.y))
          c.clip-area.ensures bytes g (sym c.is_meant.ensures ∙ c.if-not-is_meant.false) c.if-area-eq0.false,
    )
