use Rattle.std.proofs.Common.{◌<◌, ◌+◌, length, arith, sym, subst, ◌∙◌}
use Rattle.std.proofs.lemmas.Bool.Decides.{nat_tests}
use Rattle.svga_region.specs.RegionSet.{places_in}
use Rattle.svga_driver.proofs.TouchLaws.{IsTouching, touching_next, touching_on}
use Rattle.svga_driver.proofs.touching.touch_all.Goals as goal
use Rattle.svga_driver.proofs.touching.touch_all.Goals.{in-Some, in-None}

pub loop-k-preserved : goal.loop-k-preserved
loop-k-preserved c =
    let places = places_in c.args.regions.now c.args.id in
    let low : c.loop-k.k < length places = grind (
      arith,
      nat_tests,
      c.loop-k-test.true,
      c.place_count-k-end.ensures,
    ) in
    elim c.match-place.branch [
      | in-Some w ↦ subst (λ now. IsTouching places c.args.command c.args.fences c.args.lendings.now now
          (c.loop-k.k + 1))
          (sym (w.lendings-is ∙ w.touch.ensures))
          (touching_next places c.args.command c.args.fences c.args.lendings.now c.loop-k.lendings c.loop-k.k
          w.in-Some.key
          c.loop-k.invariant low (sym c.place.ensures ∙ w.in-Some.is))
      | in-None w ↦ subst (λ now. IsTouching places c.args.command c.args.fences c.args.lendings.now now
          (c.loop-k.k + 1))
          (sym w.lendings-is)
          (touching_on places c.args.command c.args.fences c.args.lendings.now c.loop-k.lendings c.loop-k.k
          c.loop-k.invariant low (sym c.place.ensures ∙ w.in-None.is))
    ]
