use Rattle.std.proofs.Common.{ap, refl, sym, ◌∙◌, arith}
use Rattle.svga_model.proofs.StandingLaws.{first_is_least}
use Rattle.svga_model.specs.BlitFaults.{blit_tests}
use Rattle.svga_model.specs.Standing.{least_standing}
use Rattle.svga_shape.specs.ShapeSet.{ShapeSet, shape_in}
use Rattle.svga_shape.proofs.shape.Shape.may_blit.Goals as goal

pub returns : goal.returns
returns c =
    let set : ShapeSet = record { limits = c.self.inside.limits; regions = c.self.inside.regions; gmrfb = c.self.inside.gmrfb; screens = c.self.inside.screens } in
    c.may_blit.ensures (shape_in set) refl (sym c.self.invariant.1.frame) refl refl
    ∙ first_is_least 0 (blit_tests (shape_in set) c.args.blit.now) (omega arith, (omega arith, (omega arith, (omega arith, (omega arith, (omega arith, (omega arith, tt)))))))
    ∙ ap (λ s. least_standing (blit_tests (shape_in s) c.args.blit.now)) c.self.view_is
