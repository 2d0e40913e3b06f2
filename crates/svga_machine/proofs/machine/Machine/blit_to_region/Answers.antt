use Rattle.svga_model.specs.States.{Kept}
use Rattle.std.proofs.Common.{ap, subst, sym, ◌∙◌}
use Rattle.svga_model.specs.BlitFaults.{blit_tests}
use Rattle.svga_model.specs.Screens.{definitions_of}
use Rattle.svga_model.specs.Standing.{least_standing}
use Rattle.svga_model.specs.States.{shape_of}
use Rattle.svga_model.specs.Regions.{region_places}
use Rattle.svga_transfer.specs.Reach.{AreMapped}
use Rattle.svga_machine.specs.MachineSet.{kept_of}
use Rattle.svga_machine.proofs.PartsLaws.{blit_mapped, frame_is}
use Rattle.svga_machine.proofs.machine.Machine.blit_to_region.Goals as goal

pub blit_to_region-requires-clause-mapped : goal.blit_to_region-requires-clause-mapped
blit_to_region-requires-clause-mapped g c =
    let old : Kept = kept_of c.self.inside.shape c.self.inside.screens c.self.inside.fence in
    let gmrfb = c.in-Some.gmrfb in
    subst (λ regions. AreMapped (definitions_of old.screens) gmrfb c.args.blit.now (region_places regions.frame regions.regions gmrfb.region)) (sym c.regions.ensures.regions)
    (subst (λ frame. AreMapped (definitions_of old.screens) gmrfb c.args.blit.now (region_places frame old.regions gmrfb.region)) (sym (frame_is old c.self.inside.shape c.self.inside.screens c.self.invariant.0))
    (blit_mapped old gmrfb c.args.blit.now (sym c.gmrfb.ensures ∙ c.in-Some.is) (ap (λ m. least_standing (blit_tests (shape_of m.kept) c.args.blit.now)) c.self.view_is ∙ c.requires.admitted)))
