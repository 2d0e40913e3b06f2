use Rattle.std.proofs.Common.{refl, ap}
use Rattle.svga_model.specs.States.{Kept}
use Rattle.svga_model.specs.BlitEffects.{repainted_screens, blit_colour}
use Rattle.svga_model.specs.Memories.{region_byte}
use Rattle.std.proofs.Common.{subst, sym, ◌∙◌}
use Rattle.svga_model.specs.BlitFaults.{blit_tests}
use Rattle.svga_model.specs.Screens.{definitions_of}
use Rattle.svga_model.specs.Standing.{least_standing}
use Rattle.svga_model.specs.States.{shape_of}
use Rattle.svga_model.specs.Regions.{region_places}
use Rattle.svga_transfer.specs.Reach.{AreMapped}
use Rattle.svga_machine.specs.MachineSet.{kept_of}
use Rattle.svga_machine.proofs.PartsLaws.{blit_mapped, frame_is, new_parts, repainted_new}
use Rattle.svga_machine.proofs.machine.Machine.blit_to_screens.Goals as goal

pub blit_to_screens-requires-clause-mapped : goal.blit_to_screens-requires-clause-mapped
blit_to_screens-requires-clause-mapped g c =
    let old : Kept = kept_of c.self.inside.shape c.self.inside.screens c.self.inside.fence in
    let gmrfb = c.in-Some.gmrfb in
    subst (λ regions. AreMapped (definitions_of old.screens) gmrfb c.args.blit.now (region_places regions.frame regions.regions gmrfb.region)) (sym c.regions.ensures.regions)
    (subst (λ frame. AreMapped (definitions_of old.screens) gmrfb c.args.blit.now (region_places frame old.regions gmrfb.region)) (sym (frame_is old c.self.inside.shape c.self.inside.screens c.self.invariant.0))
    (blit_mapped old gmrfb c.args.blit.now (sym c.gmrfb.ensures ∙ c.in-Some.is) (ap (λ m. least_standing (blit_tests (shape_of m.kept) c.args.blit.now)) c.self.view_is ∙ c.requires.admitted)))

pub invariant_of-self : goal.invariant_of-self
invariant_of-self g c =
    let old : Kept = kept_of c.self.inside.shape c.self.inside.screens c.self.inside.fence in
    let colour = blit_colour (region_byte (g.P.PageStore.pages c.args.store.now) (region_places c.regions.result.now.frame c.regions.result.now.regions c.in-Some.gmrfb.region)) c.in-Some.gmrfb c.args.blit.now in (
      new_parts (record old { screens = repainted_screens colour old.screens }) old c.self.inside.shape c.self.inside.shape c.blit_to_screens.new.screens c.self.inside.screens c.self.inside.fence
          c.self.invariant.0 refl c.self.invariant.0.valid (ap (λ s. s.budget) c.blit_to_screens.ensures.painted)
          (repainted_new old c.self.inside.shape c.self.inside.screens c.blit_to_screens.new.screens colour c.self.invariant.0 c.regions.ensures.definitions c.blit_to_screens.ensures.painted),
      c.self.invariant.1,
    )
