use Rattle.std.proofs.Common.{ap, refl, ℕ, Option}
use Rattle.svga_cmd.specs.declared.screen.ScreenDef.{ScreenDef}
use Rattle.svga_model.specs.States.{Kept}
use Rattle.svga_model.specs.BlitEffects.{repainted_screens, update_colour}
use Rattle.svga_model.specs.Memories.{region_byte}
use Rattle.svga_model.specs.Regions.{frame_places}
use Rattle.svga_machine.specs.MachineSet.{kept_of}
use Rattle.svga_machine.proofs.PartsLaws.{new_parts, repainted_new}
use Rattle.svga_machine.proofs.machine.Machine.update.Goals as goal

pub invariant_of-self : goal.invariant_of-self
invariant_of-self g c =
    let old : Kept = kept_of c.self.inside.shape c.self.inside.screens c.self.inside.fence in
    let bytes = region_byte (g.P.PageStore.pages c.args.store.now) (frame_places c.regions.result.now.frame) in
    let colour : ℕ → ScreenDef → ℕ → ℕ → Option ℕ = λ id. update_colour bytes c.limits.result c.args.extent.x c.args.extent.y c.args.extent.width c.args.extent.height in (
      new_parts (record old { screens = repainted_screens colour old.screens }) old c.self.inside.shape c.self.inside.shape c.update_screens.new.screens c.self.inside.screens c.self.inside.fence
          c.self.invariant.0 refl c.self.invariant.0.valid (ap (λ s. s.budget) c.update_screens.ensures.painted)
          (repainted_new old c.self.inside.shape c.self.inside.screens c.update_screens.new.screens colour c.self.invariant.0 c.regions.ensures.definitions c.update_screens.ensures.painted),
      c.self.invariant.1,
    )
