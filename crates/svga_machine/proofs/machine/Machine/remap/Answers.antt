use Rattle.std.proofs.Common.{arith, refl, subst, sym}
use Rattle.std.proofs.lemmas.Grind.{common_steps}
use Rattle.svga_cmd.specs.Lent.{entries_of}
use Rattle.svga_cmd.specs.declared.command.Command.TheVariants.{RemapGmr2}
use Rattle.svga_model.specs.PointedNumbers.{pointed}
use Rattle.svga_model.specs.States.{Kept, State}
use Rattle.svga_model.specs.Touches.{touched_places}
use Rattle.svga_machine.specs.MachineSet.{kept_of}
use Rattle.svga_transfer.specs.Reach.{HasPages}
use Rattle.svga_machine.specs.Touched.{HasPointed}
use Rattle.svga_machine.proofs.PartsLaws.{frame_is, pointed_there, remap_parts}
use Rattle.svga_machine.proofs.ViaShapes.{on_ok_map}
use Rattle.svga_machine.proofs.machine.Machine.remap.Goals as goal

pub remap-requires-clause-there : goal.remap-requires-clause-there
remap-requires-clause-there g c =
    let old : Kept = kept_of c.self.inside.shape c.self.inside.screens c.self.inside.fence in
    let m = g.P.PageStore.pages c.args.store.now in
    let entries = entries_of c.args.entries in
    subst (λ frame. HasPointed frame c.self.inside.shape.regions.regions m (pointed entries)) (sym (frame_is old c.self.inside.shape c.self.inside.screens c.self.invariant.0))
    (pointed_there _ c.self.inside.shape.regions.regions m (pointed entries)
    (subst (λ k. HasPages m (touched_places k.kept (RemapGmr2 c.args.region c.args.offset c.args.pages entries))) (sym c.self.view_is) c.requires.there))

pub invariant_of-self : goal.invariant_of-self
invariant_of-self g c =
    let old : Kept = kept_of c.self.inside.shape c.self.inside.screens c.self.inside.fence in
    let s : State = record { kept = old; memory = g.P.PageStore.pages c.args.store.now } in (
      remap_parts s c.self.inside.shape c.remap.new.shape c.self.inside.screens c.self.inside.fence c.args.region c.args.offset c.args.pages (entries_of c.args.entries)
          c.remap.result refl c.self.invariant.0 c.remap.ensures.remap.valid
          (on_ok_map _ _ c.remap.result (λ stepped. stepped s (sym c.self.invariant.0.shape) refl) c.remap.ensures.remap.ok) c.remap.ensures.remap.err,
      (let room = c.remap.ensures.room in let value = c.deref_mut.ensures.value in let len = c.deref_mut.ensures.len in let items = c.self.invariant.1 in let fits = c.self.inside.numbers.ok.0 in grind (arith, common_steps)),
    )
