use Rattle.std.proofs.Common.{◌≡◌, ◌+◌, ◌*◌, ◌<◌, ap, subst, sym, ◌∙◌, arith, None}
use Rattle.svga_cmd.specs.declared.command.Command.TheVariants.{RemapGmr2}
use Rattle.svga_cmd.specs.declared.remap.RemapData.TheVariants.{Ppn64, ViaGmr64}
use Rattle.svga_model.specs.Acts.{Do}
use Rattle.svga_model.specs.Faults.{shape_tests}
use Rattle.svga_model.specs.PointedNumbers.{pointed_by}
use Rattle.svga_model.specs.Standing.{least_standing}
use Rattle.svga_model.specs.States.{State, shape_of}
use Rattle.svga_model.specs.Steps.{step}
use Rattle.svga_model.specs.Regions.{region_places}
use Rattle.svga_shape.specs.ShapeSet.{shape_in}
use Rattle.svga_transfer.specs.Reach.{HasByte, HasPages}
use Rattle.svga_machine.proofs.ViaBytes.{via64_there}
use Rattle.svga_machine.proofs.ViaLaws.{via64_fault, via64_step, via_range, words}
use Rattle.svga_machine.proofs.ViaShapes.{front_length, on_ok_map, words_are}
use Rattle.svga_machine.proofs.remap.remap_by_pairs.Given.{Over}
use Rattle.svga_machine.proofs.remap.remap_by_pairs.Goals as goal

pub read_words-requires-clause-there : goal.read_words-requires-clause-there
read_words-requires-clause-there g c = λ i low high.
    let set = c.args.shape.now in
    let m = g.P.PageStore.pages c.args.store.now in
    let at = c.args.pointer in
    let long = front_length c.args.numbers.now (2 * c.args.pages) (omega (arith, c.requires.few, c.requires.room)) in
    subst (λ r. HasByte m (region_places r.frame r.regions at.region) i) (sym c.regions.ensures.regions)
    (subst (λ frame. HasByte m (region_places frame set.regions.regions at.region) i) (sym c.regions.ensures.valid.frame)
    (via64_there (shape_in set) m c.args.region c.args.offset c.args.pages at c.requires.admitted
    (subst (λ frame. HasPages m (region_places frame set.regions.regions at.region)) c.regions.ensures.valid.frame c.requires.there) i low
    (subst (λ count. i < at.offset + 4 * count) long high)))

-- what was read
read : (g : Over) (c : goal.After-slice_known-3-1 g) (s : State) → shape_of s.kept ≡ shape_in c.args.shape.now → s.memory ≡ g.P.PageStore.pages c.args.store.now
    → c.read_words.new.words ≡ words s c.args.pointer (2 * c.args.pages)
read g c s same there = c.read_words.ensures
    ∙ words_are s c.args.shape.now c.regions.result.now (g.P.PageStore.pages c.args.store.now) c.args.pointer (2 * c.args.pages) _ same c.regions.ensures.valid c.regions.ensures.regions there
    (front_length c.args.numbers.now (2 * c.args.pages) (omega (arith, c.requires.few, c.requires.room)))

pub remap_read-requires-clause-admitted : goal.remap_read-requires-clause-admitted
remap_read-requires-clause-admitted g c = via_range (shape_in c.args.shape.now) c.args.region c.args.offset c.args.pages
    (pointed_by 2 c.args.pointer) c.requires.admitted

pub returns-clause-remap : goal.returns-clause-remap
returns-clause-remap g c = record {
  fault = λ s same there.
      c.remap_read.ensures.fault
      ∙ ap (λ ws. least_standing (shape_tests (shape_in c.args.shape.now) (RemapGmr2 c.args.region c.args.offset c.args.pages (Ppn64 ws)))) (read g c s same there)
      ∙ ap (λ σ. least_standing (shape_tests σ (RemapGmr2 c.args.region c.args.offset c.args.pages (Ppn64 (words s c.args.pointer (2 * c.args.pages)))))) (sym same)
      ∙ sym (via64_fault s c.args.region c.args.offset c.args.pages c.args.pointer
      (subst (λ σ. least_standing (shape_tests σ (RemapGmr2 c.args.region c.args.offset c.args.pages (ViaGmr64 c.args.pointer))) ≡ None) (sym same) c.requires.admitted));
  ok = on_ok_map _ _ c.remap_read.result
      (λ stepped s same there. ap (λ t. shape_of t.kept) (via64_step s c.args.region c.args.offset c.args.pages c.args.pointer)
      ∙ ap (λ ws. shape_of (step s (Do (RemapGmr2 c.args.region c.args.offset c.args.pages (Ppn64 ws)))).kept) (sym (read g c s same there))
      ∙ stepped.step s same)
      c.remap_read.ensures.ok;
  err = c.remap_read.ensures.err;
  chain = c.remap_read.ensures.chain;
  valid = c.remap_read.ensures.valid;
}
