use Rattle.std.proofs.Common.{ap, refl, sym, ◌∙◌}
use Rattle.svga_cmd.specs.Lent.{entries_of}
use Rattle.svga_cmd.specs.declared.command.Command.TheVariants.{RemapGmr2}
use Rattle.svga_model.proofs.ActLaws.{fault_is}
use Rattle.svga_model.proofs.ShapeLaws.{judged_whole}
use Rattle.svga_model.specs.Acts.{Do}
use Rattle.svga_model.specs.Faults.{shape_tests}
use Rattle.svga_model.specs.Standing.{least_standing}
use Rattle.svga_machine.proofs.ViaShapes.{named_entries}
use Rattle.svga_machine.proofs.remap.remap.Goals as goal

pub remap_named-requires-clause-named : goal.remap_named-requires-clause-named
remap_named-requires-clause-named g c = named_entries c.args.region c.args.offset c.args.pages c.args.entries
    c.in_default.not-ViaGmr32 c.in_default.not-ViaGmr64

pub returns-in_default : goal.returns-in_default
returns-in_default g c =
    let command = RemapGmr2 c.args.region c.args.offset c.args.pages (entries_of c.args.entries) in
    let named = named_entries c.args.region c.args.offset c.args.pages c.args.entries c.in_default.not-ViaGmr32 c.in_default.not-ViaGmr64 in record {
      remap = record {
        fault = λ s same there. sym (fault_is s (Do command) ∙ judged_whole s command named
            ∙ ap (λ σ. least_standing (shape_tests σ command)) same ∙ c.requires.admitted);
        ok = λ s same there. c.remap_named.ensures.step s same;
        err = tt;
        chain = c.remap_named.ensures.chain;
        valid = c.remap_named.ensures.valid;
      };
      room = refl;
    }
