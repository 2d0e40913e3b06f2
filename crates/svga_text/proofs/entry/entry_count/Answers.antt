use Rattle.std.proofs.Common.{length, sym, subst, ◌∙◌, ap}
use Rattle.svga_cmd.specs.Lent.{entries_of}
use Rattle.svga_cmd.specs.WellFormed.{HasEntries}
use Rattle.svga_text.specs.CommandLines.{entry_numbers}
use Rattle.svga_text.proofs.EntryLaws.{length-wide_numbers}
use Rattle.svga_text.proofs.entry.entry_count.Goals as goal

pub returns-in-Ppn64 : goal.returns-in-Ppn64
returns-in-Ppn64 c =
    let listed = subst (λ e. HasEntries (entries_of e) c.args.pages) c.in-Ppn64.is c.requires in
    sym (length-wide_numbers _ _ listed) ∙ ap (λ e. length (entry_numbers (entries_of e))) (sym c.in-Ppn64.is)
