use Rattle.std.proofs.Common.{ap, ◌∙◌, sym, nat_le, slice_index}
use Rattle.std.specs.List.{list_any}
use Rattle.svga_cmd.specs.Lent.{entries_of}
use Rattle.svga_model.specs.Regions.{named_pages, range_pages}
use Rattle.svga_region.proofs.EntryLaws.{good_low}
use Rattle.svga_region.proofs.entries.entry_page.Goals as goal

pub returns-in-Ppn64 : goal.returns-in-Ppn64
returns-in-Ppn64 c =
    let is = c.in-Ppn64.is in
    let good = ap (λ e. list_any (λ n. nat_le c.args.guest n) (named_pages (entries_of e) c.args.pages)) (sym is) ∙ c.requires.good in
    good_low c.args.guest c.in-Ppn64.list.now c.args.pages c.args.k c.requires.small c.requires.within good ∙ ap (λ e. slice_index (range_pages (entries_of e) c.args.pages) c.args.k) (sym is)
