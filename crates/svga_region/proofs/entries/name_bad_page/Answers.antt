use Rattle.std.proofs.Common.{◌+◌, ◌*◌, ap, ◌∙◌, sym, nat_le, slice_index}
use Rattle.std.specs.List.{list_any, range_with_len}
use Rattle.svga_cmd.specs.Lent.{entries_of}
use Rattle.svga_model.specs.Regions.{joined_words, named_pages}
use Rattle.svga_region.proofs.ListLaws.{list_any-map}
use Rattle.svga_region.proofs.entries.name_bad_page.Goals as goal

pub returns-in-Ppn64 : goal.returns-in-Ppn64
returns-in-Ppn64 c =
    let words = c.in-Ppn64.list.now in
    let test = c.some_bad_pair.ensures ∙ sym (list_any-map (λ n. nat_le c.args.guest n) (λ k. joined_words (slice_index words (2 * k)) (slice_index words (2 * k + 1))) (range_with_len 0 c.args.pages)) in
    test ∙ ap (λ e. list_any (λ n. nat_le c.args.guest n) (named_pages (entries_of e) c.args.pages)) (sym c.in-Ppn64.is)
