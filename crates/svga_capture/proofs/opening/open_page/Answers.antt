use Rattle.std.proofs.Common.{ap, sym, ◌∙◌}
use Rattle.std.proofs.Common.{slice_range, ◌+◌}
use Rattle.std.specs.FinMap as map
use Rattle.svga_model.proofs.PutLaws.{with_page-has}
use Rattle.svga_model.specs.CaptureFields.{key_of_word}
use Rattle.svga_model.specs.Walks.{little_word}
use Rattle.svga_capture.proofs.opening.open_page.Goals as goal

pub returns : goal.returns
returns c =
    let word_is = ap key_of_word c.word.ensures in
    let key_is = c.key_of-key.ensures ∙ word_is in
    let key = key_of_word (little_word c.args.bytes.now c.args.at) in
    let bytes = slice_range c.args.bytes.now (c.args.at + 4) (c.args.at + 4100) in
    (λ i. map.insert c.args.pages.now (key_is i) (c.copy_from_slice.ensures.after i))
    ∙ sym (with_page-has c.args.pages.now key bytes c.requires.page)
