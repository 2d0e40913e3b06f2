use Rattle.std.proofs.Common.{ap, subst, ◌∙◌, ◌++◌, ◌∷◌, []}
use Rattle.svga_decode.specs.Answers.{IsFedAnswer}
use Rattle.svga_link.specs.Ends.{DeviceSeen}
use Rattle.svga_ring.specs.Views.{DeviceView}
use Rattle.svga_device.proofs.ReadingLaws.{answered_so, never_refused_word, not_whole, word_goes_on}
use Rattle.svga_device.proofs.reading.read_word.Goals as goal

pub next_word-word-requires-clause-unread : goal.next_word-word-requires-clause-unread
next_word-word-requires-clause-unread c = not_whole c.one_answer.ensures.before_last c.args.end.now.view.read c.requires.reading.begun

pub unreachable-requires : goal.unreachable-requires
unreachable-requires c =
    let laws = c.one_answer.ensures in
    let p = c.facts.ensures.possible in
    let old = c.args.end.now.view.read in
    let word = c.next_word-word.result in
    let read = ap (λ (e : DeviceView). e.read) p.view_is ∙ ap (λ (d : DeviceSeen). d.view.read) c.next_word-word.ensures in
    let goes = word_goes_on laws.before_last p.key p.core p.sound old word c.requires.reading.begun read in
    let answer = subst (λ ws. IsFedAnswer c.feed.result (ws ++ word ∷ [])) c.requires.reading.words (c.feed.ensures.answer c.requires.reading.live) in
    never_refused_word c.feed.result c.in-Refused.cause (answered_so laws.before_last laws.at_last (old ++ word ∷ []) c.feed.result answer goes) c.in-Refused.is
