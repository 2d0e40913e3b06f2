use Rattle.std.proofs.Common.{◌∙◌, ◌+◌, ap}
use Rattle.svga_capture.proofs.CaptureWords.{within_seen, word_seen}
use Rattle.svga_capture.proofs.capture.Capture.word.Goals as goal
use Rattle.svga_model.specs.Walks.{little_word}

pub offset-requires-clause-waits : goal.offset-requires-clause-waits
offset-requires-clause-waits c =
    within_seen c.args.self.now c.self.inside.bytes.now c.self.inside.fields c.self.view_is c.self.invariant.said c.args.i c.requires

pub returns : goal.returns
returns c =
    c.word.ensures ∙ ap (λ k. little_word c.self.inside.bytes.now (36 + k)) c.offset.ensures.address
    ∙ word_seen c.args.self.now c.self.inside.bytes.now c.self.inside.fields c.self.view_is c.self.invariant.said c.args.i c.requires
