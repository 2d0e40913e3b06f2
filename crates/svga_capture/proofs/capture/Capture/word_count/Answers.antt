use Rattle.std.proofs.Common.{◌∙◌, ap, subst}
use Rattle.svga_model.specs.Accepted.{AreWords}
use Rattle.svga_model.specs.Captures.{Capture}
use Rattle.svga_capture.proofs.CaptureAnswers.{seen_answer}
use Rattle.svga_capture.proofs.CaptureWords.{total_seen}
use Rattle.svga_capture.proofs.capture.Capture.word_count.Goals as goal

pub returns-clause-count : goal.returns-clause-count
returns-clause-count c =
    c.word_count.ensures ∙ total_seen c.args.self.now c.self.inside.bytes.now c.self.inside.fields c.self.view_is c.self.invariant.said

pub returns-clause-held : goal.returns-clause-held
returns-clause-held c = seen_answer c.args.self.now c.self.inside.bytes.now c.self.view_is c.self.invariant.good

pub returns-clause-numbers : goal.returns-clause-numbers
returns-clause-numbers c = subst AreWords (ap (λ (v : Capture). v.words) c.self.view_is) c.words_fit.ensures
