use Rattle.std.proofs.Common.{length, arith, ap, subst, ◌∙◌}
use Rattle.svga.proofs.BytesLaws.{length-words_in}
use Rattle.svga_model.specs.Endings.{IsEnding}
use Rattle.svga.proofs.report.prepare.Goals as goal

pub scan-scanned-requires-clause-few : goal.scan-scanned-requires-clause-few
scan-scanned-requires-clause-few c = omega (arith, ap length c.deref.ensures.value, ap length (c.in_ok-words.ensures {u = tt}), length-words_in c.args.bytes.now, c.requires)

pub returns : goal.returns
returns c =
    let words = c.in_ok-words.ensures {u = tt} in
    let same = c.deref.ensures.value ∙ words in
    let scanned = c.scan-scanned.ensures in (
      scanned.0,
      record {
        words = words;
        few = omega (arith, ap length words, length-words_in c.args.bytes.now, c.requires);
        fence = scanned.1.fence;
        ending = record { of_words = c.scan-scanned.result.ending; ending = subst (λ t. IsEnding t scanned.0 (c.scan-scanned.result.ending)) same scanned.1.ending; of_bytes = c.ending_of.ensures };
      },
    )
