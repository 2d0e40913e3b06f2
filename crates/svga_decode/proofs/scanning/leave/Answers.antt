use Rattle.std.proofs.Common.{ap, subst, sym, ◌∙◌}
use Rattle.svga_decode.proofs.ScanLaws.{complete_few, none_left, part_few, torn_kept, torn_left, whole_kept, whole_left}
use Rattle.svga_decode.proofs.scanning.leave.Goals as goal
use Rattle.svga_decode.specs.declared.answer.Fed.TheVariants as fed
use Rattle.svga_model.specs.Accepted.{IsCommandWhole, IsCommandPart}

pub words_from-requires : goal.words_from-requires
words_from-requires c = (whole_kept c.args.words.now c.args.counted c.args.ending c.in-Whole.is c.if-counted-gt0.true c.requires.counted).1

pub keep-requires-clause-kept : goal.keep-requires-clause-kept
keep-requires-clause-kept c = subst IsCommandWhole (sym c.words_from.ensures) (whole_kept c.args.words.now c.args.counted c.args.ending c.in-Whole.is c.if-counted-gt0.true c.requires.counted).2

pub keep-requires-clause-few : goal.keep-requires-clause-few
keep-requires-clause-few c = complete_few c.words_from.result.now (keep-requires-clause-kept c)

pub words_from-requires-in-Torn : goal.words_from-requires-in-Torn
words_from-requires-in-Torn c = (torn_kept c.args.words.now c.args.counted c.args.ending c.in-Torn.word c.in-Torn.is c.requires.counted).0

pub keep-requires-in-Torn-clause-kept : goal.keep-requires-in-Torn-clause-kept
keep-requires-in-Torn-clause-kept c = subst IsCommandPart (sym c.words_from-in-Torn.ensures) (torn_kept c.args.words.now c.args.counted c.args.ending c.in-Torn.word c.in-Torn.is c.requires.counted).1

pub keep-requires-in-Torn-clause-few : goal.keep-requires-in-Torn-clause-few
keep-requires-in-Torn-clause-few c = part_few c.words_from-in-Torn.result.now (keep-requires-in-Torn-clause-kept c)

pub returns-then-counted-gt0 : goal.returns-then-counted-gt0
returns-then-counted-gt0 c = λ cs counted.
    whole_left c.args.words.now c.args.counted c.args.ending cs c.args.decoder.now c.keep.new.self c.in-Whole.is c.if-counted-gt0.true counted
    (c.keep.ensures ∙ ap (λ t. record { words = t; last = fed.Whole }) c.words_from.ensures)

pub returns-in-Torn : goal.returns-in-Torn
returns-in-Torn c = λ cs counted.
    torn_left c.args.words.now c.args.counted c.args.ending c.in-Torn.word cs c.args.decoder.now c.keep-in-Torn.new.self c.in-Torn.is counted
    (c.keep-in-Torn.ensures ∙ ap (λ t. record { words = t; last = fed.More }) c.words_from-in-Torn.ensures)

pub returns-else-counted-gt0 : goal.returns-else-counted-gt0
returns-else-counted-gt0 c = λ cs counted. none_left c.args.words.now c.args.counted c.args.ending cs c.args.decoder.now c.in-Whole.is c.if-counted-gt0.false c.requires.ready counted
