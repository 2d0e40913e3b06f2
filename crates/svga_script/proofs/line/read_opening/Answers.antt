use Rattle.std.proofs.Common.{◌+◌, length, ap, sym, ◌∙◌, Some}
use Rattle.svga_cmd.specs.declared.script_cause.ScriptCause.TheVariants.{Session}
use Rattle.svga_model.specs.ScriptLines.{flaw_at, words_of}
use Rattle.svga_script.proofs.LineWords.{first_at, from_start, not_opened, opened, some_words}
use Rattle.svga_script.specs.Left.{words_left}
use Rattle.svga_script.specs.Taken.{word_of}
use Rattle.svga_script.proofs.line.read_opening.Goals as goal

pub returns-in_err-first : goal.returns-in_err-first
returns-in_err-first c = absurd (some_words c.args.line.now c.in_err-first.ensures.0)

pub returns-then-is_word : goal.returns-then-is_word
returns-then-is_word c =
    opened (length c.args.line.now + 1) (words_of c.args.line.now) (words_left c.args.line.now c.take_word.new.at) (word_of c.in_ok-first.first) c.read_session.result
    (sym (from_start c.args.line.now) ∙ c.in_ok-first.ensures) (sym c.is_word.ensures ∙ c.if-is_word.true) c.read_session.ensures

pub returns-else-is_word : goal.returns-else-is_word
returns-else-is_word c =
    not_opened (length c.args.line.now + 1) (words_of c.args.line.now) (words_left c.args.line.now c.take_word.new.at) (word_of c.in_ok-first.first)
    (sym (from_start c.args.line.now) ∙ c.in_ok-first.ensures) (sym c.is_word.ensures ∙ c.if-is_word.false)
    ∙ ap (λ column. Some (flaw_at column Session)) (sym (first_at c.args.line.now (word_of c.in_ok-first.first) (words_left c.args.line.now c.take_word.new.at) c.in_ok-first.ensures))
    ∙ ap Some (sym c.wrong.ensures)
