use Rattle.std.proofs.Common.{◌+◌, length, ap, sym, ◌∙◌, Some, option_map}
use Rattle.svga_cmd.specs.declared.script_cause.ScriptCause.TheVariants.{Session, Word}
use Rattle.svga_model.specs.ScriptLines.{flaw_at, words_of}
use Rattle.svga_script.proofs.LineWords.{first_at, from_start, no_kind, of_kind, opened_again, some_words}
use Rattle.svga_script.specs.Kinds.{kind_in}
use Rattle.svga_script.specs.Left.{words_left}
use Rattle.svga_script.specs.Taken.{word_of}
use Rattle.svga_script.proofs.line.read_act.Goals as goal

pub returns-in_err-first : goal.returns-in_err-first
returns-in_err-first c = absurd (some_words c.args.line.now c.in_err-first.ensures.0)

pub returns-then-is_word : goal.returns-then-is_word
returns-then-is_word c =
    opened_again (length c.args.line.now + 1) (words_of c.args.line.now) (words_left c.args.line.now c.take_word.new.at) (word_of c.in_ok-first.first)
    (sym (from_start c.args.line.now) ∙ c.in_ok-first.ensures) (sym c.is_word.ensures ∙ c.if-is_word.true)
    ∙ ap (λ column. Some (flaw_at column Session)) (sym (first_at c.args.line.now (word_of c.in_ok-first.first) (words_left c.args.line.now c.take_word.new.at) c.in_ok-first.ensures))
    ∙ ap Some (sym c.wrong.ensures)

pub returns-in-Some : goal.returns-in-Some
returns-in-Some c =
    of_kind (length c.args.line.now + 1) (words_of c.args.line.now) (words_left c.args.line.now c.take_word.new.at) (word_of c.in_ok-first.first) (kind_in c.in-Some.kind) c.read_kind.result
    (sym (from_start c.args.line.now) ∙ c.in_ok-first.ensures) (sym c.is_word.ensures ∙ c.if-is_word.false)
    (sym c.kind_of.ensures ∙ ap (option_map kind_in) c.in-Some.is) c.read_kind.ensures

pub returns-in-None : goal.returns-in-None
returns-in-None c =
    no_kind (length c.args.line.now + 1) (words_of c.args.line.now) (words_left c.args.line.now c.take_word.new.at) (word_of c.in_ok-first.first)
    (sym (from_start c.args.line.now) ∙ c.in_ok-first.ensures) (sym c.is_word.ensures ∙ c.if-is_word.false)
    (sym c.kind_of.ensures ∙ ap (option_map kind_in) c.in-None.is)
    ∙ ap (λ column. Some (flaw_at column Word)) (sym (first_at c.args.line.now (word_of c.in_ok-first.first) (words_left c.args.line.now c.take_word.new.at) c.in_ok-first.ensures))
    ∙ ap Some (sym c.wrong-in-None.ensures)
