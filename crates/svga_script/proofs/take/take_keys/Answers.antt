use Rattle.std.proofs.Common.{◌≡◌, ap, sym, ◌∙◌, arith, Some, length, ◌+◌, option_map}
use Rattle.svga_model.specs.ScriptLines.{flaw_at, front_flaw, keys}
use Rattle.svga_script.proofs.KeyLaws.{keys_good, keys_over}
use Rattle.svga_script.specs.Taken.{word_of}
use Rattle.svga_script.proofs.take.take_keys.Goals as goal

pub returns-then-keys_end_within : goal.returns-then-keys_end_within
returns-then-keys_end_within c =
    let some : c.keys_of.result ≡ Some c.in_ok-keys.keys = grind arith in
    let good = keys_good c.in_ok-word.word.letters.now c.in_ok-keys.keys c.keys_end_within.result (sym some ∙ c.keys_of.ensures) c.keys_end_within.ensures c.if-keys_end_within.true in
    (word_of c.in_ok-word.word, c.in_ok-word.ensures, good.0, good.1)

pub returns-else-keys_end_within : goal.returns-else-keys_end_within
returns-else-keys_end_within c =
    let some : c.keys_of.result ≡ Some c.in_ok-keys.keys = grind arith in
    let bad = keys_over c.in_ok-word.word.letters.now c.in_ok-keys.keys c.keys_end_within.result (sym some ∙ c.keys_of.ensures) c.keys_end_within.ensures c.if-keys_end_within.false in
    ap (front_flaw (length c.args.line.now + 1) keys) c.in_ok-word.ensures
    ∙ ap (option_map (flaw_at c.in_ok-word.word.column)) bad
    ∙ ap Some (sym c.wrong-else-keys_end_within.ensures)
