use Rattle.std.proofs.Common.{◌≡◌, ◌≤◌, length, true, ap, sym, ◌∙◌, arith, drop_of_length-le}
use Rattle.std.specs.List.{list_all}
use Rattle.svga_model.specs.ScriptWords.{is_hex_digit}
use Rattle.svga_script.proofs.HexLaws.{no_pairs, pairs_by_length}
use Rattle.svga_script.proofs.hexadecimal.are_pairs.Goals as goal

pub returns-then-not-is_hex_digit : goal.returns-then-not-is_hex_digit
returns-then-not-is_hex_digit c = sym (no_pairs c.args.letters.now c.loop-letter.letter-index (omega arith) (cc))

pub returns : goal.returns
returns c =
    let past : length c.args.letters.now ≤ c.loop-letter.letter-index = omega arith in
    let all : list_all is_hex_digit c.args.letters.now ≡ true = c.loop-letter.invariant ∙ ap (list_all is_hex_digit) (drop_of_length-le c.args.letters.now past) in
    pairs_by_length c.args.letters.now all
