use Rattle.std.proofs.Common.{◌≡◌, drop}
use Rattle.std.specs.List.{list_all}
use Rattle.svga_model.specs.ScriptWords.{is_hex_digit}
use Rattle.svga_script.proofs.hexadecimal.are_pairs.Given as goal

abbrev pub invariant-loop-letter : goal.invariant-loop-letter
invariant-loop-letter l = list_all is_hex_digit l.letters ≡ list_all is_hex_digit (drop l.letter-index l.letters)
