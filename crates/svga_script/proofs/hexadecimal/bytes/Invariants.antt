use Rattle.std.proofs.Common.{◌≡◌, ◌*◌, ◌++◌, drop}
use Rattle.svga_model.specs.ScriptWords.{hex_in}
use Rattle.svga_script.proofs.hexadecimal.bytes.Given as goal

abbrev pub invariant-loop-i : goal.invariant-loop-i
invariant-loop-i l = l.bytes.items ++ hex_in (drop (2 * l.i) l.letters) ≡ hex_in l.letters
