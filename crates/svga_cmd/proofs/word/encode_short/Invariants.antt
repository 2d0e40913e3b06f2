use Rattle.std.proofs.Common.{◌≡◌, take}
use Rattle.svga_cmd.specs.Spelling.{spelling}
use Rattle.svga_cmd.proofs.word.encode_short.Given as goal

abbrev pub invariant-loop-i : goal.invariant-loop-i
invariant-loop-i l = l.words.items ≡ take l.i (spelling l.command)
