use Rattle.svga_script.proofs.HexLaws.{no_byte}
use Rattle.svga_script.proofs.hexadecimal.hex_byte.Goals as goal

pub returns-in_default-2 : goal.returns-in_default-2
returns-in_default-2 c = no_byte c.args.letters.now (c.in_default.len_at_least)
