use Rattle.svga_cmd.proofs.SpelledLaws.{same_command}
use Rattle.svga_cmd.proofs.laws.unique_spelling.Goals as goal

pub returns-clause-one_command : goal.returns-clause-one_command
returns-clause-one_command c = same_command
