-- Commands that are lent one after another, as acts of the model's run.
use Rattle.std.specs.Prelude.{List, map as map_list}
use Rattle.svga_cmd.specs.Lent.{command_of}
use Rattle.svga_cmd.specs.declared.command.CommandRef.{CommandRef}
use Rattle.svga_model.specs.Acts.{Act, Do}

-- the acts that are these commands
abbrev pub lent_acts : List CommandRef → List Act
lent_acts commands = map_list (λ c. Do (command_of c)) commands
