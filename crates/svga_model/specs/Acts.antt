-- What changes a device's state: commands, and what its client does without one.
use Rattle.std.specs.Prelude.{ℕ, List}
use Rattle.svga_cmd.specs.Pages.{IsKey, IsPage}
use Rattle.svga_cmd.specs.WellFormed.{IsWellFormed}
use Rattle.svga_cmd.specs.declared.command.Command.{Command}
use Rattle.svga_cmd.specs.declared.limits.Limits.{Limits}
use Rattle.svga_cmd.specs.declared.page.PageKey.{PageKey}

-- a command; a page that the client gives other bytes; a descriptor chain
-- for a region, by its first table page
pub data Act : Type 0 where
  Do : Command → Act
  Put : PageKey → List ℕ → Act
  Chain : ℕ → ℕ → Act

-- an act that a device with these limits can be given
abbrev pub IsAct : Limits → Act → Type 0
IsAct l (Do c) = IsWellFormed c
IsAct l (Put key bytes) = IsKey l key × IsPage bytes
IsAct l (Chain id first) = Unit {0}
