-- What is noted of a page that a command touches, so that it is known when the page can come back.
use Rattle.std.specs.Prelude.{◌≡◌, ℕ, suc, ◌≤◌, List, length, take, Some}
use Rattle.std.specs.FinMap as map
use Rattle.svga_cmd.specs.declared.command.Command.{Command}
use Rattle.svga_cmd.specs.declared.page.PageKey.{PageKey}
use Rattle.svga_model.specs.Clients.{Client}
use Rattle.svga_model.specs.Fences.{fences}

-- How many fences there are up to the first one behind a command, with that one, whether it is committed yet
-- or not: the command is done once so many were seen.
abbrev pub fence_behind : List Command → ℕ → ℕ
fence_behind cs place = suc (length (fences (take (suc place) cs)))

-- a fence was seen behind the last command of this lending that touches the page, if one does
abbrev pub IsSeenBehind : Client → ℕ → PageKey → Type 0
IsSeenBehind c seen key =
    (place : ℕ) → map.get c.touched key ≡ Some place → fence_behind c.commands place ≤ seen
