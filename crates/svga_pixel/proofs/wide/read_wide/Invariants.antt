use Rattle.std.proofs.Common.{◌≡◌, ◌<◌, ◌≤◌, ◌+◌, ◌-◌, take, All, length}
use Rattle.svga_cmd.specs.declared.constants.TheConstants.{COLOURS}
use Rattle.svga_model.specs.Colours.{row_colours}
use Rattle.svga_pixel.proofs.wide.read_wide.Given as goal

-- the pixels before k are read
abbrev pub invariant-loop-k : goal.invariant-loop-k
invariant-loop-k g l = record {
  within : l.k ≤ length l.colours;
  length : length l.colours ≡ length l.initial.colours;
  colours : take l.k l.colours ≡ row_colours g.L.Layout.format l.k l.bytes;
  in_range : All (λ c. c < COLOURS) (take l.k l.colours);
}

abbrev pub decreases-loop-k : goal.decreases-loop-k
decreases-loop-k g l = length l.initial.colours + 1 - l.k
