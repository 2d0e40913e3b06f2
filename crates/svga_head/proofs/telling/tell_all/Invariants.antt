-- The plugs before k were told, and the others are as they were.
use Rattle.std.proofs.Common.{◌≡◌, List, ◌++◌, ◌≤◌, drop, length, take}
use Rattle.std.specs.List.{AllZip}
use Rattle.svga_head.specs.Changes.{changed}
use Rattle.svga_head.specs.Plugs.{IsPlugTold}
use Rattle.svga_head.specs.declared.plug.PlugOf.{PlugOf}
use Rattle.svga_head.proofs.telling.tell_all.Given as goal

abbrev pub invariant-loop-k : goal.invariant-loop-k
invariant-loop-k g l = record {
  done : List (PlugOf g.row.B.Denot);
  told : AllZip (IsPlugTold g.B.Head.state (changed l.change)) (take l.k l.initial.plugs.items) done;
  whole : l.plugs.items ≡ done ++ drop l.k l.initial.plugs.items;
  within : l.k ≤ length l.initial.plugs.items;
}
