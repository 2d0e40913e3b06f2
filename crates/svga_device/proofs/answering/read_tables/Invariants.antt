-- The table pages that were read so far are held, and the walk wants the next one.
use Rattle.std.proofs.Common.{◌≡◌, ◌≤◌, ℕ, List, length}
use Rattle.svga_device.specs.Chains.{IsAnswering, IsWalking}
use Rattle.svga_device.specs.Serving.{AreListed, IsHolding}
use Rattle.svga_device.proofs.answering.read_tables.Given as goal

abbrev pub invariant-loop-k : goal.invariant-loop-k
invariant-loop-k l = record {
  table : l.end.table ≡ l.initial.end.table;
  left : l.machine ≡ record l.initial.machine { chain = l.machine.chain };
  answering : IsAnswering l.end l.machine;
  holding : IsHolding l.initial.end.view l.end.view l.end.pages;
  listed : AreListed l.initial.end.view.terms.limits l.end.pages l.held;
  most : length l.held ≤ l.k;
  walking : (read : List ℕ) × (length read ≡ l.k) × IsWalking l.end l.machine read l.wanted;
}
