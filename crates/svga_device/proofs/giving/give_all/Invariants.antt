-- So many pages are given back.
use Rattle.std.proofs.Common.{◌≡◌, ◌+◌, length}
use Rattle.svga_device.specs.Serving.{AreListed, IsGiving}
use Rattle.svga_device.proofs.giving.give_all.Given as goal

abbrev pub invariant-loop-k : goal.invariant-loop-k
invariant-loop-k l = record {
  table : l.end.table ≡ l.initial.end.table;
  giving : IsGiving l.initial.end.view l.end.view l.initial.end.pages l.end.pages;
  listed : AreListed l.initial.end.view.terms.limits l.end.pages l.held;
  fewer : length l.held + l.k ≡ length l.initial.held;
}
