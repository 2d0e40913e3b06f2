use Rattle.std.proofs.Common.{◌≡◌, replicate, None}
use Rattle.svga_driver.proofs.lending.no_lendings.Given as goal

abbrev pub invariant-loop : goal.invariant-loop
invariant-loop l = l.row.items ≡ replicate l.counter None
