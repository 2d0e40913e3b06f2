use Rattle.std.proofs.Common.{◌≡◌, replicate, None}
use Rattle.svga_link.proofs.making.no_pages.Given as goal

abbrev pub invariant-loop : goal.invariant-loop
invariant-loop l = l.row.items ≡ replicate l.counter None
