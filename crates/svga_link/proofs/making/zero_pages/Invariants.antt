use Rattle.std.proofs.Common.{◌≡◌, replicate, Some}
use Rattle.svga_cmd.specs.declared.constants.TheConstants.{PAGE_SIZE}
use Rattle.svga_link.proofs.making.zero_pages.Given as goal

abbrev pub invariant-loop : goal.invariant-loop
invariant-loop l = l.row.items ≡ replicate l.counter (Some (replicate PAGE_SIZE 0))
