use Rattle.std.proofs.Common.{◌≡◌, replicate}
use Rattle.svga_cmd.proofs.mem_pages.zero_pages.Given as goal
use Rattle.svga_cmd.specs.declared.constants.TheConstants.{PAGE_SIZE}

abbrev pub invariant-loop : goal.invariant-loop
invariant-loop l = l.pages.items ≡ replicate l.counter (replicate PAGE_SIZE 0)
