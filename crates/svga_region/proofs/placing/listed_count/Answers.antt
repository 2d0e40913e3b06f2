use Rattle.std.proofs.Common.{arith}
use Rattle.svga_region.proofs.PutLaws.{length-kept_pages-take}
use Rattle.svga_region.proofs.placing.listed_count.Goals as goal

pub loop-run-preserved : goal.loop-run-preserved
loop-run-preserved c =
    let more = length-kept_pages-take c.args.runs.now c.loop-run.run-index (record { page = 0; count = 0 }) c.loop-run-test.true in
    let short = c.requires.short c.loop-run.run-index (record { page = 0; count = 0 }) c.loop-run-test.true in
    record { count = omega (arith, more); bound = omega (arith, short) }
