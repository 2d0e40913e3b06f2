use Rattle.svga_capture.proofs.PageLaws.{IsPassed}
use Rattle.svga_capture.proofs.pages.judge_pages.Given as goal

abbrev pub invariant-loop-j : goal.invariant-loop-j
invariant-loop-j l = IsPassed l.bytes l.j l.last
