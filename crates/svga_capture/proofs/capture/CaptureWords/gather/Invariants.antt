use Rattle.std.proofs.Common.{◌≡◌, drop, take}
use Rattle.svga_capture.proofs.capture.CaptureWords.gather.Given as goal

abbrev pub invariant-loop-k : goal.invariant-loop-k
invariant-loop-k l = take l.k l.room ≡ take l.k (drop l.first l.self.words)
