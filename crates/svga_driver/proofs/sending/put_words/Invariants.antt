use Rattle.svga_driver.proofs.SendLaws.{ArePut}
use Rattle.svga_driver.proofs.sending.put_words.Given as goal

abbrev pub invariant-loop-i : goal.invariant-loop-i
invariant-loop-i l = ArePut l.words l.initial.end l.end l.i
