use Rattle.std.proofs.Common.{◌≡◌, take}
use Rattle.bench_ring.specs.Passing.{Stays}
use Rattle.bench_ring.proofs.sending.put_all.Given as goal

-- so many words are put
abbrev pub invariant-loop-i : goal.invariant-loop-i
invariant-loop-i l = record {
  reserved : l.driver.reserved ≡ l.initial.driver.reserved;
  words : l.driver.words ≡ take l.i l.words;
  stays : Stays l.initial.driver.view l.driver.view;
}
