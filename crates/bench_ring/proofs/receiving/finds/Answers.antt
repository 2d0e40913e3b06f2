use Rattle.std.proofs.Common.{arith, subst}
use Rattle.svga_cmd.specs.Spelling.{Spells}
use Rattle.bench_ring.proofs.PassedCommands.{part_spells_none}
use Rattle.bench_ring.proofs.receiving.finds.Goals as goal

pub next-requires : goal.next-requires
next-requires g c = λ d part.
    part_spells_none c.requires.spelled.0 d c.args.words.now c.loop-i.i c.requires.spelled.1 (omega arith)
    (subst (Spells d) c.loop-i.invariant.read part)
