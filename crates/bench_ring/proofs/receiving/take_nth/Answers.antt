use Rattle.bench_ring.proofs.PassedCommands.{gmrfb, gmrfb_alone, gmrfb_no_fence}
use Rattle.bench_ring.proofs.receiving.take_nth.Goals as goal

pub take-requires-clause-plain : goal.take-requires-clause-plain
take-requires-clause-plain g c = (
  gmrfb c.args.n,
  record {
    spelled = record { well_formed = tt; words = c.define_gmrfb.ensures };
    touches_none = λ s key touched. gmrfb_alone s c.args.n key touched;
    no_fence = λ value is. gmrfb_no_fence c.args.n value is;
  },
)
