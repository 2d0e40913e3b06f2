use Rattle.std.proofs.Common.{ap, ◌∙◌}
use Rattle.std.specs.FinMap as map
use Rattle.svga_cmd.specs.Pages.{key_cmp}
use Rattle.svga_cmd.specs.declared.command.Command.TheVariants.{DefineGmr2}
use Rattle.svga_ring.proofs.Pages.Noted.{held_unnoted}
use Rattle.svga_ring.specs.Noting.{holds}
use Rattle.bench_ring.proofs.PassedCommands.{gmr2_admissible, gmr2_alone, gmr2_no_fence, gmrfb, gmrfb_admissible, gmrfb_alone, gmrfb_no_fence}
use Rattle.bench_ring.proofs.wrapping.wrap.Goals as goal

pub pass_one-passed-requires-clause-waiting : goal.pass_one-passed-requires-clause-waiting
pass_one-passed-requires-clause-waiting g c = record {
  none_read = ap (λ e. e.read) c.in_ok-driver.ensures.device;
  none_held = λ key. ap (λ e. holds e.noted key) c.in_ok-driver.ensures.device
      ∙ held_unnoted map.empty key (map.get-empty key_cmp key);
}

pub pass_one-passed-requires-clause-next : goal.pass_one-passed-requires-clause-next
pass_one-passed-requires-clause-next g c = (
  DefineGmr2 1 1,
  record {
    spelled = record { well_formed = tt; words = c.define_gmr2.ensures };
    admissible = gmr2_admissible c.in_ok-driver.driver.view (ap (λ d. d.acts) c.in_ok-driver.ensures.driver);
    touches_none = λ s key touched. gmr2_alone s key touched;
    fence = tt;
  },
  record {
    spelled = record { well_formed = tt; words = c.define_gmr2.ensures };
    touches_none = λ s key touched. gmr2_alone s key touched;
    no_fence = λ value is. gmr2_no_fence value is;
  },
)

pub pass_one-passed-requires-in-loop-n-clause-next :
    goal.pass_one-passed-requires-in-loop-n-clause-next
pass_one-passed-requires-in-loop-n-clause-next g c = (
  gmrfb c.loop-n.n,
  record {
    spelled = record { well_formed = tt; words = c.define_gmrfb.ensures };
    admissible = gmrfb_admissible _ c.loop-n.n;
    touches_none = λ s key touched. gmrfb_alone s c.loop-n.n key touched;
    fence = tt;
  },
  record {
    spelled = record { well_formed = tt; words = c.define_gmrfb.ensures };
    touches_none = λ s key touched. gmrfb_alone s c.loop-n.n key touched;
    no_fence = λ value is. gmrfb_no_fence c.loop-n.n value is;
  },
)
