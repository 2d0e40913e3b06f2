use Rattle.std.proofs.Common.{ap, sym, ◌∙◌, ◌≡◌, ◌+◌, ◌<◌, arith, List, length, length-append}
use Rattle.svga_cmd.specs.declared.command.Command.TheVariants.{Fence}
use Rattle.svga_model.specs.Acts.{Act}
use Rattle.svga_model.specs.Fences.{fences, number_of_fence}
use Rattle.svga_ring.specs.Committed.{commands}
use Rattle.bench_ring.proofs.PassedCommands.{fence_admissible, fence_alone, fences_more, fences_stay, gmrfb, gmrfb_admissible, gmrfb_alone}
use Rattle.bench_ring.specs.Passing.{fence_count}
use Rattle.bench_ring.proofs.sending.send_nth.Goals as goal

pub send-requires-clause-next : goal.send-requires-clause-next
send-requires-clause-next g c =
    let n = c.fence_number.result in
    let d = c.args.driver.now.view in
    let number : n ≡ number_of_fence d.terms.first (fence_count d) =
    c.fence_number.ensures ∙ ap (λ first. number_of_fence first c.args.fences) c.requires.first.0
    ∙ ap (number_of_fence d.terms.first) c.requires.fences in
    let few : fence_count d < d.seen + 65536 = omega (arith, c.requires.fences, c.requires.few, c.requires.window) in (
      Fence n,
      record {
        spelled = record { well_formed = tt; words = c.fence.ensures };
        admissible = fence_admissible _ n;
        touches_none = λ s key touched. fence_alone s n key touched;
        fence = (number, few);
      },
    )

pub send-requires-else-n-clause-next : goal.send-requires-else-n-clause-next
send-requires-else-n-clause-next g c = (
  gmrfb c.args.n,
  record {
    spelled = record { well_formed = tt; words = c.define_gmrfb.ensures };
    admissible = gmrfb_admissible _ c.args.n;
    touches_none = λ s key touched. gmrfb_alone s c.args.n key touched;
    fence = tt;
  },
)

pub returns-then-n-clause-terms : goal.returns-then-n-clause-terms
returns-then-n-clause-terms g c =
    (c.send.ensures.sent (Fence c.fence_number.result) (record { well_formed = tt; words = c.fence.ensures })).terms

pub returns-then-n-clause-sent : goal.returns-then-n-clause-sent
returns-then-n-clause-sent g c =
    let sent = (c.send.ensures.sent (Fence c.fence_number.result) (record { well_formed = tt; words = c.fence.ensures })).sent in
    omega (arith, ap length sent, length-append c.args.driver.now.view.sent c.fence.result, ap length c.fence.ensures)

pub returns-then-n-clause-fences : goal.returns-then-n-clause-fences
returns-then-n-clause-fences g c =
    let acts = (c.send.ensures.sent (Fence c.fence_number.result) (record { well_formed = tt; words = c.fence.ensures })).acts in
    ap (λ f. f + 1) c.requires.fences ∙ sym (fences_more c.args.driver.now.view.acts c.fence_number.result)
    ∙ sym (ap (λ (a : List Act). length (fences (commands a))) acts)

pub returns-else-n-clause-terms : goal.returns-else-n-clause-terms
returns-else-n-clause-terms g c =
    (c.send-else-n.ensures.sent (gmrfb c.args.n) (record { well_formed = tt; words = c.define_gmrfb.ensures })).terms

pub returns-else-n-clause-sent : goal.returns-else-n-clause-sent
returns-else-n-clause-sent g c =
    let sent = (c.send-else-n.ensures.sent (gmrfb c.args.n) (record { well_formed = tt; words = c.define_gmrfb.ensures })).sent in
    omega (arith, ap length sent, length-append c.args.driver.now.view.sent c.define_gmrfb.result, ap length c.define_gmrfb.ensures)

pub returns-else-n-clause-fences : goal.returns-else-n-clause-fences
returns-else-n-clause-fences g c =
    let acts = (c.send-else-n.ensures.sent (gmrfb c.args.n) (record { well_formed = tt; words = c.define_gmrfb.ensures })).acts in
    c.requires.fences ∙ sym (fences_stay c.args.driver.now.view.acts c.args.n)
    ∙ sym (ap (λ (a : List Act). length (fences (commands a))) acts)
