use Rattle.std.proofs.Common.{ap, sym, subst, ◌∙◌, ◌≡◌, ◌+◌, ◌<◌, List, All, length, length-append, arith}
use Rattle.svga_cmd.specs.declared.command.Command.TheVariants.{Fence}
use Rattle.svga_model.specs.Acts.{Act}
use Rattle.svga_model.specs.Fences.{fences, number_of_fence}
use Rattle.svga_ring.specs.Committed.{commands}
use Rattle.svga_ring.specs.Views.{Terms}
use Rattle.bench_ring.specs.Lendings.{IsFence}
use Rattle.bench_ring.specs.Passing.{fence_count}
use Rattle.bench_ring.proofs.Lendings.{fences_all, first_numbers}
use Rattle.bench_ring.proofs.PassedCommands.{fence_admissible, fence_alone, fences_more}
use Rattle.bench_ring.proofs.pages.send_fence.Goals as goal

pub send-requires-clause-next : goal.send-requires-clause-next
send-requires-clause-next g c =
    let n = c.args.number in
    let d = c.args.driver.now.view in
    let few : fence_count d < 65536 = omega (arith, c.requires.number, c.requires.window) in
    let number : n ≡ number_of_fence d.terms.first (fence_count d) =
    c.requires.number ∙ first_numbers (fence_count d) few
    ∙ ap (λ first. number_of_fence first (fence_count d)) (sym c.requires.sends.first) in (
      Fence n,
      record {
        spelled = record { well_formed = tt; words = c.fence.ensures };
        admissible = fence_admissible _ n;
        touches_none = λ s key touched. fence_alone s n key touched;
        fence = (number, omega (arith, c.requires.number, c.requires.window));
      },
    )

pub returns-clause-sends : goal.returns-clause-sends
returns-clause-sends g c =
    let n = c.args.number in
    let d = c.args.driver.now.view in
    let sends = c.requires.sends in
    let sent = c.send.ensures.sent (Fence n) (record { well_formed = tt; words = c.fence.ensures }) in
    let count : fence_count c.send.new.driver.view ≡ fence_count d + 1 =
    ap (λ (acts : List Act). length (fences (commands acts))) sent.acts ∙ fences_more d.acts n in
    record {
      ready = c.send.ensures.ready;
      pages = ap (λ (t : Terms). t.limits.pages) sent.terms ∙ sends.pages;
      first = ap (λ (t : Terms). t.first) sent.terms ∙ sends.first;
      fences = subst (λ (acts : List Act). All IsFence (commands acts)) (sym sent.acts)
          (fences_all d.acts n sends.fences);
      sent = omega (
        arith,
        ap length sent.sent,
        length-append d.sent c.fence.result,
        ap length c.fence.ensures,
        sends.sent,
        count,
      );
    }

pub returns-clause-lent : goal.returns-clause-lent
returns-clause-lent g c =
    (c.send.ensures.sent (Fence c.args.number) (record { well_formed = tt; words = c.fence.ensures })).lent

pub returns-clause-fences : goal.returns-clause-fences
returns-clause-fences g c =
    let n = c.args.number in
    let acts = (c.send.ensures.sent (Fence n) (record { well_formed = tt; words = c.fence.ensures })).acts in
    ap (λ (a : List Act). length (fences (commands a))) acts ∙ fences_more c.args.driver.now.view.acts n
    ∙ sym c.requires.number
