use Rattle.std.proofs.Common.{ap, ◌∙◌, ◌≡◌}
use Rattle.svga_ring.specs.Views.{DriverView}
use Rattle.bench_ring.proofs.Lendings.{count_on, keeps_seen, sends_on}
use Rattle.bench_ring.proofs.pages.wait_for.Goals as goal

pub returns-then-read_fence-number-clause-sends : goal.returns-then-read_fence-number-clause-sends
returns-then-read_fence-number-clause-sends g c =
    let sends = c.loop.invariant.2 in
    let left = c.read_fence.new.self in
    sends_on c.loop.driver left sends
    (keeps_seen c.loop.driver left c.read_fence.result sends.ready c.read_fence.ensures.left
    c.read_fence.ensures.told)

pub loop-preserved : goal.loop-preserved
loop-preserved g c =
    let sends = c.loop.invariant.2 in
    let left = c.read_fence.new.self in
    let told = c.read_fence.ensures.told in
    let keeps = keeps_seen c.loop.driver left c.read_fence.result sends.ready c.read_fence.ensures.left
    told in
    let lent : left.view.lent ≡ c.loop.driver.view.lent = ap (λ (v : DriverView). v.lent) told.view in (
      tt,
      tt,
      sends_on c.loop.driver left sends keeps,
      lent ∙ c.loop.invariant.3,
      count_on c.loop.driver left keeps ∙ c.loop.invariant.4,
    )
