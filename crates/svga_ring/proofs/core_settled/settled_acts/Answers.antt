-- By where the acts stand.
use Rattle.svga_ring.proofs.Acts.Settled.{settled_but_chain, settled_left}
use Rattle.svga_ring.proofs.core_settled.settled_acts.Goals as goal

pub returns-clause-no_chain_out : goal.returns-clause-no_chain_out
returns-clause-no_chain_out c = λ k core o none.
    settled_left core.driver.acts core.device.done o.runs.chains_done

pub returns-clause-chain_out : goal.returns-clause-chain_out
returns-clause-chain_out c = λ k core o out.
    let last = o.requests.out_is_last_chain out in (
      last.front,
      last.rest,
      last.acts_are,
      settled_but_chain core.driver.request core.driver.acts core.device.done o.runs.chains_done last,
    )
