use Rattle.std.proofs.Common.{[], append-nil, sym, ◌∙◌, ◌++◌, take, rules}
use Rattle.svga_io.proofs.Chains.{Grows-then, GrowsByPrefix-within, on_fault}
use Rattle.svga_io.proofs.Pieces.{one_piece_more, AppendsPrefix-kept}
use Rattle.svga_io.proofs.writing.write_all.Goals as goal

pub loop-rest-preserved : goal.loop-rest-preserved
loop-rest-preserved g c =
    let before = c.loop-rest.invariant in
    record {
      done = before.done ++ take c.in_ok-n.n c.loop-rest.rest.now;
      whole = one_piece_more _ before.done c.loop-rest.rest.now c.in_ok-n.n _ (search rules) before.whole;
      grown = Grows-then before.grown (record { appended = c.in_ok-n.ensures.appended; steady = c.put.ensures.steady });
    }

pub returns-in_err-n-clause-fault : goal.returns-in_err-n-clause-fault
returns-in_err-n-clause-fault g c =
    let before = c.loop-rest.invariant in
    on_fault _ (GrowsByPrefix-within [] (before.whole ∙ sym (append-nil _)) before.grown (record {
      appended = AppendsPrefix-kept _ _ _ c.in_err-n.ensures.kept;
      cause = c.in_err-n.ensures.cause;
    }))

pub returns-then-n-eq0-clause-fault : goal.returns-then-n-eq0-clause-fault
returns-then-n-eq0-clause-fault g c =
    let before = c.loop-rest.invariant in
    GrowsByPrefix-within [] (before.whole ∙ sym (append-nil _)) before.grown (record {
      appended = (c.in_ok-n.n, search rules, c.in_ok-n.ensures.appended);
      cause = c.in_ok-n.ensures.nothing (search rules) (search rules);
    })
