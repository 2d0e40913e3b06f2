-- What is left of a command whose words are sent one by one.
use Rattle.std.proofs.Common.{◌∷◌, [], ap, drop, length, ◌++◌, ◌∙◌}
use Rattle.svga_model.specs.Acts.{Do}
use Rattle.svga_model.specs.Sentences.{spelling_all}
use Rattle.svga_ring.proofs.Words.Order.{none_unsent, unsent_commit, unsent_more}
use Rattle.svga_ring.proofs.Words.NextCommand.{commands-append}
use Rattle.svga_ring.specs.Committed.{commands}
use Rattle.svga_ring.proofs.core_requests.sent_in_turn.Goals as goal

pub returns-clause-first : goal.returns-clause-first
returns-clause-first c = λ k core command more o can are.
    let d = core.driver in
    ap (λ cs. drop (length (d.sent ++ d.pending)) (spelling_all cs))
    (commands-append d.acts (Do command ∷ []))
    ∙ unsent_commit _ _ command d.sent d.pending more _ _ _ _ o.order can.1.all_sent are

pub returns-clause-next : goal.returns-clause-next
returns-clause-next c = λ k core more o are.
    unsent_more _ _ core.driver.sent core.driver.pending more _ _ _ _ o.order are

pub returns-clause-stopped : goal.returns-clause-stopped
returns-clause-stopped c = λ k core o stopped.
    none_unsent (commands core.driver.acts) core.driver.sent (o.stops.stopped_whole stopped)

pub returns-clause-stores : goal.returns-clause-stores
returns-clause-stores c = λ k core o way. o.reserving.stores_by_command way

pub returns-clause-stores_by_dword : goal.returns-clause-stores_by_dword
returns-clause-stores_by_dword c = λ k core o way.
    (o.reserving.stores_by_dword way, o.reserving.none_by_dword way)
