use Rattle.std.proofs.Common.{arith, ◌∙◌, ap, sym, subst}
use Rattle.svga_link.proofs.ClosingSteps.{taken_carried, taken_view, takes_home}
use Rattle.svga_link.specs.Closing.{HasTaken, slot_key}
use Rattle.svga_link.proofs.closing.take_home.Goals as goal

pub store-requires : goal.store-requires
store-requires c = (
  c.requires.table,
  omega (arith, c.requires.words, c.requires.slot),
  takes_home _ _ _ _ c.args.slot c.requires.role c.requires.slot c.requires.lent,
)

pub exchange-requires : goal.exchange-requires
exchange-requires c = (c.store.ensures.0 ∙ c.requires.table, (_, taken_carried 0 _ _ c.args.slot c.store.ensures.2))

pub returns-clause-left : goal.returns-clause-left
returns-clause-left c =
    let me = c.args.seat.now.me in
    subst (HasTaken (slot_key me.0.of_driver.terms.limits c.args.slot) me.0)
    (sym (ap (λ m. m.0) c.exchange.ensures.3)) (taken_view 0 me _ c.args.slot c.store.ensures.2)
