use Rattle.std.proofs.Common.{arith, is_some, sym, ap, subst, ◌∙◌}
use Rattle.svga_device.proofs.HeldLaws.{none_listed, none_of}
use Rattle.svga_device.specs.Serving.{AreListed}
use Rattle.svga_device.proofs.giving.give_all.Goals as goal

pub give_last-requires-clause-some : goal.give_last-requires-clause-some
give_last-requires-clause-some c = omega (arith, c.loop-k.invariant.fewer, c.loop-k-test.true, c.len-k-end.ensures)

pub give_last-requires-clause-listed : goal.give_last-requires-clause-listed
give_last-requires-clause-listed c =
    subst (λ l. AreListed l c.loop-k.end.pages c.loop-k.held) (sym (ap (λ e. e.terms.limits) c.loop-k.invariant.giving.view)) c.loop-k.invariant.listed

pub loop-k-preserved : goal.loop-k-preserved
loop-k-preserved c = record {
  table = c.give_last.ensures.table ∙ c.loop-k.invariant.table;
  giving = c.give_last.ensures.giving c.args.end.now.view c.args.end.now.pages c.loop-k.invariant.giving;
  listed = subst (λ l. AreListed l c.give_last.new.end.pages c.give_last.new.held) (ap (λ e. e.terms.limits) c.loop-k.invariant.giving.view) c.give_last.ensures.listed;
  fewer = omega (arith, c.loop-k.invariant.fewer, c.give_last.ensures.fewer);
}

pub returns-clause-none_there : goal.returns-clause-none_there
returns-clause-none_there c =
    none_listed c.args.end.now.view.terms.limits c.loop-k.end.pages c.loop-k.held
    (omega (arith, c.loop-k.invariant.fewer, c.loop-k-test.false, c.len-k-end.ensures)) c.loop-k.invariant.listed

pub returns-clause-none_held : goal.returns-clause-none_held
returns-clause-none_held c = λ key.
    c.facts.ensures.held key ∙ ap is_some (none_listed c.args.end.now.view.terms.limits c.loop-k.end.pages c.loop-k.held
    (omega (arith, c.loop-k.invariant.fewer, c.loop-k-test.false, c.len-k-end.ensures)) c.loop-k.invariant.listed key)

pub returns-clause-none_listed : goal.returns-clause-none_listed
returns-clause-none_listed c = none_of c.loop-k.held (omega (arith, c.loop-k.invariant.fewer, c.loop-k-test.false, c.len-k-end.ensures))
