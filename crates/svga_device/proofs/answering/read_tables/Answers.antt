use Rattle.std.proofs.Common.{◌+◌, ◌++◌, ◌∷◌, [], refl, sym, ap, subst, ◌∙◌, arith, length, length-append}
use Rattle.svga_machine.specs.MachineSet.{MachineSet}
use Rattle.svga_device.specs.Chains.{HasWalked}
use Rattle.svga_device.specs.Serving.{AreListed}
use Rattle.svga_device.proofs.ChainLaws.{few_read, holding_on}
use Rattle.svga_device.proofs.HeldLaws.{listed_none}
use Rattle.svga_device.proofs.answering.read_tables.Goals as goal

pub loop-k-init : goal.loop-k-init
loop-k-init c = record {
  table = refl;
  left = refl;
  answering = c.requires.answering;
  holding = c.requires.answering.holding;
  listed = listed_none c.args.end.now.view.terms.limits c.args.end.now.pages c.args.held.now c.requires.pages c.requires.empty;
  most = let none = ap length c.requires.empty in omega (arith, none);
  walking = ([], refl, c.requires.walking);
}

pub read_table-requires : goal.read_table-requires
read_table-requires c = record {
  answering = c.loop-k.invariant.answering;
  walking = (c.loop-k.invariant.walking.0, c.loop-k.invariant.walking.2);
  room = omega (arith, c.loop-k.invariant.most, c.loop-k-test.true);
}

pub loop-k-preserved : goal.loop-k-preserved
loop-k-preserved c =
    let i = c.loop-k.invariant in
    let t = c.read_table.ensures in
    let limits = ap (λ e. e.terms.limits) i.holding.view in
    let read = i.walking.0 in
    record {
      table = t.table ∙ i.table;
      left = t.left ∙ ap {A = MachineSet} {B = MachineSet} (λ m. record m { chain = c.read_table.new.machine.chain }) i.left;
      answering = t.answering;
      holding = holding_on c.args.end.now.view c.loop-k.end.view c.read_table.new.end.view c.loop-k.end.pages c.read_table.new.end.pages t.view i.holding t.answering.holding;
      listed = subst (λ l. AreListed l c.read_table.new.end.pages c.read_table.new.held) limits
          (t.listed (subst (λ l. AreListed l c.loop-k.end.pages c.loop-k.held) (sym limits) i.listed));
      most = omega (arith, t.most, i.most);
      walking = (
        read ++ c.loop-k.wanted ∷ [],
        length-append read (c.loop-k.wanted ∷ []) ∙ (let count = i.walking.1 in ap (λ n. n + 1) count),
        subst (HasWalked c.read_table.new.end c.read_table.new.machine (read ++ c.loop-k.wanted ∷ [])) c.in-Page.is (t.walked read i.walking.2),
      );
    }

pub returns-in-Whole : goal.returns-in-Whole
returns-in-Whole c =
    let i = c.loop-k.invariant in
    let t = c.read_table.ensures in
    let limits = ap (λ e. e.terms.limits) i.holding.view in
    let read = i.walking.0 in
    record {
      table = t.table ∙ i.table;
      left = t.left ∙ ap {A = MachineSet} {B = MachineSet} (λ m. record m { chain = c.read_table.new.machine.chain }) i.left;
      answering = t.answering;
      holding = holding_on c.args.end.now.view c.loop-k.end.view c.read_table.new.end.view c.loop-k.end.pages c.read_table.new.end.pages t.view i.holding t.answering.holding;
      listed = subst (λ l. AreListed l c.read_table.new.end.pages c.read_table.new.held) limits
          (t.listed (subst (λ l. AreListed l c.loop-k.end.pages c.loop-k.held) (sym limits) i.listed));
      walked = (
        read ++ c.loop-k.wanted ∷ [],
        subst (HasWalked c.read_table.new.end c.read_table.new.machine (read ++ c.loop-k.wanted ∷ [])) c.in-Whole.is (t.walked read i.walking.2),
      );
    }

pub unreachable-requires : goal.unreachable-requires
unreachable-requires c =
    let i = c.loop-k.invariant in
    let few = few_read c.loop-k.end c.loop-k.machine i.walking.0 c.loop-k.wanted i.answering i.walking.2 in
    let count = i.walking.1 in
    omega (arith, few, count, c.loop-k-test.false)
