use Rattle.std.proofs.Common.{◌≡◌, true, false, is_some, sym, ◌∙◌, ap, Ok, arith, rules}
use Rattle.svga_cmd.specs.Pages.{page_at}
use Rattle.svga_cmd.specs.declared.page.PageKey.{PageKey}
use Rattle.svga_cmd.specs.declared.page.PageKey.TheVariants.{Guest}
use Rattle.svga_driver.proofs.ChainLaws.{CanWalk, begun, fails, few, finishes_badly, finishes_well, goes_on, goes_out, key_there, may_finish, may_take, no_refusal, reread_then, starts}
use Rattle.svga_driver.proofs.walking.walk.Goals as goal

pub unreachable-requires : goal.unreachable-requires
unreachable-requires c =
    let can : CanWalk c.args.end.now c.args.shape.now c.args.id c.args.first = record {
      at_rest = c.requires.at_rest;
      limits = c.requires.limits;
      valid = c.regions-regions.ensures.valid;
      small = c.requires.region;
      some = c.requires.some;
      near = c.requires.page;
    } in
    no_refusal can c.in-Err.is c.chain_start.ensures.chain

pub loop-step-init : goal.loop-step-init
loop-step-init c =
    let can : CanWalk c.args.end.now c.args.shape.now c.args.id c.args.first = record {
      at_rest = c.requires.at_rest;
      limits = c.requires.limits;
      valid = c.regions-regions.ensures.valid;
      small = c.requires.region;
      some = c.requires.some;
      near = c.requires.page;
    } in
    starts can c.in-Ok.is c.chain_start.ensures.chain c.chain_start.ensures.kept

pub returns-then-is_some-clause-answer : goal.returns-then-is_some-clause-answer
returns-then-is_some-clause-answer c =
    let can : CanWalk c.args.end.now c.args.shape.now c.args.id c.args.first = record {
      at_rest = c.requires.at_rest;
      limits = c.requires.limits;
      valid = c.regions-regions.ensures.valid;
      small = c.requires.region;
      some = c.requires.some;
      near = c.requires.page;
    } in
    let o = c.loop-step.invariant in
    let key : PageKey = Guest c.loop-step.wanted in
    let mine = c.facts.ensures.mine key (key_there can o) in
    let here : is_some (page_at c.loop-step.end.pages key) ≡ true =
    search (rules, c.page.ensures, c.is_some.ensures, c.if-is_some.true) in
    goes_out can o (sym mine ∙ here)

pub read_table-requires-clause-begun : goal.read_table-requires-clause-begun
read_table-requires-clause-begun c =
    let can : CanWalk c.args.end.now c.args.shape.now c.args.id c.args.first = record {
      at_rest = c.requires.at_rest;
      limits = c.requires.limits;
      valid = c.regions-regions.ensures.valid;
      small = c.requires.region;
      some = c.requires.some;
      near = c.requires.page;
    } in
    begun can c.loop-step.invariant

pub read_table-requires-clause-may : goal.read_table-requires-clause-may
read_table-requires-clause-may c =
    let can : CanWalk c.args.end.now c.args.shape.now c.args.id c.args.first = record {
      at_rest = c.requires.at_rest;
      limits = c.requires.limits;
      valid = c.regions-regions.ensures.valid;
      small = c.requires.region;
      some = c.requires.some;
      near = c.requires.page;
    } in
    let o = c.loop-step.invariant in
    let key : PageKey = Guest c.loop-step.wanted in
    let mine = c.facts.ensures.mine key (key_there can o) in
    let away : is_some (page_at c.loop-step.end.pages key) ≡ false =
    search (rules, c.page.ensures, c.is_some.ensures, c.if-is_some.false) in
    may_take can o (sym mine ∙ away)

pub returns-in-Ok-chain_finish-clause-reread : goal.returns-in-Ok-chain_finish-clause-reread
returns-in-Ok-chain_finish-clause-reread c =
    let can : CanWalk c.args.end.now c.args.shape.now c.args.id c.args.first = record {
      at_rest = c.requires.at_rest;
      limits = c.requires.limits;
      valid = c.regions-regions.ensures.valid;
      small = c.requires.region;
      some = c.requires.some;
      near = c.requires.page;
    } in
    let o = c.loop-step.invariant in
    let key : PageKey = Guest c.loop-step.wanted in
    let mine = c.facts.ensures.mine key (key_there can o) in
    let away : is_some (page_at c.loop-step.end.pages key) ≡ false =
    search (rules, c.page.ensures, c.is_some.ensures, c.if-is_some.false) in
    reread_then can o (sym mine ∙ away) c.read_table.ensures.end
    c.read_table.ensures.chain c.read_table.ensures.shape

pub returns-in-Err-chain_finish-clause-reread : goal.returns-in-Err-chain_finish-clause-reread
returns-in-Err-chain_finish-clause-reread c =
    let can : CanWalk c.args.end.now c.args.shape.now c.args.id c.args.first = record {
      at_rest = c.requires.at_rest;
      limits = c.requires.limits;
      valid = c.regions-regions.ensures.valid;
      small = c.requires.region;
      some = c.requires.some;
      near = c.requires.page;
    } in
    let o = c.loop-step.invariant in
    let key : PageKey = Guest c.loop-step.wanted in
    let mine = c.facts.ensures.mine key (key_there can o) in
    let away : is_some (page_at c.loop-step.end.pages key) ≡ false =
    search (rules, c.page.ensures, c.is_some.ensures, c.if-is_some.false) in
    reread_then can o (sym mine ∙ away) c.read_table.ensures.end
    c.read_table.ensures.chain c.read_table.ensures.shape

pub returns-in-Ok-chain_finish-clause-answer : goal.returns-in-Ok-chain_finish-clause-answer
returns-in-Ok-chain_finish-clause-answer c =
    let can : CanWalk c.args.end.now c.args.shape.now c.args.id c.args.first = record {
      at_rest = c.requires.at_rest;
      limits = c.requires.limits;
      valid = c.regions-regions.ensures.valid;
      small = c.requires.region;
      some = c.requires.some;
      near = c.requires.page;
    } in
    let o = c.loop-step.invariant in
    let key : PageKey = Guest c.loop-step.wanted in
    let mine = c.facts.ensures.mine key (key_there can o) in
    let away : is_some (page_at c.loop-step.end.pages key) ≡ false =
    search (rules, c.page.ensures, c.is_some.ensures, c.if-is_some.false) in
    λ s same tables.
    finishes_well can o (sym mine ∙ away) c.read_table.ensures.end
    c.read_table.ensures.chain c.read_table.ensures.shape
    (c.in-Ok-Whole.is ∙ ap Ok c.in-Ok-Whole.field-0-is) c.chain_finish.ensures.chain c.chain_finish.ensures.kept s same tables
    c.in-Ok-chain_finish.is

pub returns-in-Err-chain_finish-clause-answer : goal.returns-in-Err-chain_finish-clause-answer
returns-in-Err-chain_finish-clause-answer c =
    let can : CanWalk c.args.end.now c.args.shape.now c.args.id c.args.first = record {
      at_rest = c.requires.at_rest;
      limits = c.requires.limits;
      valid = c.regions-regions.ensures.valid;
      small = c.requires.region;
      some = c.requires.some;
      near = c.requires.page;
    } in
    let o = c.loop-step.invariant in
    let key : PageKey = Guest c.loop-step.wanted in
    let mine = c.facts.ensures.mine key (key_there can o) in
    let away : is_some (page_at c.loop-step.end.pages key) ≡ false =
    search (rules, c.page.ensures, c.is_some.ensures, c.if-is_some.false) in
    λ s same tables.
    finishes_badly can o (sym mine ∙ away) c.read_table.ensures.end
    c.read_table.ensures.chain c.read_table.ensures.shape
    (c.in-Ok-Whole.is ∙ ap Ok c.in-Ok-Whole.field-0-is) c.chain_finish.ensures.chain c.chain_finish.ensures.kept s same tables
    c.in-Err-chain_finish.fault c.in-Err-chain_finish.is

pub chain_finish-requires : goal.chain_finish-requires
chain_finish-requires c =
    let can : CanWalk c.args.end.now c.args.shape.now c.args.id c.args.first = record {
      at_rest = c.requires.at_rest;
      limits = c.requires.limits;
      valid = c.regions-regions.ensures.valid;
      small = c.requires.region;
      some = c.requires.some;
      near = c.requires.page;
    } in
    let o = c.loop-step.invariant in
    let key : PageKey = Guest c.loop-step.wanted in
    let mine = c.facts.ensures.mine key (key_there can o) in
    let away : is_some (page_at c.loop-step.end.pages key) ≡ false =
    search (rules, c.page.ensures, c.is_some.ensures, c.if-is_some.false) in
    may_finish can o (sym mine ∙ away) c.read_table.ensures.end
    c.read_table.ensures.chain c.read_table.ensures.shape
    (c.in-Ok-Whole.is ∙ ap Ok c.in-Ok-Whole.field-0-is)

pub returns-in-Err-read_table-clause-reread : goal.returns-in-Err-read_table-clause-reread
returns-in-Err-read_table-clause-reread c =
    let can : CanWalk c.args.end.now c.args.shape.now c.args.id c.args.first = record {
      at_rest = c.requires.at_rest;
      limits = c.requires.limits;
      valid = c.regions-regions.ensures.valid;
      small = c.requires.region;
      some = c.requires.some;
      near = c.requires.page;
    } in
    let o = c.loop-step.invariant in
    let key : PageKey = Guest c.loop-step.wanted in
    let mine = c.facts.ensures.mine key (key_there can o) in
    let away : is_some (page_at c.loop-step.end.pages key) ≡ false =
    search (rules, c.page.ensures, c.is_some.ensures, c.if-is_some.false) in
    reread_then can o (sym mine ∙ away) c.read_table.ensures.end
    c.read_table.ensures.chain c.read_table.ensures.shape

pub returns-in-Err-read_table-clause-answer : goal.returns-in-Err-read_table-clause-answer
returns-in-Err-read_table-clause-answer c =
    let can : CanWalk c.args.end.now c.args.shape.now c.args.id c.args.first = record {
      at_rest = c.requires.at_rest;
      limits = c.requires.limits;
      valid = c.regions-regions.ensures.valid;
      small = c.requires.region;
      some = c.requires.some;
      near = c.requires.page;
    } in
    let o = c.loop-step.invariant in
    let key : PageKey = Guest c.loop-step.wanted in
    let mine = c.facts.ensures.mine key (key_there can o) in
    let away : is_some (page_at c.loop-step.end.pages key) ≡ false =
    search (rules, c.page.ensures, c.is_some.ensures, c.if-is_some.false) in
    fails can o (sym mine ∙ away) c.read_table.ensures.end
    c.read_table.ensures.chain c.read_table.ensures.shape
    c.in-Err-read_table.fault c.in-Err-read_table.is

pub loop-step-preserved : goal.loop-step-preserved
loop-step-preserved c =
    let can : CanWalk c.args.end.now c.args.shape.now c.args.id c.args.first = record {
      at_rest = c.requires.at_rest;
      limits = c.requires.limits;
      valid = c.regions-regions.ensures.valid;
      small = c.requires.region;
      some = c.requires.some;
      near = c.requires.page;
    } in
    let o = c.loop-step.invariant in
    let key : PageKey = Guest c.loop-step.wanted in
    let mine = c.facts.ensures.mine key (key_there can o) in
    let away : is_some (page_at c.loop-step.end.pages key) ≡ false =
    search (rules, c.page.ensures, c.is_some.ensures, c.if-is_some.false) in
    goes_on can o (sym mine ∙ away) c.read_table.ensures.end
    c.read_table.ensures.chain c.read_table.ensures.shape
    c.in-Ok-Page.next (c.in-Ok-Page.is ∙ ap Ok c.in-Ok-Page.field-0-is)

pub unreachable-requires-2 : goal.unreachable-requires-2
unreachable-requires-2 c =
    let can : CanWalk c.args.end.now c.args.shape.now c.args.id c.args.first = record {
      at_rest = c.requires.at_rest;
      limits = c.requires.limits;
      valid = c.regions-regions.ensures.valid;
      small = c.requires.region;
      some = c.requires.some;
      near = c.requires.page;
    } in
    let low = few can c.loop-step.invariant in
    omega (arith, low, c.loop-step-test.false)
