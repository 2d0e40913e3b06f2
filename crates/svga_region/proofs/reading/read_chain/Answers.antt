-- The law of whole chains, at each call.
use Rattle.std.proofs.Common.{◌≡◌, ◌<◌, ◌+◌, ◌∙◌, ◌++◌, ◌∷◌, ℕ, List, ap, subst, sym, refl, slice_index_or, length, length-append, [], arith, Ok, Err}
use Rattle.std.proofs.lemmas.List.{get_or_default}
use Rattle.svga_region.specs.ChainCalls.{ReadsChain}
use Rattle.svga_region.specs.WholeChains.{HasBegun, HasRead, WholeChain}
use Rattle.svga_region.specs.declared.chain.ChainNext.TheVariants.{Page, Whole}
use Rattle.svga_region.proofs.ReadLaws.{on_err_part, on_ok_part}
use Rattle.svga_region.proofs.reading.read_chain.Invariants.{chain_over}
use Rattle.svga_region.proofs.reading.read_chain.Goals as goal

pub loop-step-init : goal.loop-step-init
loop-step-init c =
    let w = chain_over c.args.regions.now c.args.pages.now c.args.id c.args.first in
    let begun = c.whole_chain.ensures.start w c.chain_start.result c.chain_start.new.self c.if-first-eq0.false c.chain_start.ensures in
    ([], refl, subst (λ answer. HasBegun w answer c.chain_start.new.self) c.in_ok-chain_start.was begun)

pub chain_page-requires : goal.chain_page-requires
chain_page-requires c =
    let w = chain_over c.args.regions.now c.args.pages.now c.args.id c.args.first in
    (c.whole_chain.ensures.begun w c.loop-step.invariant.0 c.loop-step.wanted c.loop-step.regions c.loop-step.invariant.2).0

pub chain_finish-requires : goal.chain_finish-requires
chain_finish-requires c =
    let w = chain_over c.args.regions.now c.args.pages.now c.args.id c.args.first in
    let read = c.loop-step.invariant.0 in
    let wanted = c.loop-step.wanted in
    let now = c.loop-step.regions in
    let way = c.loop-step.invariant.2 in
    let near = (c.whole_chain.ensures.begun w read wanted now way).1 in
    let inside : wanted < length c.args.pages.now = omega (arith, near, c.requires) in
    let same = c.index-pages-wanted.is ∙ get_or_default c.args.pages.now wanted c.index-pages-wanted.result [] inside in
    let page = subst (λ bytes. ReadsChain now bytes c.chain_page.result c.chain_page.new.self) same c.chain_page.ensures in
    let come = c.whole_chain.ensures.page w read wanted now c.chain_page.result c.chain_page.new.self way page in
    let whole = subst (λ answer. HasRead w (read ++ wanted ∷ []) answer c.chain_page.new.self) (c.in-Ok-Whole.is ∙ ap Ok c.in-Ok-Whole.field-0-is) come in
    c.whole_chain.ensures.whole w (read ++ wanted ∷ []) c.chain_page.new.self whole

pub returns-in-Ok-Whole : goal.returns-in-Ok-Whole
returns-in-Ok-Whole c =
    let w = chain_over c.args.regions.now c.args.pages.now c.args.id c.args.first in
    let read = c.loop-step.invariant.0 in
    let wanted = c.loop-step.wanted in
    let now = c.loop-step.regions in
    let way = c.loop-step.invariant.2 in
    let near = (c.whole_chain.ensures.begun w read wanted now way).1 in
    let inside : wanted < length c.args.pages.now = omega (arith, near, c.requires) in
    let same = c.index-pages-wanted.is ∙ get_or_default c.args.pages.now wanted c.index-pages-wanted.result [] inside in
    let page = subst (λ bytes. ReadsChain now bytes c.chain_page.result c.chain_page.new.self) same c.chain_page.ensures in
    let come = c.whole_chain.ensures.page w read wanted now c.chain_page.result c.chain_page.new.self way page in
    let whole = subst (λ answer. HasRead w (read ++ wanted ∷ []) answer c.chain_page.new.self) (c.in-Ok-Whole.is ∙ ap Ok c.in-Ok-Whole.field-0-is) come in
    let done = c.whole_chain.ensures.finish w (read ++ wanted ∷ []) c.chain_page.new.self c.chain_finish.result c.chain_finish.new.self whole c.chain_finish.ensures in
    record {
      fault = done.fault;
      ok = on_ok_part c.chain_finish.result (λ is. ap (λ r. r.regions) is) done.ok;
      err = on_err_part c.chain_finish.result (λ is. ap (λ r. r.regions) is) done.err;
    }

pub returns-in-Err : goal.returns-in-Err
returns-in-Err c =
    let w = chain_over c.args.regions.now c.args.pages.now c.args.id c.args.first in
    let read = c.loop-step.invariant.0 in
    let wanted = c.loop-step.wanted in
    let now = c.loop-step.regions in
    let way = c.loop-step.invariant.2 in
    let near = (c.whole_chain.ensures.begun w read wanted now way).1 in
    let inside : wanted < length c.args.pages.now = omega (arith, near, c.requires) in
    let same = c.index-pages-wanted.is ∙ get_or_default c.args.pages.now wanted c.index-pages-wanted.result [] inside in
    let page = subst (λ bytes. ReadsChain now bytes c.chain_page.result c.chain_page.new.self) same c.chain_page.ensures in
    let come = c.whole_chain.ensures.page w read wanted now c.chain_page.result c.chain_page.new.self way page in
    let refused = subst (λ answer. HasRead w (read ++ wanted ∷ []) answer c.chain_page.new.self) c.in-Err.is come in
    record { fault = sym refused.fault; ok = tt; err = ap (λ r. r.regions) refused.over }

pub loop-step-preserved : goal.loop-step-preserved
loop-step-preserved c =
    let w = chain_over c.args.regions.now c.args.pages.now c.args.id c.args.first in
    let read = c.loop-step.invariant.0 in
    let wanted = c.loop-step.wanted in
    let now = c.loop-step.regions in
    let way = c.loop-step.invariant.2 in
    let near = (c.whole_chain.ensures.begun w read wanted now way).1 in
    let inside : wanted < length c.args.pages.now = omega (arith, near, c.requires) in
    let same = c.index-pages-wanted.is ∙ get_or_default c.args.pages.now wanted c.index-pages-wanted.result [] inside in
    let page = subst (λ bytes. ReadsChain now bytes c.chain_page.result c.chain_page.new.self) same c.chain_page.ensures in
    let come = c.whole_chain.ensures.page w read wanted now c.chain_page.result c.chain_page.new.self way page in
    let more = subst (λ answer. HasRead w (read ++ wanted ∷ []) answer c.chain_page.new.self) (c.in-Ok-Page.is ∙ ap Ok c.in-Ok-Page.field-0-is) come in
    (read ++ wanted ∷ [], length-append read (wanted ∷ []) ∙ (let count = c.loop-step.invariant.1 in ap (λ n. n + 1) count), more)
