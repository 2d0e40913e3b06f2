use Rattle.std.proofs.Common.{ap, arith, subst, sym}
use Rattle.svga_capture.specs.declared.fields.Fields.{Fields}
use Rattle.svga_capture.proofs.OpeningPages.{IsPageRecord, all_unfilled, filled_here, none_unfilled, page_here}
use Rattle.svga_capture.proofs.opening.open_pages.Goals as goal

pub loop-j-init : goal.loop-j-init
loop-j-init c =
    all_unfilled c.args.bytes.now c.args.pages.now c.args.fields.now.pages.count c.requires.zero
    (ap (λ (f : Fields). f.pages.count) c.requires.fields.said)

pub page_record-requires : goal.page_record-requires
page_record-requires c =
    let there = (page_here c.args.bytes.now c.args.fields.now c.requires.fields c.loop-j.j c.loop-j-test.true).there in
    let few = c.requires.fields.few in
    omega (arith, there, few)

pub open_page-requires-clause-there : goal.open_page-requires-clause-there
open_page-requires-clause-there c =
    let there = (page_here c.args.bytes.now c.args.fields.now c.requires.fields c.loop-j.j c.loop-j-test.true).there in
    let here = c.page_record.ensures in
    omega (arith, there, here)

pub open_page-requires-clause-page : goal.open_page-requires-clause-page
open_page-requires-clause-page c =
    c.loop-j.invariant.keys _ (subst (IsPageRecord c.args.bytes.now) (sym c.page_record.ensures)
    (page_here c.args.bytes.now c.args.fields.now c.requires.fields c.loop-j.j c.loop-j-test.true)).key

pub loop-j-preserved : goal.loop-j-preserved
loop-j-preserved c =
    filled_here c.args.bytes.now c.args.fields.now c.requires.fields c.loop-j.j c.page_record.result c.loop-j.pages
    c.open_page.new.pages c.page_record.ensures c.loop-j-test.true c.loop-j.invariant
    (c.loop-j.invariant.keys _ (subst (IsPageRecord c.args.bytes.now) (sym c.page_record.ensures)
    (page_here c.args.bytes.now c.args.fields.now c.requires.fields c.loop-j.j c.loop-j-test.true)).key)
    c.open_page.ensures

pub returns : goal.returns
returns c =
    none_unfilled c.args.bytes.now c.loop-j.j c.args.fields.now.pages.count c.loop-j.pages c.loop-j-test.false c.loop-j.invariant
