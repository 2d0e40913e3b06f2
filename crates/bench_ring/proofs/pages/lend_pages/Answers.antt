use Rattle.std.proofs.Common.{ap, sym, subst, ◌∙◌, ◌+◌, arith}
use Rattle.std.specs.FinSet as set
use Rattle.std.specs.FinSet.{FinSet}
use Rattle.svga_cmd.specs.Pages.{key_cmp}
use Rattle.svga_cmd.specs.declared.page.PageKey.TheVariants.{Guest}
use Rattle.svga_link.specs.Ends.{DriverSeen}
use Rattle.svga_model.specs.Memories.{page_bytes}
use Rattle.svga_ring.specs.Views.{DriverView}
use Rattle.bench_ring.specs.Lendings.{AreLent}
use Rattle.bench_ring.proofs.Lendings.{count_on, keeps_lent, lent_more, sends_on}
use Rattle.bench_ring.proofs.pages.lend_pages.Goals as goal

pub loop-page-preserved : goal.loop-page-preserved
loop-page-preserved c =
    let d = c.loop-page.driver in
    let page = c.loop-page.page in
    let written = c.write.new.driver in
    let left = c.lend.new.self in
    let so_far = c.loop-page.invariant in
    let keeps = keeps_lent d written left (Guest page) (page_bytes written.pages (Guest page)) _
    so_far.sends.ready c.write.ensures.view c.write.ensures.reserved c.lend.ensures in
    let lent = ap (λ (s : DriverSeen). s.view.lent) c.lend.ensures
    ∙ ap (λ (v : DriverView). set.insert v.lent (Guest page)) c.write.ensures.view in
    record {
      sends = sends_on d left so_far.sends keeps;
      lent = subst (λ (pages : FinSet key_cmp). AreLent pages c.args.from (page + 1)) (sym lent)
          (lent_more d.view.lent c.args.from page (omega (arith, c.loop-page.auto.page)) so_far.lent);
      fences = count_on d left keeps ∙ so_far.fences;
    }
