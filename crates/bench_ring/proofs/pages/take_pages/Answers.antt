use Rattle.std.proofs.Common.{ap, sym, subst, ◌∙◌, ◌+◌, arith}
use Rattle.std.specs.FinSet.{FinSet}
use Rattle.svga_cmd.specs.Pages.{key_cmp}
use Rattle.svga_cmd.specs.declared.page.PageKey.TheVariants.{Guest}
use Rattle.svga_link.specs.Ends.{DriverSeen}
use Rattle.svga_ring.specs.Conditions.{first_state}
use Rattle.bench_ring.specs.Lendings.{AreLent}
use Rattle.bench_ring.proofs.Lendings.{count_on, fences_touch_none, first_lent, keeps_taken, lent_fewer, sends_on}
use Rattle.bench_ring.proofs.pages.take_pages.Goals as goal
use Rattle.bench_ring.proofs.pages.take_pages.Goals.{then-is_as_written, else-is_as_written}

pub take-requires : goal.take-requires
take-requires c =
    let d = c.loop-page.driver in
    let page = c.loop-page.page in
    let so_far = c.loop-page.invariant in
    record {
      key_is = omega (arith, so_far.sends.pages, c.requires.within, c.loop-page-test.true);
      lent = first_lent d.view.lent page c.args.past so_far.lent c.loop-page-test.true;
      none_open = so_far.sends.ready.none_open;
      untouched = λ n low touched.
          fences_touch_none (first_state d.view) d.view.acts n (Guest page) so_far.sends.fences touched;
    }

pub loop-page-preserved : goal.loop-page-preserved
loop-page-preserved c =
    let d = c.loop-page.driver in
    let page = c.loop-page.page in
    let left = c.take.new.self in
    let so_far = c.loop-page.invariant in
    let keeps = keeps_taken d left (Guest page) _ so_far.sends.ready c.take.ensures in
    record {
      sends = sends_on d left so_far.sends keeps;
      lent = subst (λ (pages : FinSet key_cmp). AreLent pages (page + 1) c.args.past)
          (sym (ap (λ (s : DriverSeen). s.view.lent) c.take.ensures))
          (lent_fewer d.view.lent page c.args.past so_far.lent);
      behind = ap (λ (s : DriverSeen). s.view.seen) c.take.ensures ∙ so_far.behind
          ∙ sym (count_on d left keeps);
      fences = count_on d left keeps ∙ so_far.fences;
      found = elim c.if-is_as_written.branch [
        | then-is_as_written w ↦ omega (arith, w.found-is, so_far.found)
        | else-is_as_written w ↦ omega (arith, w.found-is, so_far.found)
      ];
    }
