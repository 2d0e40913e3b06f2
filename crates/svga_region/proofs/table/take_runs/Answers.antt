use Rattle.std.proofs.Common.{◌≡◌, ◌+◌, ◌++◌, ◌∙◌, sym, ap, take, arith, below_more, slice_set, append_assoc}
use Rattle.std.proofs.lemmas.List.Elements.{All-set}
use Rattle.svga_model.specs.Walks.{is_good_run, run_pages}
use Rattle.svga_region.specs.Kept.{IsShortRun, as_descriptor, kept_pages, table_pages}
use Rattle.svga_region.proofs.PutLaws.{kept_pages-set, table_pages-more, short_good}
use Rattle.svga_region.proofs.table.take_runs.Goals as goal

pub loop-pair-preserved : goal.loop-pair-preserved
loop-pair-preserved c =
    let n = c.args.count + c.loop-pair.pair in
    let run = c.read_descriptor-run.result in
    let good = sym c.is_good_run.ensures ∙ c.if-not-is_good_run.false in
    let same = c.read_descriptor-run.ensures in
    record {
      fits = omega arith;
      good = below_more _ _ c.loop-pair.invariant.good (sym (ap (is_good_run c.args.guest) same) ∙ good);
      pages = ap (λ m. kept_pages (take m (slice_set c.loop-pair.runs n run))) (let e : c.args.count + (c.loop-pair.pair + 1) ≡ n + 1 = omega arith in e)
          ∙ kept_pages-set c.loop-pair.runs n run (omega (arith, c.loop-pair.auto.runs))
          ∙ ap (λ t. t ++ run_pages (as_descriptor run)) c.loop-pair.invariant.pages
          ∙ append_assoc (kept_pages (take c.args.count c.args.runs.now)) (table_pages c.args.bytes.now c.loop-pair.pair) (run_pages (as_descriptor run))
          ∙ ap (λ t. kept_pages (take c.args.count c.args.runs.now) ++ t) (ap (λ d. table_pages c.args.bytes.now c.loop-pair.pair ++ run_pages d) same ∙ sym (table_pages-more c.args.bytes.now c.loop-pair.pair));
      short = All-set IsShortRun c.loop-pair.runs n run (short_good c.args.guest run.page run.count c.requires.guest good) c.loop-pair.invariant.short;
    }
