use Rattle.std.proofs.Common.{◌+◌, length, ap, sym, subst, ◌∙◌, Some, false}
use Rattle.std.proofs.lemmas.Result.{err_from_is_err_and}
use Rattle.svga_model.specs.ScriptLines.{first_broken, letters_of, runs}
use Rattle.svga_script.proofs.RunLaws.{AreKept, all_held, all_kept, none_kept, runs_wrong, some_left}
use Rattle.svga_script.proofs.WordLaws.{none_left}
use Rattle.svga_script.specs.Left.{words_left}
use Rattle.svga_script.proofs.region_lines.read_runs.Goals as goal

pub returns-then-at-line : goal.returns-then-at-line
returns-then-at-line c =
    ap (λ ws. first_broken (length c.args.line.now + 1) (runs (letters_of ws)) ws) (none_left c.args.line.now c.args.at.now c.if-at-line.true)
    ∙ ap Some (sym c.missing.ensures)

pub loop-at-init : goal.loop-at-init
loop-at-init c =
    let start = none_kept (length c.args.line.now + 1) (words_left c.args.line.now c.args.at.now) (some_left c.args.line.now c.args.at.now c.if-at-line.false) in
    subst (λ held. AreKept (length c.args.line.now + 1) (words_left c.args.line.now c.args.at.now) (words_left c.args.line.now c.args.at.now) 0 false held) (sym c.new-runs.ensures.items) start

pub returns-in_err-run : goal.returns-in_err-run
returns-in_err-run c =
    let p = err_from_is_err_and c.from_residual.result c.from_residual.ensures.1 in
    rw (p.1, p.2) (c.loop-at.invariant.flaw ∙ runs_wrong (length c.args.line.now + 1) c.loop-at.pages (words_left c.args.line.now c.loop-at.at) _ (some_left c.args.line.now c.loop-at.at c.loop-at-test.true) c.in_err-run.ensures.taken)

pub returns-then-short : goal.returns-then-short
returns-then-short c = (all_kept _ _ _ _ _ _ c.loop-at.invariant (none_left c.args.line.now c.loop-at.at c.loop-at-test.false), tt)

pub returns-else-short : goal.returns-else-short
returns-else-short c =
    let none = none_left c.args.line.now c.loop-at.at c.loop-at-test.false in
    let kept = all_held _ _ _ _ _ _ c.loop-at.invariant none c.if-short.false in
    (all_kept _ _ _ _ _ _ c.loop-at.invariant none, rw c.new.ensures kept)
