use Rattle.std.proofs.Common.{ap, sym, subst, ◌∙◌, refl, arith}
use Rattle.svga_model.specs.Scripts.{nothing_read, script_from, script_of}
use Rattle.svga_script.proofs.ReadingLaws.{end_bounded}
use Rattle.svga_script.specs.Answers.{IsAnswer}
use Rattle.svga_script.proofs.script.read_script.Goals as goal

pub loop-line-init : goal.loop-line-init
unfolding script_of
loop-line-init c = ((nothing_read, c.new-reading.ensures, refl), omega arith)

pub end-requires-clause-bounded : goal.end-requires-clause-bounded
end-requires-clause-bounded c = λ some ok.
    let now = c.loop-line.invariant.0 in
    end_bounded c.args.bytes.now now.0 c.loop-line.reading now.1 (sym now.2 ∙ ap (script_from now.0) c.in_default.ensures.left) some ok

pub returns : goal.returns
returns c =
    let now = c.loop-line.invariant.0 in
    subst (λ expected. IsAnswer expected c.end.result) (sym (sym now.2 ∙ ap (script_from now.0) c.in_default.ensures.left)) (c.end.ensures now.0 now.1)
