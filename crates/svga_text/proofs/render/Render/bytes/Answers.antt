use Rattle.std.proofs.Common.{◌==◌, ◌∷◌, [], ◌++◌, ap, get_or, refl}
use Rattle.std.specs.Fmt.{decimal}
use Rattle.svga_text.proofs.PassingLaws.{at_err, fault-same, Passes-same}
use Rattle.svga_text.proofs.RunLaws.{run_next, run_within}
use Rattle.svga_text.proofs.RunPassing.{RunsPass-fault, RunsPass-next}
use Rattle.svga_text.specs.Hexadecimal.{hex_byte}
use Rattle.svga_text.specs.Lines.{line}
use Rattle.svga_text.proofs.render.Render.bytes.Goals as goal

pub returns-in_err-line : goal.returns-in_err-line
returns-in_err-line g c = at_err _ c.from_residual.result c.from_residual.ensures.0
    (RunsPass-fault (c.run_length-count.result, get_or c.args.bytes.now c.loop-first.first 0)
    (run_next (◌==◌) c.args.bytes.now c.loop-first.first c.run_length-count.result 0
    (c.run_length-count.ensures.first 0)) c.loop-first.invariant.1
    (fault-same (ap (λ begin. c.loop-first.self.pending ++ line begin
    (decimal c.run_length-count.result ∷ hex_byte
    (get_or c.args.bytes.now c.loop-first.first 0) ∷ [])) c.format.ensures.text) (c.in_err-line.ensures {u = tt})))

pub loop-first-preserved : goal.loop-first-preserved
loop-first-preserved g c = (
  run_within c.args.bytes.now c.loop-first.first c.run_length-count.result c.loop-first.invariant.0
      c.run_length-count.ensures.within,
  RunsPass-next (c.run_length-count.result, get_or c.args.bytes.now c.loop-first.first 0)
      (run_next (◌==◌) c.args.bytes.now c.loop-first.first c.run_length-count.result 0
      (c.run_length-count.ensures.first 0)) c.loop-first.invariant.1
      (Passes-same refl (ap (λ begin. line begin (decimal c.run_length-count.result ∷ hex_byte
      (get_or c.args.bytes.now c.loop-first.first 0) ∷ [])) c.format.ensures.text) (c.in_ok-line.ensures {u = tt})),
)
