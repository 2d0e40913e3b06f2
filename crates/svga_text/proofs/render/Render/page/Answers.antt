use Rattle.std.proofs.Common.{◌==◌, ℕ, List, ◌∷◌, ◌++◌, [], ap, codes, refl}
use Rattle.svga_cmd.specs.declared.page.PageKey.{PageKey}
use Rattle.svga_io.proofs.Chains.{GrowsByPrefix-first}
use Rattle.svga_text.proofs.PassingLaws.{by_result, fault-same, fault-then, on_err, Passes-same, Passes-then, Writes-fault, Writes-last}
use Rattle.svga_text.specs.Lines.{line}
use Rattle.svga_text.specs.Keys.{key_text}
use Rattle.svga_text.specs.Pages.{bytes_line}
use Rattle.svga_text.specs.Runs.{largest_runs, runs_text}
use Rattle.svga_text.proofs.render.Render.page.Goals as goal

abbrev heading : PageKey → List ℕ
heading key = line (codes "page") (key_text key ∷ [])

abbrev runs : List ℕ → List ℕ
runs bytes = runs_text bytes_line 0 (largest_runs (◌==◌) bytes)

pub returns-in_err-line-clause-fault : goal.returns-in_err-line-clause-fault
returns-in_err-line-clause-fault g c = on_err _ c.from_residual.result
    (GrowsByPrefix-first (runs c.args.page.now) (fault-same (ap (λ p. p ++ heading c.args.key) c.clear.ensures)
    (c.in_err-line.ensures {u = tt})))

pub returns-in_err-bytes-clause-fault : goal.returns-in_err-bytes-clause-fault
returns-in_err-bytes-clause-fault g c = on_err _ c.from_residual-in_err-bytes.result
    (fault-then (runs c.args.page.now) (Passes-same c.clear.ensures refl (c.in_ok-line.ensures {u = tt}))
    (fault-same (ap (λ bytes. c.line.new.self ++ runs bytes) c.bytes.ensures.bytes) (c.in_err-bytes.ensures {u = tt})))

pub returns-clause-fault : goal.returns-clause-fault
returns-clause-fault g c = Writes-fault g.K.Sink.held g.K.Sink.faults _ _ c.send.result refl
    (Writes-last _ c.send.result (Passes-then (Passes-same c.clear.ensures refl (c.in_ok-line.ensures {u = tt}))
    (Passes-same refl (ap runs c.bytes.ensures.bytes) (c.in_ok-bytes.ensures {u = tt})))
    (by_result _ _ c.send.result c.send.ensures.sent c.send.ensures.fault))
