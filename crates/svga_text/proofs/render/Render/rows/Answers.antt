use Rattle.std.proofs.Common.{◌≡◌, ◌==◌, ℕ, List, ◌∷◌, ◌++◌, [], ap, codes, map}
use Rattle.std.specs.Fmt.{decimal}
use Rattle.svga_text.proofs.PassingLaws.{at_err, fault-first, fault-same, fault-then, line-append, Passes-then, PassesOn-same, PassesOn-then}
use Rattle.svga_text.specs.Lines.{spaced}
use Rattle.svga_text.specs.Pictures.{pixels_text, rows_line}
use Rattle.svga_text.specs.Runs.{largest_runs}
use Rattle.svga_text.proofs.render.Render.rows.Goals as goal

abbrev places : ℕ → ℕ → List ℕ
places first count = spaced (decimal first ∷ decimal count ∷ [])

abbrev runs : List ℕ → List ℕ
runs row = spaced (map pixels_text (largest_runs (◌==◌) row))

-- what is written in parts is the line
whole : (first count : ℕ) (row : List ℕ) → ((codes "rows" ++ places first count) ++ runs row) ++ 10 ∷ [] ≡ rows_line
    first (count, row)
whole first count row = line-append (codes "rows") (decimal first ∷ decimal count ∷ [])
    (map pixels_text (largest_runs (◌==◌) row))

pub returns-in_err-text : goal.returns-in_err-text
returns-in_err-text g c = at_err _ c.from_residual.result c.from_residual.ensures.0
    (fault-same (ap (λ t. c.args.self.now.pending ++ t) (whole c.args.first c.args.count c.args.row.now))
    (fault-first c.args.self.now.pending ((codes "rows" ++ places c.args.first c.args.count) ++ runs c.args.row.now)
    (10 ∷ [])
    (fault-first c.args.self.now.pending (codes "rows" ++ places c.args.first c.args.count) (runs c.args.row.now)
    (fault-first c.args.self.now.pending (codes "rows") (places c.args.first c.args.count)
    (c.in_err-text.ensures {u = tt})))))

pub returns-in_err-fields : goal.returns-in_err-fields
returns-in_err-fields g c = at_err _ c.from_residual-in_err-fields.result c.from_residual-in_err-fields.ensures.0
    (fault-same (ap (λ t. c.args.self.now.pending ++ t) (whole c.args.first c.args.count c.args.row.now))
    (fault-first c.args.self.now.pending ((codes "rows" ++ places c.args.first c.args.count) ++ runs c.args.row.now)
    (10 ∷ [])
    (fault-first c.args.self.now.pending (codes "rows" ++ places c.args.first c.args.count) (runs c.args.row.now)
    (fault-then (places c.args.first c.args.count) (c.in_ok-text.ensures {u = tt})
    (c.in_err-fields.ensures {u = tt})))))

pub returns-in_err-pixels : goal.returns-in_err-pixels
returns-in_err-pixels g c = at_err _ c.from_residual-in_err-pixels.result c.from_residual-in_err-pixels.ensures.0
    (fault-same (ap (λ t. c.args.self.now.pending ++ t) (whole c.args.first c.args.count c.args.row.now))
    (fault-first c.args.self.now.pending ((codes "rows" ++ places c.args.first c.args.count) ++ runs c.args.row.now)
    (10 ∷ [])
    (fault-then (runs c.args.row.now) (Passes-then (c.in_ok-text.ensures {u = tt}) (c.in_ok-fields.ensures {u = tt}))
    (c.in_err-pixels.ensures {u = tt}))))

pub returns : goal.returns
returns g c = PassesOn-same g.K.Sink.held g.K.Sink.faults _ _ _ _ c.text-2.result
    (whole c.args.first c.args.count c.args.row.now)
    (PassesOn-then _ _ (10 ∷ []) c.text-2.result (Passes-then
    (Passes-then (c.in_ok-text.ensures {u = tt}) (c.in_ok-fields.ensures {u = tt}))
    (c.in_ok-pixels.ensures {u = tt})) c.text-2.ensures)
