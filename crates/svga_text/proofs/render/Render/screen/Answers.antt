use Rattle.std.proofs.Common.{ℕ, List, ◌++◌, ap, rules, w32}
use Rattle.std.proofs.lemmas.Int.{to_z-of_z}
use Rattle.std.specs.FinMap as map
use Rattle.std.specs.Prelude.{FitsSigned}
use Rattle.svga_model.specs.Screens.{Screens}
use Rattle.svga_text.proofs.PassingLaws.{at_err, fault-first, fault-same, PassesOn-same, PassesOn-then}
use Rattle.svga_text.proofs.RowLaws.{heading, screen_is}
use Rattle.svga_text.specs.Pictures.{rows_line, same_row}
use Rattle.svga_text.specs.Rows.{rows_of}
use Rattle.svga_text.specs.Runs.{largest_runs, runs_text}
use Rattle.svga_text.proofs.render.Render.screen.Goals as goal

abbrev picture : Screens → ℕ → List ℕ
picture screens id = runs_text rows_line 0 (largest_runs same_row (rows_of screens id))

pub returns-in_err-line-in-Some : goal.returns-in_err-line-in-Some
returns-in_err-line-in-Some g c = at_err _ c.from_residual.result c.from_residual.ensures.0
    (fault-same (ap (λ t. c.args.self.now.pending ++ t)
    (screen_is (map.get c.args.screens.now.screens c.args.id) c.in-Some.def.now (c.in-Some.ensures {u = tt}).def))
    (fault-first c.args.self.now.pending (heading c.in-Some.def.now) (picture c.args.screens.now.screens c.args.id)
    (let x : FitsSigned w32 c.in-Some.def.now.x = search rules in
    let y : FitsSigned w32 c.in-Some.def.now.y = search rules in
    simp to_z-of_z at (c.in_err-line-in-Some.ensures {u = tt}))))

pub returns-in_ok-line-in-Some : goal.returns-in_ok-line-in-Some
returns-in_ok-line-in-Some g c = PassesOn-same g.K.Sink.held g.K.Sink.faults _ _ _ _ c.picture.result
    (screen_is (map.get c.args.screens.now.screens c.args.id) c.in-Some.def.now (c.in-Some.ensures {u = tt}).def)
    (PassesOn-then {xs = heading c.in-Some.def.now} _ _ (picture c.args.screens.now.screens c.args.id) c.picture.result
    (let x : FitsSigned w32 c.in-Some.def.now.x = search rules in
    let y : FitsSigned w32 c.in-Some.def.now.y = search rules in
    simp to_z-of_z at (c.in_ok-line-in-Some.ensures {u = tt})) c.picture.ensures)
