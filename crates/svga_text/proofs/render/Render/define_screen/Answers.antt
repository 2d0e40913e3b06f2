use Rattle.std.proofs.Common.{ℕ, List, ◌∷◌, Option, ap, codes, rules, sym, w32}
use Rattle.std.proofs.lemmas.Int.{to_z-of_z}
use Rattle.std.specs.Fmt.{decimal, signed_decimal}
use Rattle.std.specs.Prelude.{FitsSigned}
use Rattle.svga_cmd.specs.Words.{struct_size}
use Rattle.svga_cmd.specs.declared.screen.Backing.{Backing}
use Rattle.svga_cmd.specs.declared.screen.ScreenDef.{ScreenDef}
use Rattle.svga_text.proofs.PassingLaws.{Writes-same}
use Rattle.svga_text.specs.CommandLines.{backing_fields}
use Rattle.svga_text.specs.Lines.{line}
use Rattle.svga_text.proofs.render.Render.define_screen.Goals as goal

-- the line of this screen, with that backing
abbrev with_backing : ℕ → ScreenDef → Option Backing → List ℕ
with_backing word d backing = line (codes "at") (decimal word ∷ codes "DEFINE_SCREEN" ∷ decimal (struct_size backing) ∷ decimal d.id ∷ decimal d.flags ∷ decimal d.width ∷ decimal d.height ∷ signed_decimal d.x ∷ signed_decimal d.y ∷ backing_fields backing)

pub returns-in-None : goal.returns-in-None
returns-in-None g c =
    let x : FitsSigned w32 c.args.def.now.x = search rules in
    let y : FitsSigned w32 c.args.def.now.y = search rules in
    Writes-same g.K.Sink.held g.K.Sink.faults _ _ c.write.result (ap (with_backing c.args.word c.args.def.now) (sym c.in-None.is)) (simp to_z-of_z at c.write.ensures)

pub returns-in-Some : goal.returns-in-Some
returns-in-Some g c =
    let x : FitsSigned w32 c.args.def.now.x = search rules in
    let y : FitsSigned w32 c.args.def.now.y = search rules in
    Writes-same g.K.Sink.held g.K.Sink.faults _ _ c.write-in-Some.result (ap (with_backing c.args.word c.args.def.now) (sym c.in-Some.is)) (simp to_z-of_z at c.write-in-Some.ensures)
