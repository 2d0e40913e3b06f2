use Rattle.std.proofs.Common.{◌≡◌, length, sym, subst, true, ap, arith}
use Rattle.std.proofs.lemmas.List.{length-map}
use Rattle.svga_model.specs.ScriptBounds.{is_bounded}
use Rattle.svga_model.specs.Scripts.{Script}
use Rattle.svga_script.proofs.ReadingLaws.{bounded_at}
use Rattle.svga_script.specs.Acts.{act_of}
use Rattle.svga_script.specs.Readings.{line_act}
use Rattle.svga_script.specs.declared.reading.LineAct.{LineAct}
use Rattle.svga_script.proofs.script.Script.act.Goals as goal

pub returns-clause-bounded : goal.returns-clause-bounded
returns-clause-bounded c =
    let acts = ap (λ (s : Script). length s.acts) c.self.view_is in
    let many = length-map c.self.inside.acts.items line_act in
    subst (λ (x : LineAct). is_bounded (act_of x.act) ≡ true) (sym c.index-item.ensures) (bounded_at c.self.inside.acts.items c.args.i c.index-item.result.now (omega (arith, acts, many)) c.self.invariant.each)
