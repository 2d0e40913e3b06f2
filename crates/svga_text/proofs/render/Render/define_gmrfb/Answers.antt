use Rattle.std.proofs.Common.{◌∷◌, [], ap, codes}
use Rattle.std.specs.Fmt.{decimal}
use Rattle.svga_text.proofs.PassingLaws.{Writes-same}
use Rattle.svga_text.specs.Lines.{line}
use Rattle.svga_text.proofs.render.Render.define_gmrfb.Goals as goal

pub returns : goal.returns
returns g c = Writes-same g.K.Sink.held g.K.Sink.faults _ _ c.write.result
    (ap (λ name. line (codes "at") (decimal c.args.word ∷ codes "DEFINE_GMRFB" ∷ decimal c.args.gmrfb.now.region ∷ decimal c.args.gmrfb.now.offset ∷ decimal c.args.gmrfb.now.pitch ∷ name ∷ [])) c.name_of_format.ensures) c.write.ensures
