use Rattle.std.proofs.Common.{◌++◌, ap, arith, refl, sym}
use Rattle.std.specs.FinMap as map
use Rattle.svga_text.proofs.IdLaws.{texts_below-more, texts_below-split}
use Rattle.svga_text.proofs.PassingLaws.{at_err, fault-first, fault-same, fault-then, Passes-same, Passes-then}
use Rattle.svga_text.specs.Pictures.{some_screen_text}
use Rattle.svga_text.proofs.render.Render.all_screens.Goals as goal

pub loop-id-preserved : goal.loop-id-preserved
loop-id-preserved g c = Passes-same refl (sym (texts_below-more
    (λ id. some_screen_text (map.get c.args.screens.now.screens id)) c.loop-id.id))
    (Passes-then c.loop-id.invariant (c.in_ok-screen.ensures {u = tt}))

pub returns-in_err-screen : goal.returns-in_err-screen
returns-in_err-screen g c = at_err _ c.from_residual.result c.from_residual.ensures.0
    (fault-same (ap (λ t. c.args.self.now.pending ++ t)
    (sym (texts_below-split (λ id. some_screen_text (map.get c.args.screens.now.screens id)) c.loop-id.id 16
    (omega arith))))
    (fault-first c.args.self.now.pending _ _ (fault-then _ c.loop-id.invariant (c.in_err-screen.ensures {u = tt}))))
