-- The screens of lower ids are on their way.
use Rattle.std.specs.FinMap as map
use Rattle.svga_text.proofs.IdLaws.{texts_below}
use Rattle.svga_text.specs.Passing.{Passes}
use Rattle.svga_text.specs.Pictures.{some_screen_text}
use Rattle.svga_text.proofs.render.Render.all_screens.Given as goal

abbrev pub invariant-loop-id : goal.invariant-loop-id
invariant-loop-id g l = Passes g.K.Sink.held g.K.Sink.faults l.initial.sink l.sink l.initial.self.pending
    l.self.pending (texts_below (λ id. some_screen_text (map.get l.screens.screens id)) l.id)
