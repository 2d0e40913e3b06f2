use Rattle.svga_model.proofs.TouchedKeys.{touched_keys}
use Rattle.svga_model.specs.Touches.{touched_places}
use Rattle.svga_machine.proofs.StoreLaws.{has_pages}
use Rattle.svga_machine.proofs.laws.whole_store.Goals as goal

pub returns : goal.returns
returns c = λ s command is all admitted.
    has_pages s.kept.limits s.memory (touched_places s.kept command) all (touched_keys s command is)
