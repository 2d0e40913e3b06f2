use Rattle.std.proofs.Common.{ap, sym, ◌∙◌}
use Rattle.svga_driver.specs.LendingSet.{places_for}
use Rattle.svga_model.specs.Clients.{first_out}
use Rattle.svga_shape.specs.Admission.{region_of}
use Rattle.svga_driver.proofs.touching.note_touch.Goals as goal

pub touch_all-requires : goal.touch_all-requires
touch_all-requires c = (
  c.requires.0,
  c.requires.1,
  ap (λ t. first_out c.requires.0 (places_for c.args.regions.now (region_of t))) (sym c.in-Region.is)
      ∙ c.requires.2,
)
