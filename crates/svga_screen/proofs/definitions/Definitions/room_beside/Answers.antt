-- The pixels of the slots are those of all screens, and within the budget.
use Rattle.std.proofs.Common.{arith, ap}
use Rattle.std.specs.FinMap as map
use Rattle.svga_model.specs.Screens.{pixel_count, pixels_of}
use Rattle.svga_screen.proofs.DefinitionLaws.{gets, pixel_count-screens_in, pixel_count-slots}
use Rattle.svga_screen.proofs.definitions.Definitions.room_beside.Goals as goal

pub pixels_in_all-requires : goal.pixels_in_all-requires
pixels_in_all-requires c = omega (
  arith,
  pixel_count-slots c.self.inside.slots c.self.invariant.count,
  c.self.invariant.within,
  c.from-budget.ensures,
  c.from-budget.type_inv,
)

pub overflow_sub-result-2 : goal.overflow_sub-result-2
overflow_sub-result-2 c = omega (
  arith,
  pixel_count-slots c.self.inside.slots c.self.invariant.count,
  c.self.invariant.within,
  c.from-budget.ensures,
  c.pixels_in_all.ensures,
)

pub returns : goal.returns
returns c = omega (
  arith,
  pixel_count-slots c.self.inside.slots c.self.invariant.count,
  c.self.invariant.within,
  c.from-budget.ensures,
  c.pixels_in_all.ensures,
  c.pixels_in.ensures,
  pixel_count-screens_in c.self.inside.slots c.self.invariant.count,
  ap pixels_of (gets c.self.inside.slots c.self.invariant.count c.args.id),
  ap (λ s. s.budget) c.self.view_is,
  ap (λ s. pixel_count (map.get s.screens)) c.self.view_is,
  ap (λ s. pixels_of (map.get s.screens c.args.id)) c.self.view_is,
)
