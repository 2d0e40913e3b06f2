-- The tests of DESTROY_SCREEN, by what the slot holds.
use Rattle.std.proofs.Common.{◌≡◌, sym, ap, ◌∙◌, refl, slice_index_or, None, Some, true, false, Option, Bool, not, is_none, is_some}
use Rattle.std.specs.FinMap as map
use Rattle.svga_cmd.specs.declared.screen.ScreenDef.{ScreenDef}
use Rattle.svga_screen.proofs.FaultLaws.{no_screen, some_screen}
use Rattle.svga_screen.proofs.DefinitionLaws.{gets}
use Rattle.svga_screen.proofs.definitions.Definitions.may_destroy.Goals as goal

-- the two tests of an option
is_none-by_some : (o : Option ScreenDef) (b : Bool) → is_some o ≡ not b → is_none o ≡ b
is_none-by_some None true e = refl
is_none-by_some None false e = cc
is_none-by_some (Some d) true e = cc
is_none-by_some (Some d) false e = refl

pub returns-then-is_none : goal.returns-then-is_none
returns-then-is_none c =
    sym (no_screen (map.get c.args.self.now.screens) c.args.id (slice_index_or c.self.inside.slots c.args.id None)
    c.if-id-gt-MAX_SCREEN_ID.false
    (ap (λ s. map.get s.screens c.args.id) (sym c.self.view_is)
    ∙ gets c.self.inside.slots c.self.invariant.count c.args.id)
    (is_none-by_some (slice_index_or c.self.inside.slots c.args.id None) true (c.if-is_none.ensures {u = tt})))

pub returns : goal.returns
returns c =
    sym (some_screen (map.get c.args.self.now.screens) c.args.id (slice_index_or c.self.inside.slots c.args.id None)
    c.if-id-gt-MAX_SCREEN_ID.false
    (ap (λ s. map.get s.screens c.args.id) (sym c.self.view_is)
    ∙ gets c.self.inside.slots c.self.invariant.count c.args.id)
    (is_none-by_some (slice_index_or c.self.inside.slots c.args.id None) false (c.if-is_none.ensures {u = tt})))
