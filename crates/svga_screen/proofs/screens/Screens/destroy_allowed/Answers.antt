-- The definitions without this one, and no picture in its place.
use Rattle.std.proofs.Common.{ap, sym, subst, ◌∙◌, [], arith}
use Rattle.std.specs.FinMap as map
use Rattle.svga_model.specs.Screens.{destroy_screen_tests, without_screen}
use Rattle.svga_model.specs.Standing.{first_standing}
use Rattle.svga_screen.proofs.DefinitionLaws.{low_destroyed}
use Rattle.svga_screen.proofs.ScreenLaws.{as_kept, destroyed_here, destroyed_others, kept_set, no_picture, pixel_count-pictures, screens_from-destroyed}
use Rattle.svga_screen.specs.Kept.{IsPicture, screens_from}
use Rattle.svga_screen.proofs.screens.Screens.destroy_allowed.Goals as goal

pub destroy-requires : goal.destroy-requires
destroy-requires c =
    as_kept c.self.inside.defs c.self.inside.pictures.lists c.self.inside.pictures.room c.args.self.now c.self.invariant c.self.view_is
    (λ budget defs. first_standing (destroy_screen_tests defs c.args.id))
    ∙ c.requires

pub replace-requires-clause-room : goal.replace-requires-clause-room
replace-requires-clause-room c = omega (
  arith,
  pixel_count-pictures (map.get c.self.inside.defs.screens) c.self.inside.pictures.lists c.self.invariant.count c.self.invariant.each,
  c.self.invariant.definitions.within,
  c.self.invariant.whole_room,
)

pub invariant_of-self : goal.invariant_of-self
invariant_of-self c =
    let set = c.self.inside.defs in
    let new = c.destroy.new.self in
    let none = as_kept c.self.inside.defs c.self.inside.pictures.lists c.self.inside.pictures.room c.args.self.now c.self.invariant c.self.view_is
    (λ budget defs. first_standing (destroy_screen_tests defs c.args.id)) ∙ c.requires in
    let low = low_destroyed (map.get set.screens) c.args.id none in
    kept_set set new c.self.inside.pictures.lists c.replace.new.self.lists c.self.inside.pictures.room
    c.replace.new.self.room c.args.id [] (omega arith) c.self.invariant c.replace.ensures.lists
    c.destroy.ensures.valid (ap (λ s. s.budget) c.destroy.ensures.removed) c.replace.ensures.room
    (destroyed_others set new c.args.id c.destroy.ensures.removed)
    (subst (λ o. IsPicture o []) (sym (destroyed_here set new c.args.id c.destroy.ensures.removed)) no_picture)

pub returns : goal.returns
returns c =
    let set = c.self.inside.defs in
    let new = c.destroy.new.self in
    let none = as_kept c.self.inside.defs c.self.inside.pictures.lists c.self.inside.pictures.room c.args.self.now c.self.invariant c.self.view_is
    (λ budget defs. first_standing (destroy_screen_tests defs c.args.id)) ∙ c.requires in
    let low = low_destroyed (map.get set.screens) c.args.id none in
    let budget = ap (λ s. s.budget) c.destroy.ensures.removed in
    let screens = ap (screens_from (map.get new.screens)) c.replace.ensures.lists
    ∙ screens_from-destroyed set new c.args.id c.destroy.ensures.removed c.self.inside.pictures.lists (omega arith) c.self.invariant.count in
    (λ i. record { budget = budget i; screens = screens i })
    ∙ ap (λ r. record { budget = r.budget; screens = without_screen r.screens c.args.id }) c.self.view_is
