-- The definitions with this one, and a black picture in its place.
use Rattle.std.proofs.Common.{ap, sym, subst, ◌∙◌, ◌*◌, arith, replicate}
use Rattle.std.specs.FinMap as map
use Rattle.svga_model.specs.Screens.{define_screen_tests, with_screen}
use Rattle.svga_model.specs.Standing.{first_standing}
use Rattle.svga_screen.proofs.DefinitionLaws.{low_id}
use Rattle.svga_screen.proofs.ScreenLaws.{as_kept, black_picture, defined_here, defined_others, defined_room, kept_set, screens_from-defined}
use Rattle.svga_screen.specs.Kept.{IsPicture, screens_from}
use Rattle.svga_screen.proofs.screens.Screens.define_allowed.Goals as goal

pub define-requires : goal.define-requires
define-requires c =
    as_kept c.self.inside.defs c.self.inside.pictures.lists c.self.inside.pictures.room c.args.self.now c.self.invariant c.self.view_is
    (λ budget defs. first_standing (define_screen_tests budget defs c.args.def.now))
    ∙ c.requires

pub replace-requires-clause-room : goal.replace-requires-clause-room
replace-requires-clause-room c =
    defined_room c.self.inside.defs c.self.inside.pictures.lists c.self.inside.pictures.room c.args.def.now c.self.invariant
    (as_kept c.self.inside.defs c.self.inside.pictures.lists c.self.inside.pictures.room c.args.self.now c.self.invariant c.self.view_is
    (λ budget defs. first_standing (define_screen_tests budget defs c.args.def.now))
    ∙ c.requires)

pub invariant_of-self : goal.invariant_of-self
invariant_of-self c =
    let d = c.args.def.now in
    let set = c.self.inside.defs in
    let new = c.define.new.self in
    let none = as_kept c.self.inside.defs c.self.inside.pictures.lists c.self.inside.pictures.room c.args.self.now c.self.invariant c.self.view_is
    (λ budget defs. first_standing (define_screen_tests budget defs d)) ∙ c.requires in
    let low = low_id set.budget (map.get set.screens) d none in
    kept_set set new c.self.inside.pictures.lists c.replace.new.self.lists c.self.inside.pictures.room
    c.replace.new.self.room d.id (replicate (d.width * d.height) 0) (omega arith) c.self.invariant c.replace.ensures.lists
    c.define.ensures.valid (ap (λ s. s.budget) c.define.ensures.defined) c.replace.ensures.room
    (defined_others set new d c.define.ensures.defined)
    (subst (λ o. IsPicture o (replicate (d.width * d.height) 0)) (sym (defined_here set new d c.define.ensures.defined))
    (black_picture d))

pub returns : goal.returns
returns c =
    let d = c.args.def.now in
    let set = c.self.inside.defs in
    let new = c.define.new.self in
    let none = as_kept c.self.inside.defs c.self.inside.pictures.lists c.self.inside.pictures.room c.args.self.now c.self.invariant c.self.view_is
    (λ budget defs. first_standing (define_screen_tests budget defs d)) ∙ c.requires in
    let low = low_id set.budget (map.get set.screens) d none in
    let budget = ap (λ s. s.budget) c.define.ensures.defined in
    let screens = ap (screens_from (map.get new.screens)) c.replace.ensures.lists
    ∙ screens_from-defined set new d c.define.ensures.defined c.self.inside.pictures.lists (omega arith) c.self.invariant.count in
    (λ i. record { budget = budget i; screens = screens i })
    ∙ ap (λ r. record { budget = r.budget; screens = with_screen r.screens d }) c.self.view_is
