-- A screen that is painted by a filler has a definition, and its picture changes.
use Rattle.std.proofs.Common.{ap, subst, sym, ◌∙◌, length}
use Rattle.std.proofs.lemmas.List.{length-set}
use Rattle.std.specs.FinMap as map
use Rattle.std.specs.Option.{option_copied}
use Rattle.svga_model.specs.Screens.{IsOnScreen, painted}
use Rattle.svga_screen.proofs.ScreenLaws.{definition_kept, fits_picture, pictures_painted, screens_from-painted}
use Rattle.svga_screen.specs.Kept.{ArePictures, screens_from}
use Rattle.svga_screen.proofs.screens.Screens.fill.Goals as goal

pub fill-requires-clause-fits : goal.fill-requires-clause-fits
fill-requires-clause-fits g c =
    let is = sym c.in-Some.ensures.def in
    rw c.requires.count (fits_picture (map.get c.self.inside.defs.screens) c.self.inside.pictures.lists c.self.invariant.count c.self.invariant.each
    c.args.id c.in-Some.def.now c.args.x c.args.y (g.F.Fill.values c.args.filler.now) c.in-Some.ensures.low is
    (subst (λ o. IsOnScreen o c.args.x c.args.y (length (g.F.Fill.values c.args.filler.now)))
    (sym (definition_kept c.self.inside.defs c.self.inside.pictures.lists c.self.inside.pictures.room c.args.self.now c.args.id c.self.invariant c.self.view_is) ∙ is) c.requires.on_screen))

pub invariant_of-self : goal.invariant_of-self
invariant_of-self g c =
    let is = sym c.in-Some.ensures.def in
    let defs = map.get c.self.inside.defs.screens in
    let on = subst (λ o. IsOnScreen o c.args.x c.args.y (length (g.F.Fill.values c.args.filler.now)))
    (sym (definition_kept c.self.inside.defs c.self.inside.pictures.lists c.self.inside.pictures.room c.args.self.now c.args.id c.self.invariant c.self.view_is) ∙ is) c.requires.on_screen in
    record {
      definitions = c.self.invariant.definitions;
      count = ap length c.fill.ensures.lists ∙ length-set c.self.inside.pictures.lists c.args.id _ ∙ c.self.invariant.count;
      whole_room = c.fill.ensures.room ∙ c.self.invariant.whole_room;
      each = subst (ArePictures defs) (sym c.fill.ensures.lists)
          (pictures_painted defs c.self.inside.pictures.lists c.self.invariant.count c.self.invariant.each c.args.id
          c.in-Some.def.now c.args.x c.args.y (g.F.Fill.values c.args.filler.now) c.in-Some.ensures.low is on c.requires.in_range);
    }

pub returns-in-Some : goal.returns-in-Some
returns-in-Some g c =
    let is = sym c.in-Some.ensures.def in
    let defs = map.get c.self.inside.defs.screens in
    let on = subst (λ o. IsOnScreen o c.args.x c.args.y (length (g.F.Fill.values c.args.filler.now)))
    (sym (definition_kept c.self.inside.defs c.self.inside.pictures.lists c.self.inside.pictures.room c.args.self.now c.args.id c.self.invariant c.self.view_is) ∙ is) c.requires.on_screen in
    ap (λ ls. record { budget = c.self.inside.defs.budget; screens = screens_from defs ls }) c.fill.ensures.lists
    ∙ ap (λ screens. record { budget = c.self.inside.defs.budget; screens = screens })
    (screens_from-painted defs c.self.inside.pictures.lists c.self.invariant.count c.self.invariant.each c.args.id
    c.in-Some.def.now c.args.x c.args.y (g.F.Fill.values c.args.filler.now) c.in-Some.ensures.low is on)
    ∙ ap (λ r. record { budget = r.budget; screens = painted r.screens c.args.id c.args.x c.args.y (g.F.Fill.values c.args.filler.now) }) c.self.view_is

pub returns-in_default : goal.returns-in_default
returns-in_default g c = absurd (subst (λ o. IsOnScreen o c.args.x c.args.y (length (g.F.Fill.values c.args.filler.now)))
    (sym (definition_kept c.self.inside.defs c.self.inside.pictures.lists c.self.inside.pictures.room c.args.self.now c.args.id c.self.invariant c.self.view_is)
    ∙ sym c.def.ensures.def ∙ ap option_copied c.in_default.is) c.requires.on_screen)
