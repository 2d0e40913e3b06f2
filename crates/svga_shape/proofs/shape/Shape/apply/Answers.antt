use Rattle.std.proofs.Common.{ap, sym, ◌∙◌}
use Rattle.svga_cmd.specs.Lent.{command_of}
use Rattle.svga_model.specs.States.{shape_of}
use Rattle.svga_model.specs.Steps.{command_step}
use Rattle.svga_shape.specs.ShapeSet.{ShapeSet, shape_in}
use Rattle.svga_shape.proofs.ApplyLaws.{shape_defined, shape_destroyed, shape_shown, with_repainted}
use Rattle.svga_shape.proofs.shape.Shape.apply.Goals as goal

pub returns-in-DefineScreen-clause-shape : goal.returns-in-DefineScreen-clause-shape
returns-in-DefineScreen-clause-shape c = λ s same.
    let set : ShapeSet = record { limits = c.self.inside.limits; regions = c.self.inside.regions; gmrfb = c.self.inside.gmrfb; screens = c.self.inside.screens } in
    ap (λ command. shape_of (command_step s (command_of command)).kept) c.in-DefineScreen.is
    ∙ shape_defined s.kept c.in-DefineScreen.def set (same ∙ ap shape_in (sym c.self.view_is))
    ∙ ap (λ screens. shape_in (record { limits = c.self.inside.limits; regions = c.self.inside.regions; gmrfb = c.self.inside.gmrfb; screens = screens })) (sym c.define.ensures.defined)

pub returns-in-DestroyScreen-clause-shape : goal.returns-in-DestroyScreen-clause-shape
returns-in-DestroyScreen-clause-shape c = λ s same.
    let set : ShapeSet = record { limits = c.self.inside.limits; regions = c.self.inside.regions; gmrfb = c.self.inside.gmrfb; screens = c.self.inside.screens } in
    ap (λ command. shape_of (command_step s (command_of command)).kept) c.in-DestroyScreen.is
    ∙ shape_destroyed s.kept c.in-DestroyScreen.id set (same ∙ ap shape_in (sym c.self.view_is))
    ∙ ap (λ screens. shape_in (record { limits = c.self.inside.limits; regions = c.self.inside.regions; gmrfb = c.self.inside.gmrfb; screens = screens })) (sym c.destroy.ensures.removed)

pub returns-in-Update-clause-shape : goal.returns-in-Update-clause-shape
returns-in-Update-clause-shape c = λ s same.
    let set : ShapeSet = record { limits = c.self.inside.limits; regions = c.self.inside.regions; gmrfb = c.self.inside.gmrfb; screens = c.self.inside.screens } in
    ap (λ command. shape_of (command_step s (command_of command)).kept) c.in-Update.is
    ∙ with_repainted s.kept _ set (same ∙ ap shape_in (sym c.self.view_is)) c.self.invariant.2
    ∙ ap shape_in c.self.view_is

pub returns-in-BlitToScreen-clause-shape : goal.returns-in-BlitToScreen-clause-shape
returns-in-BlitToScreen-clause-shape c = λ s same.
    let set : ShapeSet = record { limits = c.self.inside.limits; regions = c.self.inside.regions; gmrfb = c.self.inside.gmrfb; screens = c.self.inside.screens } in
    ap (λ command. shape_of (command_step s (command_of command)).kept) c.in-BlitToScreen.is
    ∙ shape_shown s s.kept.gmrfb c.in-BlitToScreen.field-0 set (same ∙ ap shape_in (sym c.self.view_is)) c.self.invariant.2
    ∙ ap shape_in c.self.view_is
