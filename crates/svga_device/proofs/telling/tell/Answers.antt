use Rattle.std.proofs.Common.{refl, subst, sym}
use Rattle.svga_device.proofs.TellingEffects.{IfPainted, made_painted}
use Rattle.svga_device.proofs.TellingShown.{hidden_next, may_hide_it, quiet_next, shown_next, shown_there, shows_itself}
use Rattle.svga_device.proofs.telling.tell.Goals as goal
use Rattle.svga_head.specs.Plugs.{plug_states}
use Rattle.svga_model.specs.Pictures.{pictures_of}
use Rattle.svga_device.specs.Telling.{AreRepaintedIn, HasMade, IsQuiet}

pub tell_shown-requires : goal.tell_shown-requires
tell_shown-requires g c =
    let before = c.requires.0 in
    let after = c.args.screens.now.screens in
    shown_there before after c.in-Shown.id (subst (λ e. HasMade e before after) c.in-Shown.is c.requires.1)

pub hide-requires : goal.hide-requires
hide-requires g c =
    let before = c.requires.0 in
    let after = c.args.screens.now.screens in
    may_hide_it g.B.Head.state before after c.args.heads.now c.args.heads.now c.in-Hidden.id
    (subst (λ e. HasMade e before after) c.in-Hidden.is c.requires.1) c.requires.2.0 c.requires.2.1

pub tell_areas-requires : goal.tell_areas-requires
tell_areas-requires g c =
    let before = c.requires.0 in
    let after = c.args.screens.now.screens in
    let painted = subst (λ e. IfPainted e (λ areas. AreRepaintedIn areas before after)) c.in-Painted.is
    (made_painted before after c.args.effect.now c.requires.1) in
    (before, subst (λ areas. AreRepaintedIn areas before after) (sym c.as_slice.ensures.value) painted, c.requires.2)

pub returns-in-Nothing-clause-shows : goal.returns-in-Nothing-clause-shows
returns-in-Nothing-clause-shows g c = λ before made.
    quiet_next g.B.Head.state before c.args.screens.now.screens c.args.heads.now c.args.heads.now c.args.effect.now made
    (subst IsQuiet (sym c.in-Nothing.is) tt) refl

pub returns-in-Fence-clause-shows : goal.returns-in-Fence-clause-shows
returns-in-Fence-clause-shows g c = λ before made.
    quiet_next g.B.Head.state before c.args.screens.now.screens c.args.heads.now c.args.heads.now c.args.effect.now made
    (subst IsQuiet (sym c.in-Fence.is) tt) refl

pub returns-in-Shown-clause-shows : goal.returns-in-Shown-clause-shows
returns-in-Shown-clause-shows g c = λ before made.
    let after = c.args.screens.now.screens in
    shown_next g.B.Head.state before after c.args.heads.now c.tell_shown.new.heads c.in-Shown.id
    (subst (λ e. HasMade e before after) c.in-Shown.is made) c.tell_shown.ensures

pub returns-in-Hidden-clause-shows : goal.returns-in-Hidden-clause-shows
returns-in-Hidden-clause-shows g c = λ before made.
    let after = c.args.screens.now.screens in
    hidden_next g.B.Head.state before after c.args.heads.now c.hide.new.self c.in-Hidden.id
    (subst (λ e. HasMade e before after) c.in-Hidden.is made) c.hide.ensures

pub returns-in-Painted-clause-shows : goal.returns-in-Painted-clause-shows
returns-in-Painted-clause-shows g c = λ before made.
    let after = c.args.screens.now.screens in
    let painted = subst (λ e. IfPainted e (λ areas. AreRepaintedIn areas before after)) c.in-Painted.is
    (made_painted before after c.args.effect.now made) in
    c.tell_areas.ensures before (subst (λ areas. AreRepaintedIn areas before after) (sym c.as_slice.ensures.value) painted)

pub returns-in-Nothing-clause-dropped : goal.returns-in-Nothing-clause-dropped
returns-in-Nothing-clause-dropped g c =
    let plugs = plug_states g.B.Head.state c.args.heads.now in
    let own = shows_itself (pictures_of c.requires.0) c.requires.2.0 plugs c.requires.2.1 in
    quiet_next g.B.Head.state c.requires.0 c.args.screens.now.screens c.args.heads.now c.args.heads.now c.args.effect.now c.requires.1
    (subst IsQuiet (sym c.in-Nothing.is) tt) refl plugs own

pub returns-in-Fence-clause-dropped : goal.returns-in-Fence-clause-dropped
returns-in-Fence-clause-dropped g c =
    let plugs = plug_states g.B.Head.state c.args.heads.now in
    let own = shows_itself (pictures_of c.requires.0) c.requires.2.0 plugs c.requires.2.1 in
    quiet_next g.B.Head.state c.requires.0 c.args.screens.now.screens c.args.heads.now c.args.heads.now c.args.effect.now c.requires.1
    (subst IsQuiet (sym c.in-Fence.is) tt) refl plugs own

pub returns-in-Shown-clause-dropped : goal.returns-in-Shown-clause-dropped
returns-in-Shown-clause-dropped g c =
    let after = c.args.screens.now.screens in
    let plugs = plug_states g.B.Head.state c.args.heads.now in
    let own = shows_itself (pictures_of c.requires.0) c.requires.2.0 plugs c.requires.2.1 in
    shown_next g.B.Head.state c.requires.0 after c.args.heads.now c.tell_shown.new.heads c.in-Shown.id
    (subst (λ e. HasMade e c.requires.0 after) c.in-Shown.is c.requires.1) c.tell_shown.ensures plugs own

pub returns-in-Hidden-clause-dropped : goal.returns-in-Hidden-clause-dropped
returns-in-Hidden-clause-dropped g c =
    let after = c.args.screens.now.screens in
    let plugs = plug_states g.B.Head.state c.args.heads.now in
    let own = shows_itself (pictures_of c.requires.0) c.requires.2.0 plugs c.requires.2.1 in
    hidden_next g.B.Head.state c.requires.0 after c.args.heads.now c.hide.new.self c.in-Hidden.id
    (subst (λ e. HasMade e c.requires.0 after) c.in-Hidden.is c.requires.1) c.hide.ensures plugs own

pub returns-in-Painted-clause-dropped : goal.returns-in-Painted-clause-dropped
returns-in-Painted-clause-dropped g c =
    let before = c.requires.0 in
    let after = c.args.screens.now.screens in
    let plugs = plug_states g.B.Head.state c.args.heads.now in
    let own = shows_itself (pictures_of c.requires.0) c.requires.2.0 plugs c.requires.2.1 in
    let painted = subst (λ e. IfPainted e (λ areas. AreRepaintedIn areas before after)) c.in-Painted.is
    (made_painted before after c.args.effect.now c.requires.1) in
    c.tell_areas.ensures before (subst (λ areas. AreRepaintedIn areas before after) (sym c.as_slice.ensures.value) painted)
    plugs own
