use Rattle.std.proofs.Common.{ap, subst, sym, ◌∙◌}
use Rattle.svga_cmd.specs.Lent.{command_of}
use Rattle.svga_device.proofs.TellingEffects.{has_made}
use Rattle.svga_device.proofs.telling_tests.run.Goals as goal
use Rattle.svga_device.specs.Telling.{SomeShow}
use Rattle.svga_head.specs.Plugs.{plug_states}
use Rattle.svga_head.specs.Showing.{AllShow}
use Rattle.svga_model.specs.Pictures.{pictures_of}
use Rattle.svga_model.specs.States.{Kept, State}
use Rattle.svga_screen.specs.ScreenSet.{ScreenSet}

pub tell-requires : goal.tell-requires
tell-requires g c =
    let old = c.args.display.now in
    let new = c.run.new.self in
    let screens = ap (λ (s : ScreenSet). s.screens) c.screens.ensures ∙ ap (λ (k : Kept). k.screens) c.machine.ensures.kept in
    let valid = c.machine-machine.ensures.valid.1.kept.screens in (
      old.kept.screens,
      has_made old.kept new.kept old.memory new.memory (command_of c.args.command.now) c.in_ok-effect.effect c.screens.result.now.screens
          valid c.in_ok-effect.ensures.effect (sym c.in_ok-effect.ensures.fault) c.in_ok-effect.ensures.ok screens,
      c.requires.showing,
    )

pub returns : goal.returns
returns g c =
    let old = c.args.display.now in
    let new = c.run.new.self in
    let screens = ap (λ (s : ScreenSet). s.screens) c.screens.ensures ∙ ap (λ (k : Kept). k.screens) c.machine.ensures.kept in
    let made = has_made old.kept new.kept old.memory new.memory (command_of c.args.command.now) c.in_ok-effect.effect c.screens.result.now.screens
    c.machine-machine.ensures.valid.1.kept.screens c.in_ok-effect.ensures.effect (sym c.in_ok-effect.ensures.fault) c.in_ok-effect.ensures.ok screens in (
      c.requires.showing.0,
      subst (λ m. AllShow (pictures_of m) c.requires.showing.0 (plug_states g.B.Head.state c.tell.new.heads)) screens
          (c.tell.ensures.shows old.kept.screens made c.requires.showing.0 c.requires.showing.1),
    )

pub returns-in_err-effect : goal.returns-in_err-effect
returns-in_err-effect g c =
    subst (λ (s : State). SomeShow (pictures_of s.kept.screens) (plug_states g.B.Head.state c.args.heads.now)) (sym c.in_err-effect.ensures.err) c.requires.showing
