use Rattle.std.proofs.Common.{subst}
use Rattle.svga_device.proofs.TellingAreas.{all_told, next_area, none_told, one_more}
use Rattle.svga_device.proofs.telling.tell_areas.Goals as goal
use Rattle.svga_device.specs.Telling.{with_area}
use Rattle.svga_head.specs.Plugs.{plug_states}
use Rattle.svga_head.specs.Showing.{AllShow}
use Rattle.svga_model.specs.Pictures.{pictures_of}
use Rattle.svga_transfer.specs.Areas.{area_at}

pub loop-area-init : goal.loop-area-init
loop-area-init g c = λ before r.
    (before, none_told c.args.areas.now before c.args.screens.now.screens r, λ first shows. shows)

pub tell_area-requires : goal.tell_area-requires
tell_area-requires g c =
    let before = c.requires.0 in
    let r = c.requires.1 in
    let now = c.loop-area.invariant before r in (
      now.0,
      next_area c.args.areas.now before c.args.screens.now.screens r c.loop-area.area-index c.loop-area-test.true now.0 now.1,
      (c.requires.2.0, now.2 c.requires.2.0 c.requires.2.1),
    )

pub loop-area-preserved : goal.loop-area-preserved
loop-area-preserved g c = λ before r.
    let areas = c.args.areas.now in
    let after = c.args.screens.now.screens in
    let k = c.loop-area.area-index in
    let now = c.loop-area.invariant before r in
    let t = next_area areas before after r k c.loop-area-test.true now.0 now.1 in (
      with_area (area_at areas k) now.0 after t,
      one_more areas before after r k c.loop-area-test.true now.0 now.1 t,
      λ first shows. c.tell_area.ensures now.0 t first (now.2 first shows),
    )

pub returns : goal.returns
returns g c = λ before r first shows.
    let now = c.loop-area.invariant before r in
    subst (λ m. AllShow (pictures_of m) first (plug_states g.B.Head.state c.loop-area.heads))
    (all_told c.args.areas.now before c.args.screens.now.screens r c.loop-area.area-index c.loop-area-test.false now.0 now.1)
    (now.2 first shows)
