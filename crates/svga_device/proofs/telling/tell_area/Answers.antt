use Rattle.std.proofs.Common.{◌≡◌, ◌+◌, sym, ap, subst, ◌∙◌, arith}
use Rattle.std.specs.FinMap as map
use Rattle.svga_device.proofs.TellingRows.{on_picture, on_screen, picture_there, pictures_more, told_end, told_top}
use Rattle.svga_device.proofs.telling.tell_area.Goals as goal
use Rattle.svga_device.specs.Telling.{part_of, with_rows}
use Rattle.svga_head.proofs.ShowingLaws.{all_may, may_paint, paint_alike, told_showing}
use Rattle.svga_head.specs.Changes.{IsOnPicture, painted_picture}
use Rattle.svga_head.specs.Plugs.{plug_states}
use Rattle.svga_head.specs.Showing.{AllShow}
use Rattle.svga_model.specs.Pictures.{pictures_of}

pub loop-y-init : goal.loop-y-init
loop-y-init g c = λ before t first shows.
    subst (λ m. AllShow (pictures_of m) first (plug_states g.B.Head.state c.args.heads.now))
    (sym (told_top c.args.area before c.args.screens.now.screens t)) shows

pub tell_row-requires-clause-on_screen : goal.tell_row-requires-clause-on_screen
tell_row-requires-clause-on_screen g c =
    on_screen c.args.area c.requires.0 c.args.screens.now.screens c.requires.1 c.loop-y.y c.loop-y.auto.y
    c.loop-y-test.true

pub tell_row-requires-clause-there : goal.tell_row-requires-clause-there
tell_row-requires-clause-there g c =
    let a = c.args.area in
    let y = c.loop-y.y in
    let t = c.requires.1 in
    let so_far = pictures_of (with_rows y a c.requires.0 c.args.screens.now.screens t) in
    let on = on_picture a c.requires.0 c.args.screens.now.screens t y c.loop-y.auto.y c.loop-y-test.true in
    all_may g.B.Head.state so_far (λ own. IsOnPicture (map.get own a.screen) a.left y a.width)
    (may_paint so_far a.screen a.left y a.width on) c.requires.2.0 c.loop-y.heads
    (c.loop-y.invariant c.requires.0 t c.requires.2.0 c.requires.2.1)

pub loop-y-preserved : goal.loop-y-preserved
loop-y-preserved g c = λ before t first shows.
    let a = c.args.area in
    let y = c.loop-y.y in
    let after = c.args.screens.now.screens in
    let so_far = pictures_of (with_rows y a before after t) in
    let colours = part_of after a y in
    let on = on_picture a before after t y c.loop-y.auto.y c.loop-y-test.true in
    let there = picture_there (map.get so_far a.screen) a.left y a.width on in
    subst (λ ps. AllShow ps first (plug_states g.B.Head.state c.tell_row.new.heads))
    (pictures_more a before after t y c.loop-y.auto.y c.loop-y-test.true)
    (told_showing g.B.Head.state (painted_picture a.screen a.left y colours) so_far
    (paint_alike a.screen a.left y colours so_far there) first c.loop-y.heads c.tell_row.new.heads
    (c.loop-y.invariant before t first shows) c.tell_row.ensures)

pub returns : goal.returns
returns g c = λ before t first shows.
    let a = c.args.area in
    let after = c.args.screens.now.screens in
    let end : c.loop-y.y ≡ a.top + a.height = omega arith in
    subst (λ m. AllShow (pictures_of m) first (plug_states g.B.Head.state c.loop-y.heads))
    (ap (λ y. with_rows y a before after t) end ∙ told_end a before after t)
    (c.loop-y.invariant before t first shows)
