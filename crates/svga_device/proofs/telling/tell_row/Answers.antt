use Rattle.std.proofs.Common.{[], ◌+◌, ap, slice_range, subst, unwrap_or}
use Rattle.std.specs.List.{AllZip}
use Rattle.svga_device.proofs.telling.tell_row.Goals as goal
use Rattle.svga_head.specs.Changes.{painted_picture}
use Rattle.svga_head.specs.Plugs.{IsPlugTold}

pub returns : goal.returns
returns g c =
    let a = c.args.area in
    subst (λ colours. AllZip (IsPlugTold g.B.Head.state (painted_picture a.screen a.left c.args.y colours)) c.args.heads.now c.paint.new.self)
    (ap (λ o. slice_range (unwrap_or o []) a.left (a.left + a.width)) c.in-Some.ensures.row)
    c.paint.ensures
