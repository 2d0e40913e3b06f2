use Rattle.std.proofs.Common.{IsSome}
use Rattle.std.specs.FinMap as map
use Rattle.svga_head.proofs.ShowingLaws.{all_may, begun, hide_alike, may_hide, may_paint, paint_alike, show_alike, told_showing}
use Rattle.svga_head.proofs.laws.heads_keep_showing.Goals as goal
use Rattle.svga_head.specs.Changes.{IsOnPicture, painted_picture, with_picture, without_picture}

pub returns-clause-handed_in : goal.returns-clause-handed_in
returns-clause-handed_in g c = begun

pub returns-clause-show : goal.returns-clause-show
returns-clause-show g c = λ pictures id width height. told_showing g.B.Head.state (with_picture id width height) pictures (show_alike id width height pictures)

pub returns-clause-hide : goal.returns-clause-hide
returns-clause-hide g c = λ pictures id. told_showing g.B.Head.state (without_picture id) pictures (hide_alike id pictures)

pub returns-clause-paint : goal.returns-clause-paint
returns-clause-paint g c = λ pictures id x y colours there. told_showing g.B.Head.state (painted_picture id x y colours) pictures (paint_alike id x y colours pictures there)

pub returns-clause-may_hide : goal.returns-clause-may_hide
returns-clause-may_hide g c = λ pictures id there. all_may g.B.Head.state pictures (λ own. IsSome (map.get own id)) (may_hide pictures id there)

pub returns-clause-may_paint : goal.returns-clause-may_paint
returns-clause-may_paint g c = λ pictures id x y len on. all_may g.B.Head.state pictures (λ own. IsOnPicture (map.get own id) x y len) (may_paint pictures id x y len on)
