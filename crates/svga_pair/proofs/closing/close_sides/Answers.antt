use Rattle.std.proofs.Common.{◌≡◌, sym, subst, ap, ◌∙◌}
use Rattle.svga_head.specs.Showing.{AllShow}
use Rattle.svga_head.specs.Plugs.{plug_states}
use Rattle.svga_model.specs.Pictures.{pictures_of}
use Rattle.svga_model.specs.Closings.{Closed}
use Rattle.svga_model.specs.States.{Kept}
use Rattle.svga_ring.specs.Views.{DeviceView}
use Rattle.svga_pair.proofs.RaceCloses.{closes_meant}
use Rattle.svga_pair.proofs.closing.close_sides.Goals as goal

pub returns-clause-meant : goal.returns-clause-meant
returns-clause-meant g c = λ s is.
    closes_meant s c.args.driver c.close.result is c.facts.ensures.possible c.facts.ensures.all_sent
    c.facts.ensures.mine c.facts.ensures.keys c.close.ensures.pages c.close.ensures.left

pub returns-clause-shown : goal.returns-clause-shown
returns-clause-shown g c = λ first shown.
    let kept : c.close.result.kept ≡ c.args.device.view.kept =
    ap (λ (x : Closed). x.kept) c.close.ensures.left ∙ sym c.close.ensures.kept
    ∙ ap (λ (v : DeviceView). v.kept) c.close-ended.ensures.end.1 in
    subst (λ (k : Kept). AllShow (pictures_of k.screens) first (plug_states g.B.Head.state c.close-ended.result.heads)) (sym kept)
    (subst (AllShow (pictures_of c.args.device.view.kept.screens) first) (sym c.close-ended.ensures.heads) shown)
