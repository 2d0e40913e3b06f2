use Rattle.std.proofs.Common.{◌≡◌, subst, is_some}
use Rattle.svga_cmd.specs.Pages.{HasPage, IsKey, page_at}
use Rattle.svga_ring.specs.Noting.{holds}
use Rattle.svga_link.proofs.PageRows.{keys_there}
use Rattle.svga_link.specs.Ends.{DeviceSeen}
use Rattle.svga_link.proofs.device.DeviceEnd.facts.Goals as goal

pub returns-clause-held : goal.returns-clause-held
returns-clause-held c = λ key.
    subst (λ (d : DeviceSeen). holds d.view.noted key ≡ is_some (page_at d.pages key)) c.self.view_is (c.self.invariant.0.mine key)

pub returns-clause-keys : goal.returns-clause-keys
returns-clause-keys c = λ key.
    subst (λ (d : DeviceSeen). HasPage d.pages key → IsKey d.view.terms.limits key) c.self.view_is
    (keys_there c.self.inside.seat.view.terms.limits c.self.inside.row.items key c.self.invariant.0.row_is)
