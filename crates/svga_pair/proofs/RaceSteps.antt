-- How the two sides of a race go on.
use Rattle.std.proofs.Common.{◌≡◌, ap, ◌∙◌}
use Rattle.svga_device.specs.Devices.{DeviceHas}
use Rattle.svga_driver.specs.Driving.{DriverHas, client_by, client_in}
use Rattle.svga_link.specs.Ends.{DriverSeen}
use Rattle.svga_model.specs.Clients.{Client}
use Rattle.svga_model.specs.ScriptLines.{SessionNumbers}
use Rattle.svga_pair.specs.Going.{IsFresh}
use Rattle.svga_pair.specs.RaceDevices.{RunsOn}
use Rattle.svga_pair.specs.RaceDrivers.{HasStopped, IsStoppedFor}
use Rattle.svga_ring.specs.Views.{DriverView}

-- a device that goes on after it went on
pub runs_then : (first between last : DeviceHas) → RunsOn first between → RunsOn between last
    → RunsOn first last
runs_then first between last old new = record {
  table_is = new.table_is ∙ old.table_is;
  shows = λ heads shown. new.shows heads (old.shows heads shown);
}

-- a driver that was fresh, stands for this client by now, and stops
pub stops_for : (s : SessionNumbers) (c : Client) (d left : DriverHas) (e : DriverSeen) → IsFresh s d
    → client_in left ≡ c → left.view.terms ≡ d.view.terms → left.view.layout ≡ d.view.layout
    → HasStopped left e → IsStoppedFor s c e
stops_for s c d left e fresh client terms layout is = record {
  session = fresh.session;
  opened = fresh.opened;
  terms_are = ap (λ (v : DriverView). v.terms) is.view_is ∙ terms
      ∙ ap (λ (v : DriverView). v.terms) fresh.view_is;
  layout_is = ap (λ (v : DriverView). v.layout) is.view_is ∙ layout
      ∙ ap (λ (v : DriverView). v.layout) fresh.view_is;
  stopped = ap (λ (v : DriverView). v.stopped) is.view_is;
  touched = left.touched;
  client_is = (λ i. client_by (is.view_is i) (is.pages_are i) left.touched) ∙ client;
}
