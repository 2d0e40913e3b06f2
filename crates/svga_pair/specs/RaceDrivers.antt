-- A driver at the end of a race.
use Rattle.std.specs.Prelude.{◌≡◌, ℕ, true}
use Rattle.std.specs.FinMap.{FinMap}
use Rattle.svga_cmd.specs.Pages.{key_cmp}
use Rattle.svga_cmd.specs.declared.session.Session.{Session}
use Rattle.svga_driver.specs.Driving.{DriverHas, client_by, with_view}
use Rattle.svga_link.specs.Ends.{DriverSeen}
use Rattle.svga_model.specs.Clients.{Client}
use Rattle.svga_model.specs.ScriptLines.{SessionNumbers}
use Rattle.svga_ring.specs.Views.{DriverView, Loads, opening_layout, terms_of}
use Rattle.svga_script.specs.Asked.{numbers_of}

-- the view with replies loaded, the last of them so
abbrev pub with_replies : DriverView → Loads → DriverView
with_replies d loads = record d { reply_loads = loads }

-- Replies were loaded, and nothing else changes.
abbrev pub HasSettled : DriverHas → DriverHas → Type 0
HasSettled d left = left ≡ with_view d (with_replies d.view left.view.reply_loads)

-- It has stopped, behind such loads. This is its end.
pub record HasStopped (d : DriverHas) (e : DriverSeen) : Type 0 where
  pub table_is : e.table ≡ d.table
  pub pages_are : e.pages ≡ d.own
  pub view_is : e.view ≡ record d.view { reply_loads = e.view.reply_loads; stopped = true }

-- The end of a driver that has stopped. It is of a session of these numbers, and stood for this client.
pub record IsStoppedFor (s : SessionNumbers) (c : Client) (e : DriverSeen) : Type 0 where
  pub session : Session
  pub opened : numbers_of session ≡ s
  pub terms_are : e.view.terms ≡ terms_of session
  pub layout_is : e.view.layout ≡ opening_layout session
  pub stopped : e.view.stopped ≡ true
  pub touched : FinMap key_cmp ℕ
  pub client_is : client_by e.view e.pages touched ≡ c
