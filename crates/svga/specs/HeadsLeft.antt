-- The heads in the end.
use Rattle.std.specs.Prelude.{◌≡◌, List, Option, Some, None}
use Rattle.svga_head.specs.HeadStates.{HeadState}
use Rattle.svga_head.specs.Plugs.{plug_states}
use Rattle.svga_head.specs.Showing.{AllShow}
use Rattle.svga_head.specs.declared.plug.PlugOf.{PlugOf}
use Rattle.svga_model.specs.Closings.{Closed}
use Rattle.svga_model.specs.Pictures.{pictures_of}

-- they show the screens of the session that was run, or are as they came where none was
abbrev pub AreLeft : {B : Type 0} → (B → HeadState) → Option Closed → List (PlugOf B) → List (PlugOf B) → Type 0
AreLeft state None first now = now ≡ first
AreLeft state (Some closed) first now =
    AllShow (pictures_of closed.kept.screens) (plug_states state first) (plug_states state now)
