-- Plugs, and what telling their heads does to them.
use Rattle.std.specs.Prelude.{◌≡◌, List, map, ⊤, Ok, Err}
use Rattle.svga_model.specs.Pictures.{Pictures}
use Rattle.svga_head.specs.declared.fault.HeadFault.TheVariants.{Failed, Memory}
use Rattle.svga_head.specs.declared.plug.PlugOf.{PlugOf}
use Rattle.svga_head.specs.declared.plug.PlugOf.TheVariants as plug
use Rattle.svga_head.specs.HeadStates.{HeadState}
use Rattle.svga_head.specs.PlugStates.{PlugState, Plugged, DroppedFault, DroppedMemory, Empty}
use Rattle.svga_head.specs.Telling.{IsTold}

-- what contracts see of a plug, where `state` is what they see of its head
abbrev pub plug_state : {B : Type 0} → (B → HeadState) → PlugOf B → PlugState
plug_state state (plug.Plugged b) = Plugged (state b)
plug_state state (plug.DroppedFault b) = DroppedFault (state b)
plug_state state (plug.DroppedMemory b) = DroppedMemory (state b)
plug_state state plug.Empty = Empty

abbrev pub plug_states : {B : Type 0} → (B → HeadState) → List (PlugOf B) → List PlugState
plug_states state plugs = map (plug_state state) plugs

-- where a head is plugged, this holds of what is seen of it
abbrev pub IfPlugged : {B : Type 0} → (B → HeadState) → (HeadState → Type 0) → PlugOf B → Type 0
IfPlugged state P (plug.Plugged b) = P (state b)
IfPlugged state P (plug.DroppedFault b) = ⊤
IfPlugged state P (plug.DroppedMemory b) = ⊤
IfPlugged state P plug.Empty = ⊤

-- A plug whose head was told of a change, if it is plugged in. After a fault the plug says which one and
-- keeps the head. A plug whose head isn't plugged in stays as it is.
abbrev pub IsPlugTold : {B : Type 0} → (B → HeadState) → (Pictures → Pictures) → PlugOf B → PlugOf B → Type 0
IsPlugTold state change (plug.Plugged a) (plug.Plugged b) = IsTold change (state a) (state b) (Ok tt)
IsPlugTold state change (plug.Plugged a) (plug.DroppedFault b) =
    IsTold change (state a) (state b) (Err Failed)
IsPlugTold state change (plug.Plugged a) (plug.DroppedMemory b) =
    IsTold change (state a) (state b) (Err Memory)
IsPlugTold state change (plug.Plugged a) plug.Empty = ⊥
IsPlugTold state change (plug.DroppedFault a) new = new ≡ plug.DroppedFault a
IsPlugTold state change (plug.DroppedMemory a) new = new ≡ plug.DroppedMemory a
IsPlugTold state change plug.Empty new = new ≡ plug.Empty
