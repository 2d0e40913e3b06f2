-- What heads show of a device's pictures, of whose changes they were told since they were handed in.
use Rattle.std.specs.Prelude.{◌≡◌, ℕ, ◌≤◌, List, All, Some, is_some, IfSome, IsSome}
use Rattle.std.specs.FinMap as map
use Rattle.std.specs.List.{AllZip}
use Rattle.svga_io.specs.Rising.{Rises}
use Rattle.svga_model.specs.Pictures.{Pictures}
use Rattle.svga_head.specs.declared.plug.PlugOf.{PlugOf}
use Rattle.svga_head.specs.HeadStates.{HeadState}
use Rattle.svga_head.specs.Plugs.{IfPlugged, IsPlugTold, plug_states}
use Rattle.svga_head.specs.PlugStates.{PlugState, Plugged, DroppedFault, DroppedMemory, Empty}

-- each of the device's pictures is among the head's as it is, whatever else is
abbrev pub ShowsEach : Pictures → Pictures → Type 0
ShowsEach pictures own = (id : ℕ) → IsSome (map.get pictures id) → map.get own id ≡ map.get pictures id

-- A head that was `first` when it was handed in is so now. Where it tells its pictures it shows each of the
-- device's, and no other where it showed none at first.
pub record IsShowing (pictures : Pictures) (first now : HeadState) : Type 0 where
  pub told : is_some now.pictures ≡ is_some first.pictures
  pub each : IfSome now.pictures (ShowsEach pictures)
  pub alone : first.pictures ≡ Some map.empty → now.pictures ≡ Some pictures
  pub faults : first.faults ≤ now.faults
  pub refusals : first.refusals ≤ now.refusals

-- A head that was `first` when it was handed in was dropped as it is now: this count of it has risen.
pub record WasDropped (count : HeadState → ℕ) (first now : HeadState) : Type 0 where
  pub told : is_some now.pictures ≡ is_some first.pictures
  pub faults : first.faults ≤ now.faults
  pub refusals : first.refusals ≤ now.refusals
  pub rose : Rises (count first) (count now)

-- A plug since it was handed in. Its head is plugged and shows the device's pictures, or was dropped where
-- its count for that fault rose. A plug whose head wasn't plugged in is as it was.
abbrev pub IsPlugShowing : Pictures → PlugState → PlugState → Type 0
IsPlugShowing pictures (Plugged a) (Plugged b) = IsShowing pictures a b
IsPlugShowing pictures (Plugged a) (DroppedFault b) = WasDropped (λ h. h.faults) a b
IsPlugShowing pictures (Plugged a) (DroppedMemory b) = WasDropped (λ h. h.refusals) a b
IsPlugShowing pictures (Plugged a) Empty = ⊥
IsPlugShowing pictures (DroppedFault a) now = now ≡ DroppedFault a
IsPlugShowing pictures (DroppedMemory a) now = now ≡ DroppedMemory a
IsPlugShowing pictures Empty now = now ≡ Empty

-- of all plugs
abbrev pub AllShow : Pictures → List PlugState → List PlugState → Type 0
AllShow pictures first now = AllZip (IsPlugShowing pictures) first now

-- heads that show the pictures, and are told of this change, show the changed ones
abbrev pub KeepsShowing : {B : Type 0} → (B → HeadState) → (Pictures → Pictures) → Pictures → Type 0
KeepsShowing {B} state change pictures = (first : List PlugState) (olds news : List (PlugOf B))
    → AllShow pictures first (plug_states state olds)
    → AllZip (IsPlugTold state change) olds news
    → AllShow (change pictures) first (plug_states state news)

-- heads that show the pictures may be told so
abbrev pub AllMay : {B : Type 0} → (B → HeadState) → (HeadState → Type 0) → Pictures → Type 0
AllMay {B} state May pictures = (first : List PlugState) (plugs : List (PlugOf B))
    → AllShow pictures first (plug_states state plugs)
    → All (IfPlugged state May) plugs
