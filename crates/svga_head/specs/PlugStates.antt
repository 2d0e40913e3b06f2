-- What contracts see of a plug: plain data, in which no box stands.
use Rattle.std.specs.Prelude.{◌≡◌, ◌⊎◌, refl}
use Rattle.std.specs.Coded.{Coded, code_by, coded⊎}
use mathlib.Core.Logic.{inl, inr}
use base.Stored.{coded_unit}
use Rattle.svga_head.specs.HeadStates.{HeadState, coded_head_state}

-- a plug, with what is seen of its head
pub data PlugState : Type 0 where
  Plugged : (head : HeadState) → PlugState
  DroppedFault : (head : HeadState) → PlugState
  DroppedMemory : (head : HeadState) → PlugState
  Empty : PlugState

abbrev Parts : Type 0
Parts = (HeadState ⊎ HeadState) ⊎ (HeadState ⊎ Unit {0})

abbrev parts_of : PlugState → Parts
parts_of (Plugged h) = inl (inl h)
parts_of (DroppedFault h) = inl (inr h)
parts_of (DroppedMemory h) = inr (inl h)
parts_of Empty = inr (inr tt)

abbrev plug_from : Parts → PlugState
plug_from (inl (inl h)) = Plugged h
plug_from (inl (inr h)) = DroppedFault h
plug_from (inr (inl h)) = DroppedMemory h
plug_from (inr (inr _)) = Empty

pub plug_from-parts_of : (p : PlugState) → plug_from (parts_of p) ≡ p
plug_from-parts_of (Plugged h) = refl
plug_from-parts_of (DroppedFault h) = refl
plug_from-parts_of (DroppedMemory h) = refl
plug_from-parts_of Empty = refl

-- the codes of plugs, by which a type that is seen as them tells its values apart
abbrev pub coded_plug_state : Coded PlugState
coded_plug_state = code_by Parts
    (coded⊎ (coded⊎ coded_head_state coded_head_state) (coded⊎ coded_head_state coded_unit))
    parts_of plug_from plug_from-parts_of
