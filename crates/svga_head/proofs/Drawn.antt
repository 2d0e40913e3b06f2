-- Heads that are told of a small picture: it may be painted, and then hidden.
use Rattle.std.proofs.Common.{◌≡◌, ℕ, refl, sym, subst, List, arith, Some, IsSome, All}
use Rattle.std.specs.Cmp.{nat_cmp_total}
use Rattle.std.specs.FinMap as map
use Rattle.std.specs.FinMap.{nat_cmp-IsAntisymmetric}
use Rattle.std.specs.List.{AllZip}
use Rattle.svga_cmd.proofs.Maps.{get_same}
use Rattle.svga_head.proofs.ShowingLaws.{all_may, begun, may_hide, may_paint, paint_alike, show_alike, told_showing}
use Rattle.svga_head.specs.Changes.{IsOnPicture, black_rows, painted_over, painted_picture, painted_rows, with_picture}
use Rattle.svga_head.specs.HeadStates.{HeadState}
use Rattle.svga_head.specs.Plugs.{IfPlugged, IsPlugTold, plug_states}
use Rattle.svga_head.specs.Showing.{AllShow}
use Rattle.svga_head.specs.Telling.{MayHide, MayPaint}
use Rattle.svga_head.specs.declared.plug.PlugOf.{PlugOf}
use Rattle.svga_model.specs.Pictures.{Pictures}

abbrev first : Pictures
first = with_picture 3 3 2 map.empty

first_there : map.get first 3 ≡ Some (black_rows 3 2)
first_there = get_same nat_cmp_total nat_cmp-IsAntisymmetric map.empty 3 (black_rows 3 2)

on_first : IsOnPicture (map.get first 3) 1 1 2
on_first = subst (λ o. IsOnPicture o 1 1 2) (sym first_there) (record { high = omega arith; wide = omega arith })

module _ {B : Type 0} (state : B → HeadState) (olds shown : List (PlugOf B)) (told : AllZip (IsPlugTold state (with_picture 3 3 2)) olds shown) where
  shows_first : AllShow first (plug_states state olds) (plug_states state shown)
  shows_first = told_showing state (with_picture 3 3 2) map.empty (show_alike 3 3 2 map.empty) (plug_states state olds) olds shown (begun (plug_states state olds)) told

  pub may_paint_first : All (IfPlugged state (MayPaint 3 1 1 2)) shown
  may_paint_first = all_may state first (λ own. IsOnPicture (map.get own 3) 1 1 2) (may_paint first 3 1 1 2 on_first) (plug_states state olds) shown shows_first

  module _ (cs : List ℕ) (drawn : List (PlugOf B)) (told' : AllZip (IsPlugTold state (painted_picture 3 1 1 cs)) shown drawn) where
    still_there : IsSome (map.get (painted_picture 3 1 1 cs first) 3)
    still_there = subst (λ o. IsSome (map.get (painted_over 3 o 1 1 cs first) 3)) (sym first_there)
        (subst IsSome (sym (get_same nat_cmp_total nat_cmp-IsAntisymmetric first 3 (painted_rows 1 1 cs (black_rows 3 2)))) refl)

    pub may_hide_drawn : All (IfPlugged state (MayHide 3)) drawn
    may_hide_drawn = all_may state (painted_picture 3 1 1 cs first) (λ own. IsSome (map.get own 3)) (may_hide (painted_picture 3 1 1 cs first) 3 still_there) (plug_states state olds) drawn
        (told_showing state (painted_picture 3 1 1 cs) first (paint_alike 3 1 1 cs first (subst IsSome (sym first_there) refl)) (plug_states state olds) shown drawn shows_first told')
