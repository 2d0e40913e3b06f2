-- What a screen shows once each screen has new colours.
use Rattle.std.proofs.Common.{◌≡◌, ℕ, ◌<◌, ◌≤◌, ◌∙◌, List, [], ◌⊎◌, inl, inr, Option, Some, None}
use Rattle.std.proofs.Common.{slice_get, slice_index, arith, refl, sym, ap, subst}
use Rattle.std.specs.Prelude.{map as map_list, option_and_then, option_map, unwrap_or}
use Rattle.std.specs.FinMap as map
use Rattle.std.specs.List.{range_with_len}
use Rattle.std.proofs.lemmas.Bool.{cases_lt}
use Rattle.std.proofs.lemmas.List.FromFn.{get_or-map-range_with_len, length-map-range_with_len}
use Rattle.std.proofs.lemmas.Option.{get_or_from_slice_get, slice_get-get_or}
use Rattle.svga_cmd.specs.declared.screen.ScreenDef.{ScreenDef}
use Rattle.svga_model.proofs.TabulatedLaws.{get-tabulated, get-tabulated_past}
use Rattle.svga_model.specs.BlitEffects.{colour_on, repainted, repainted_screens}
use Rattle.svga_model.specs.Screens.{Screen, Screens, definitions_of, row_of}

-- a new colour for each pixel of a screen with this definition, if there is one
abbrev pub Colouring : Type 0
Colouring = ScreenDef → ℕ → ℕ → Option ℕ

-- what row y shows then: the new colours, and the older ones of this screen where there are none
abbrev pub new_row : (ℕ → ℕ → Option ℕ) → Option Screen → ℕ → ℕ → List ℕ
new_row colour older width y = map_list (λ x. unwrap_or (colour x y) (colour_on older x y)) (range_with_len 0 width)

-- the definition of a screen, and row y of it, where there is one
abbrev pub def_in : Option Screen → Option ScreenDef
def_in o = option_map (λ s. s.def) o

abbrev pub row_in : Option Screen → ℕ → Option (List ℕ)
row_in o y = option_and_then (λ s. slice_get s.rows y) o

-- the screen with its new colours
abbrev pub painted_in : Colouring → Option Screen → Option Screen
painted_in colour o = option_map (λ s. repainted (colour s.def) s) o

-- a row of one repainted screen
row_there : (colour : Colouring) (o : Option Screen) (d : ScreenDef) (y : ℕ) → def_in o ≡ Some d → y < d.height
    → row_in (painted_in colour o) y ≡ Some (new_row (colour d) o d.width y)
row_there colour None d y e l = absurd (cc e)
row_there colour (Some s) d y e l = subst (λ k. row_in (Some fresh) y ≡ Some (new_row (colour k) (Some s) k.width y)) is
    (slice_get-get_or fresh.rows y [] (omega (arith, high, length-map-range_with_len row 0 s.def.height))
    ∙ ap Some (get_or-map-range_with_len row 0 s.def.height y y [] high (omega arith)))
  where
    fresh : Screen
    fresh = repainted (colour s.def) s

    is : s.def ≡ d
    is = cc e

    high : y < s.def.height
    high = subst (λ k. y < k.height) (sym is) l

    row : ℕ → List ℕ
    row = new_row (colour s.def) (Some s) s.def.width

-- a pixel of a row
pixel_there : (o : Option Screen) (x y : ℕ) (row : List ℕ) → row_in o y ≡ Some row → colour_on o x y ≡ slice_index row x
pixel_there None x y row e = absurd (cc e)
pixel_there (Some s) x y row e = ap (λ r. slice_index r x) (get_or_from_slice_get s.rows y row [] e)

pub pixel_of : (screens : Screens) (id x y : ℕ) (row : List ℕ) → row_of screens id y ≡ Some row
    → colour_on (map.get screens id) x y ≡ slice_index row x
pixel_of screens id x y row e = pixel_there (map.get screens id) x y row e

module _ (colour : ℕ → Colouring) (screens : Screens) where
  abbrev pub fresh_at : ℕ → Option Screen
  fresh_at id = painted_in (colour id) (map.get screens id)

  module _ (id : ℕ) (d : ScreenDef) (low : id < 16) (is : definitions_of screens id ≡ Some d) where
    -- a row of one of the repainted screens
    pub row_after : (y : ℕ) → y < d.height
        → row_of (repainted_screens colour screens) id y ≡ Some (new_row (colour id d) (map.get screens id) d.width y)
    unfolding repainted_screens
    row_after y high = ap (λ o. row_in o y) (get-tabulated 16 fresh_at id low)
        ∙ row_there (colour id) (map.get screens id) d y is high

    -- a pixel of one
    pub pixel_after : (x y : ℕ) → x < d.width → y < d.height
        → colour_on (map.get (repainted_screens colour screens) id) x y
        ≡ unwrap_or (colour id d x y) (colour_on (map.get screens id) x y)
    pixel_after x y wide high = pixel_of (repainted_screens colour screens) id x y row (row_after y high)
        ∙ get_or-map-range_with_len pixel 0 d.width x x 0 wide (omega arith)
      where
        pixel : ℕ → ℕ
        pixel k = unwrap_or (colour id d k y) (colour_on (map.get screens id) k y)

        row : List ℕ
        row = new_row (colour id d) (map.get screens id) d.width y

  def_there : (new : Colouring) (o : Option Screen) → def_in (painted_in new o) ≡ def_in o
  def_there new None = refl
  def_there new (Some s) = refl

  -- repainted screens have the definitions that they had, where none has an id over 15
  pub definitions_after : ((id : ℕ) → 16 ≤ id → definitions_of screens id ≡ None)
      → definitions_of (repainted_screens colour screens) ≡ definitions_of screens
  unfolding repainted_screens
  definitions_after none = λ i id. at id (cases_lt id 16) i where
    at : (id : ℕ) → (id < 16) ⊎ (16 ≤ id) → definitions_of (repainted_screens colour screens) id ≡ definitions_of screens id
    at id (inl low) = ap def_in (get-tabulated 16 fresh_at id low) ∙ def_there (colour id) (map.get screens id)
    at id (inr past) = ap def_in (get-tabulated_past 16 fresh_at id past) ∙ sym (none id past)
