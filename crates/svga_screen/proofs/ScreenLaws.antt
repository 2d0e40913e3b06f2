-- What the screens have at an id.
use Rattle.std.proofs.Common.{◌≡◌, ◌≢◌, ℕ, suc, ◌+◌, ◌-◌, ◌*◌, ◌<◌, ◌≤◌, refl, sym, ap, subst, ◌∙◌, Option, Some, None, List, [], ◌∷◌, ◌++◌, All, length, take, drop, replicate, arith, slice_index_or, slice_set, sum_by, inl, inr, IfSome, get_or-set_same, get_or-set_other}
use Rattle.std.proofs.lemmas.Bool.{cases_lt}
use Rattle.std.proofs.lemmas.List.Elements.{All-append, All-nil, All-take, All-drop, All-replicate, All-from_get_or}
use Rattle.std.proofs.lemmas.List.Sums.{sum_by-cons}
use Rattle.std.proofs.lemmas.List.{get_or-replicate, length-replicate, length-set}
use Rattle.std.specs.Cmp.{nat_cmp_total}
use Rattle.std.specs.FinMap as map
use Rattle.std.specs.FinMap.{get-empty, nat_cmp-IsAntisymmetric}
use Rattle.std.specs.List.{range_with_len}
use Rattle.std.specs.Ordering.{nat_cmp}
use Rattle.std.specs.Prelude.{option_map}
use Rattle.svga_cmd.proofs.Maps.{by_key, get_kept, get_other, get_removed, get_same, is_insert, is_remove}
use Rattle.svga_cmd.specs.declared.fault.Fault.{Fault}
use Rattle.svga_cmd.specs.declared.screen.ScreenDef.{ScreenDef}
use Rattle.svga_model.proofs.TabulatedLaws.{get-tabulated, get-tabulated_past}
use Rattle.svga_model.specs.Screens.{AreScreens, IsDefinition, IsOnRow, IsScreen, Screen, black_screen, define_screen_tests, definitions_of, painted, painted_over, painted_screen, pixel_count, pixels_of, with_screen, without_screen}
use Rattle.svga_model.specs.Standing.{first_standing}
use Rattle.svga_model.specs.Tabulated.{tabulated}
use Rattle.svga_rows.specs.Rows.{with_values}
use Rattle.svga_screen.proofs.DefinitionLaws.{fits_budget, low_id}
use Rattle.svga_screen.proofs.PixelLaws.{get_or-rows_from, inside, length-new, length-row, length-rows_from, rows_from-replicate, rows_from-with_values}
use Rattle.svga_screen.specs.Definitions.{AreScreenDefinitions, DefinitionSet}
use Rattle.svga_screen.specs.Kept.{AreKept, ArePictures, IsPicture, rows_from, screen_from, screens_from, slot_of}
use Rattle.svga_screen.specs.ScreenSet.{ScreenSet}

pub get-screens_from : (defs : ℕ → Option ScreenDef) (pictures : List (List ℕ)) (id : ℕ) → id < 16
    → map.get (screens_from defs pictures) id ≡ slot_of defs pictures id
get-screens_from defs pictures id l = get-tabulated 16 (slot_of defs pictures) id l

get-screens_from_past : (defs : ℕ → Option ScreenDef) (pictures : List (List ℕ)) (id : ℕ) → 16 ≤ id
    → map.get (screens_from defs pictures) id ≡ None
get-screens_from_past defs pictures id l = get-tabulated_past 16 (slot_of defs pictures) id l

definition_of : (o : Option ScreenDef) (px : List ℕ) → option_map (λ s. s.def) (screen_from o px) ≡ o
definition_of None px = refl
definition_of (Some d) px = refl

-- the screens have at each id what the slot has
pub screen_at : (set : DefinitionSet) (pictures : List (List ℕ)) → AreScreenDefinitions set → (id : ℕ)
    → map.get (screens_from (map.get set.screens) pictures) id ≡ slot_of (map.get set.screens) pictures id
screen_at set pictures are id = elim (cases_lt id 16)
    as (λ _. map.get (screens_from (map.get set.screens) pictures) id ≡ slot_of (map.get set.screens) pictures id) [
      | inl low ↦ get-screens_from (map.get set.screens) pictures id low
      | inr past ↦ get-screens_from_past (map.get set.screens) pictures id past
          ∙ ap (λ o. screen_from o (slice_index_or pictures id [])) (sym (are.ids id past))
    ]

-- and so the definitions that they are made of
pub definitions_of-screens_from : (set : DefinitionSet) (pictures : List (List ℕ)) → AreScreenDefinitions set
    → definitions_of (screens_from (map.get set.screens) pictures) ≡ map.get set.screens
definitions_of-screens_from set pictures are = λ i id.
    (ap (option_map (λ s. s.def)) (screen_at set pictures are id)
    ∙ definition_of (map.get set.screens id) (slice_index_or pictures id [])) i

-- what a slot shows is a screen of its id
is_screen : (id : ℕ) (o : Option ScreenDef) (px : List ℕ) → IfSome o (IsDefinition id) → IsPicture o px
    → IfSome (screen_from o px) (IsScreen id)
is_screen id None px def picture = tt
is_screen id (Some d) px def picture = record {
  def = def;
  rows = length-rows_from d.width d.height px;
  columns = All-from_get_or (λ row. length row ≡ d.width) (rows_from d.width d.height px) [] (λ r l.
      let high : r < d.height = omega (arith, length-rows_from d.width d.height px) in
      ap length (get_or-rows_from d.width d.height px r [] high) ∙ length-row d.width d.height px r picture.count high);
  colours = All-from_get_or (All (λ c. c < 16777216)) (rows_from d.width d.height px) [] (λ r l.
      let high : r < d.height = omega (arith, length-rows_from d.width d.height px) in
      subst (All (λ c. c < 16777216)) (sym (get_or-rows_from d.width d.height px r [] high))
      (All-take (λ c. c < 16777216) ((r * d.width + d.width) - r * d.width) (drop (r * d.width) px)
      (All-drop (λ c. c < 16777216) (r * d.width) px picture.colours)));
}

-- two sums over the same places
sums : (f : ℕ → ℕ) (xs : List (List ℕ)) (a : ℕ)
    → ((i : ℕ) → i < length xs → f (a + i) ≡ length (slice_index_or xs i []))
    → sum_by f (range_with_len a (length xs)) ≡ sum_by length xs
sums f [] a h = refl
sums f (x ∷ xs) a h =
    let first = ap f (let e : a ≡ a + 0 = omega arith in e) ∙ h 0 (omega arith) in
    let rest = sums f xs (a + 1) (λ j l. ap f (let e : a + 1 + j ≡ a + suc j = omega arith in e) ∙ h (suc j) (omega arith)) in
    omega (arith, sum_by-cons f a (range_with_len (a + 1) (length xs)), sum_by-cons length x xs, first, rest)

-- the pixels of all screens are all that are kept
pub pixel_count-pictures : (defs : ℕ → Option ScreenDef) (pictures : List (List ℕ)) → length pictures ≡ 16
    → ArePictures defs pictures → pixel_count defs ≡ sum_by length pictures
unfolding pixel_count
pixel_count-pictures defs pictures n each =
    ap (λ k. sum_by (λ id. pixels_of (defs id)) (range_with_len 0 k)) (sym n)
    ∙ sums (λ id. pixels_of (defs id)) pictures 0 (λ i l.
    ap (λ k. pixels_of (defs k)) (let e : 0 + i ≡ i = omega arith in e) ∙ sym (each i (omega arith)).count)

-- what is kept is what holds of the screens of every state
pub are_screens : (set : DefinitionSet) (pictures : List (List ℕ)) (room : ℕ) → AreKept set pictures room
    → AreScreens set.budget (screens_from (map.get set.screens) pictures)
are_screens set pictures room kept = record {
  ids = get-screens_from_past (map.get set.screens) pictures;
  each = λ id. elim (cases_lt id 16)
      as (λ _. IfSome (map.get (screens_from (map.get set.screens) pictures) id) (IsScreen id)) [
        | inl low ↦ subst (λ o. IfSome o (IsScreen id)) (sym (get-screens_from (map.get set.screens) pictures id low))
            (is_screen id (map.get set.screens id) (slice_index_or pictures id []) (kept.definitions.each id) (kept.each id low))
        | inr past ↦ subst (λ o. IfSome o (IsScreen id)) (sym (get-screens_from_past (map.get set.screens) pictures id past)) tt
      ];
  within_budget = subst (λ defs. pixel_count defs ≤ set.budget)
      (sym (definitions_of-screens_from set pictures kept.definitions)) kept.definitions.within;
}

-- one picture changes, and perhaps the definition of its id
module _ (defs news : ℕ → Option ScreenDef) (pictures : List (List ℕ)) (id : ℕ) (px : List ℕ) (l : id < 16)
    (count : length pictures ≡ 16) (same : (q : ℕ) → q ≢ id → news q ≡ defs q) where
  abbrev pub new_pictures : List (List ℕ)
  new_pictures = slice_set pictures id px

  picture_here : slice_index_or new_pictures id [] ≡ px
  picture_here = get_or-set_same pictures id px [] (omega arith)

  pub pictures_set : ArePictures defs pictures → IsPicture (news id) px → ArePictures news new_pictures
  pictures_set each picture q m = by_key nat_cmp_total nat_cmp-IsAntisymmetric q id
      (IsPicture (news q) (slice_index_or new_pictures q []))
      (λ is. subst (λ k. IsPicture (news k) (slice_index_or new_pictures k [])) (sym is)
      (subst (IsPicture (news id)) (sym picture_here) picture))
      (λ ne. subst (λ o. IsPicture o (slice_index_or new_pictures q [])) (sym (same q ne))
      (subst (IsPicture (defs q)) (sym (get_or-set_other pictures id q px [] ne)) (each q m)))

  here : map.get (screens_from news new_pictures) id ≡ screen_from (news id) px
  here = get-screens_from news new_pictures id l ∙ ap (screen_from (news id)) picture_here

  others : (q : ℕ) → q ≢ id
      → map.get (screens_from news new_pictures) q ≡ map.get (screens_from defs pictures) q
  others q ne = elim (cases_lt q 16)
      as (λ _. map.get (screens_from news new_pictures) q ≡ map.get (screens_from defs pictures) q) [
        | inl low ↦ get-screens_from news new_pictures q low
            ∙ (λ i. screen_from (same q ne i) (get_or-set_other pictures id q px [] ne i))
            ∙ sym (get-screens_from defs pictures q low)
        | inr past ↦ get-screens_from_past news new_pictures q past
            ∙ sym (get-screens_from_past defs pictures q past)
      ]

  -- it has a screen then
  pub screens_from-insert : (s : Screen) → screen_from (news id) px ≡ Some s
      → screens_from news new_pictures ≡ map.insert (screens_from defs pictures) id s
  screens_from-insert s e = is_insert nat_cmp_total nat_cmp-IsAntisymmetric (screens_from defs pictures)
      (screens_from news new_pictures) id s (here ∙ e) others

  -- it has none then
  pub screens_from-remove : screen_from (news id) px ≡ None
      → screens_from news new_pictures ≡ map.remove (screens_from defs pictures) id
  screens_from-remove e = is_remove nat_cmp_total nat_cmp-IsAntisymmetric (screens_from defs pictures)
      (screens_from news new_pictures) id (here ∙ e) others

-- no definition stands
none_defined : map.get {X = ScreenDef} {R = nat_cmp} map.empty ≡ (λ id. None)
none_defined = λ i id. get-empty nat_cmp id i

-- there are no screens without definitions
no_screens : (pictures : List (List ℕ)) → screens_from (λ id. None) pictures ≡ map.empty
unfolding tabulated
no_screens pictures = refl

pub screens_from-none : (pictures : List (List ℕ)) → screens_from (map.get {R = nat_cmp} map.empty) pictures ≡ map.empty
screens_from-none pictures = ap (λ defs. screens_from defs pictures) none_defined ∙ no_screens pictures

-- no pixels, without a screen
pub no_picture : IsPicture None []
no_picture = record { count = refl; colours = All-nil (λ c. c < 16777216) }

-- the same at every id
pub no_pictures : (pictures : List (List ℕ)) → pictures ≡ replicate 16 [] → ArePictures (map.get {R = nat_cmp} map.empty) pictures
no_pictures pictures is = subst (λ defs. ArePictures defs pictures) (sym none_defined) (λ id l. subst (IsPicture None)
    (sym (ap (λ ps. slice_index_or ps id []) is ∙ get_or-replicate {A = List ℕ} 16 id [] [] l)) no_picture)

-- a black picture
pub black_picture : (d : ScreenDef) → IsPicture (Some d) (replicate (d.width * d.height) 0)
black_picture d = record {
  count = length-replicate (d.width * d.height) 0;
  colours = All-replicate (λ c. c < 16777216) (d.width * d.height) 0 (omega arith);
}

pub screen_from-black : (d : ScreenDef) → screen_from (Some d) (replicate (d.width * d.height) 0) ≡ Some (black_screen d)
screen_from-black d = ap (λ rows. Some (record { def = d; rows = rows })) (rows_from-replicate d.width d.height 0)

-- what is told of the definitions is told of the screens
pub as_kept : (set : DefinitionSet) (pictures : List (List ℕ)) (room : ℕ) (r : ScreenSet) → AreKept set pictures room
    → record { budget = set.budget; screens = screens_from (map.get set.screens) pictures } ≡ r
    → (told : ℕ → (ℕ → Option ScreenDef) → Option Fault)
    → told set.budget (map.get set.screens) ≡ told r.budget (definitions_of r.screens)
as_kept set pictures room r kept is told =
    ap (told set.budget) (sym (definitions_of-screens_from set pictures kept.definitions))
    ∙ ap (λ r. told r.budget (definitions_of r.screens)) is

-- at an id
pub definition_kept : (set : DefinitionSet) (pictures : List (List ℕ)) (room : ℕ) (r : ScreenSet) (id : ℕ)
    → AreKept set pictures room → record { budget = set.budget; screens = screens_from (map.get set.screens) pictures } ≡ r
    → map.get set.screens id ≡ definitions_of r.screens id
definition_kept set pictures room r id kept is =
    ap (λ defs. defs id) (sym (definitions_of-screens_from set pictures kept.definitions))
    ∙ ap (λ r. definitions_of r.screens id) is

-- where nothing refuses a definition there is room for its pixels
pub defined_room : (set : DefinitionSet) (pictures : List (List ℕ)) (room : ℕ) (d : ScreenDef)
    → AreKept set pictures room → first_standing (define_screen_tests set.budget (map.get set.screens) d) ≡ None
    → sum_by length pictures - length (slice_index_or pictures d.id []) + d.width * d.height ≤ room
defined_room set pictures room d kept none =
    let low = low_id set.budget (map.get set.screens) d none in
    omega (
      arith,
      fits_budget set.budget (map.get set.screens) d none,
      pixel_count-pictures (map.get set.screens) pictures kept.count kept.each,
      (kept.each d.id (omega arith)).count,
      kept.whole_room,
    )

-- the screens after their definitions changed at one id, and its picture did
module _ (set new : DefinitionSet) (pictures news : List (List ℕ)) (room new_room id : ℕ) (px : List ℕ) (l : id < 16)
    (kept : AreKept set pictures room) (put : news ≡ slice_set pictures id px) where
  -- they are kept
  pub kept_set : AreScreenDefinitions new → new.budget ≡ set.budget → new_room ≡ room
      → ((q : ℕ) → q ≢ id → map.get new.screens q ≡ map.get set.screens q) → IsPicture (map.get new.screens id) px
      → AreKept new news new_room
  kept_set definitions budget same_room same picture = record {
    definitions = definitions;
    count = ap length put ∙ length-set pictures id px ∙ kept.count;
    whole_room = same_room ∙ kept.whole_room ∙ sym budget;
    each = subst (ArePictures (map.get new.screens)) (sym put)
        (pictures_set (map.get set.screens) (map.get new.screens) pictures id px l kept.count same kept.each picture);
  }

-- DEFINE_SCREEN
module _ (set new : DefinitionSet) (d : ScreenDef)
    (is : new ≡ record set { screens = map.insert set.screens d.id d }) where
  pub defined_here : map.get new.screens d.id ≡ Some d
  defined_here = ap (λ s. map.get s.screens d.id) is
      ∙ get_same nat_cmp_total nat_cmp-IsAntisymmetric set.screens d.id d

  pub defined_others : (q : ℕ) → q ≢ d.id → map.get new.screens q ≡ map.get set.screens q
  defined_others q ne = ap (λ s. map.get s.screens q) is
      ∙ get_other nat_cmp_total nat_cmp-IsAntisymmetric set.screens d.id q d ne

  pub screens_from-defined : (pictures : List (List ℕ)) → d.id < 16 → length pictures ≡ 16
      → screens_from (map.get new.screens) (slice_set pictures d.id (replicate (d.width * d.height) 0))
      ≡ with_screen (screens_from (map.get set.screens) pictures) d
  screens_from-defined pictures l count = screens_from-insert (map.get set.screens) (map.get new.screens) pictures d.id
      (replicate (d.width * d.height) 0) l count defined_others (black_screen d)
      (ap (λ o. screen_from o (replicate (d.width * d.height) 0)) defined_here ∙ screen_from-black d)

-- DESTROY_SCREEN
module _ (set new : DefinitionSet) (id : ℕ) (is : new ≡ record set { screens = map.remove set.screens id }) where
  pub destroyed_here : map.get new.screens id ≡ None
  destroyed_here = ap (λ s. map.get s.screens id) is
      ∙ get_removed nat_cmp_total nat_cmp-IsAntisymmetric set.screens id

  pub destroyed_others : (q : ℕ) → q ≢ id → map.get new.screens q ≡ map.get set.screens q
  destroyed_others q ne = ap (λ s. map.get s.screens q) is
      ∙ get_kept nat_cmp_total nat_cmp-IsAntisymmetric set.screens id q ne

  pub screens_from-destroyed : (pictures : List (List ℕ)) → id < 16 → length pictures ≡ 16
      → screens_from (map.get new.screens) (slice_set pictures id [])
      ≡ without_screen (screens_from (map.get set.screens) pictures) id
  screens_from-destroyed pictures l count = screens_from-remove (map.get set.screens) (map.get new.screens) pictures id []
      l count destroyed_others (ap (λ o. screen_from o []) destroyed_here)

-- a picture that is painted
module _ (defs : ℕ → Option ScreenDef) (pictures : List (List ℕ)) (count : length pictures ≡ 16)
    (each : ArePictures defs pictures) (id : ℕ) (d : ScreenDef) (x y : ℕ) (cs : List ℕ) (l : id < 16)
    (is : defs id ≡ Some d) (on_row : IsOnRow d x y (length cs)) where
  abbrev pub px : List ℕ
  px = slice_index_or pictures id []

  picture : IsPicture (Some d) px
  picture = subst (λ o. IsPicture o px) is (each id l)

  pub fits_picture : y * d.width + x + length cs ≤ length px
  fits_picture = inside d.width d.height px x y cs picture.count on_row.high on_row.wide

  abbrev pub painted_px : List ℕ
  painted_px = with_values px (y * d.width + x) cs

  painted_picture : All (λ c. c < 16777216) cs → IsPicture (Some d) painted_px
  painted_picture in_range = record {
    count = length-new d.width d.height px x y cs picture.count on_row.high on_row.wide ∙ picture.count;
    colours = All-append (λ c. c < 16777216) (take (y * d.width + x) px ++ cs) (drop (y * d.width + x + length cs) px)
        (All-append (λ c. c < 16777216) (take (y * d.width + x) px) cs (All-take (λ c. c < 16777216) (y * d.width + x) px picture.colours) in_range)
        (All-drop (λ c. c < 16777216) (y * d.width + x + length cs) px picture.colours);
  }

  pub pictures_painted : All (λ c. c < 16777216) cs → ArePictures defs (slice_set pictures id painted_px)
  pictures_painted in_range = pictures_set defs defs pictures id painted_px l count (λ q ne. refl) each
      (subst (λ o. IsPicture o painted_px) (sym is) (painted_picture in_range))

  shown : map.get (screens_from defs pictures) id ≡ Some (record { def = d; rows = rows_from d.width d.height px })
  shown = get-screens_from defs pictures id l ∙ ap (λ o. screen_from o px) is

  pub screens_from-painted : screens_from defs (slice_set pictures id painted_px) ≡ painted (screens_from defs pictures) id x y cs
  screens_from-painted =
      screens_from-insert defs defs pictures id painted_px l count (λ q ne. refl)
      (painted_screen (record { def = d; rows = rows_from d.width d.height px }) x y cs)
      (ap (λ o. screen_from o painted_px) is
      ∙ ap (λ rows. Some (record { def = d; rows = rows })) (rows_from-with_values d.width d.height px x y cs picture.count on_row.high on_row.wide))
      ∙ ap (λ o. painted_over (screens_from defs pictures) id o x y cs) (sym shown)
