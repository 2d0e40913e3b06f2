-- The regions stay as they should be where one of them is defined, is remapped or goes.
use Rattle.std.proofs.Common.{◌≡◌, ◌≢◌, ℕ, ◌+◌, ◌<◌, ◌≤◌, refl, sym, ap, subst, ◌∙◌, List, [], ◌++◌, All, Bool, true, false, cond, nat_lt, nat_le, ◌==◌, Option, Some, None, unwrap_or, IfSome, length, take, drop, replicate, arith}
use Rattle.std.proofs.lemmas.List.{length-append, length-drop, length-map, length-replicate, length-take}
use Rattle.std.proofs.lemmas.List.Elements.{All-append, All-drop, All-map, All-nil, All-replicate, All-take}
use Rattle.std.specs.Cmp.{nat_cmp_total}
use Rattle.std.specs.FinMap as map
use Rattle.std.specs.FinMap.{nat_cmp-IsAntisymmetric, get-empty}
use Rattle.std.specs.Ordering.{nat_cmp}
use Rattle.svga_cmd.proofs.Maps.{by_key, get_kept, get_other, get_removed, get_same}
use Rattle.svga_cmd.specs.Pages.{IsKey}
use Rattle.svga_cmd.specs.declared.constants.TheConstants.{MAX_PLACES, MAX_REGION_ID, REGION_IDS}
use Rattle.svga_cmd.specs.declared.limits.Limits.{Limits}
use Rattle.svga_cmd.specs.declared.page.PageKey.{PageKey}
use Rattle.svga_cmd.specs.declared.page.PageKey.TheVariants.{Guest}
use Rattle.svga_model.proofs.ValidRules.{all_false, at_most, is_at_most, not_over, other_false, sum_changed, sum_nothing}
use Rattle.svga_model.specs.Regions.{Places, Regions, places_with, define_tests, defined_places, guest_places, place_count, region_length, remapped, with_region, with_remap}
use Rattle.svga_model.specs.Standing.{least_standing}
use Rattle.svga_model.specs.ValidStates.{ArePlaces, AreRegions}

-- the list of a region that commands may define
pub defined_small : (regions : Regions) (id : ℕ) → id ≤ MAX_REGION_ID → defined_places regions id ≡ map.get regions id
defined_small regions id small = ap (λ t. cond t None (map.get regions id)) (not_over id MAX_REGION_ID small)

-- the length of a region by what is there
length_by : (regions : Regions) (id : ℕ) (o : Option Places) → id ≤ MAX_REGION_ID → map.get regions id ≡ o
    → region_length regions id ≡ length (unwrap_or o [])
length_by regions id o small is = ap (λ p. length (unwrap_or p [])) (defined_small regions id small ∙ is)

-- regions with the same list have the same length
length_same : (regions news : Regions) (id : ℕ) → map.get news id ≡ map.get regions id
    → region_length news id ≡ region_length regions id
length_same regions news id same = ap (λ o. length (unwrap_or (cond (nat_lt MAX_REGION_ID id) None o) [])) same

-- how many places there are after a change of one list
pub place_count-changed : (regions news : Regions) (id : ℕ) → id ≤ MAX_REGION_ID
    → ((q : ℕ) → q ≢ id → map.get news q ≡ map.get regions q)
    → place_count news + region_length regions id ≡ place_count regions + region_length news id
unfolding place_count
place_count-changed regions news id small same =
    sum_changed (region_length regions) (region_length news) id 0 REGION_IDS (λ q ne. length_same regions news q (same q ne))
    (omega arith) (omega arith)

-- where there is no list there are no places
nothing : (above : Bool) (o : Option Places) → o ≡ None → length (unwrap_or (cond above None o) []) ≡ 0
nothing true o e = refl
nothing false o e = ap (λ p. length (unwrap_or p [])) e

-- at first there is no place
pub place_count-empty : place_count map.empty ≡ 0
unfolding place_count
place_count-empty = sum_nothing (region_length map.empty) 0 REGION_IDS
    (λ q. nothing (nat_lt MAX_REGION_ID q) (map.get map.empty q) (get-empty nat_cmp q))

-- no region but the framebuffer's
pub no_regions : (l : Limits) → AreRegions l map.empty
no_regions l = record {
  ids = λ id above. get-empty nat_cmp id;
  each = λ id. subst (λ o. IfSome o (ArePlaces l)) (sym (get-empty nat_cmp id)) tt;
  within = omega (arith, place_count-empty);
}

module _ (l : Limits) (regions : Regions) (id : ℕ) (small : id ≤ MAX_REGION_ID) (are : AreRegions l regions) where
  -- regions of which one changes, with no more places than there is room for
  regions_changed : (news : Regions) (o : Option Places) → map.get news id ≡ o
      → ((q : ℕ) → q ≢ id → map.get news q ≡ map.get regions q)
      → IfSome o (ArePlaces l) → place_count regions + length (unwrap_or o []) ≤ MAX_PLACES + region_length regions id
      → AreRegions l news
  regions_changed news o here others places room = record {
    ids = λ q above. others q (λ e. absurd (omega (arith, small))) ∙ are.ids q above;
    each = λ q. by_key nat_cmp_total nat_cmp-IsAntisymmetric q id (IfSome (map.get news q) (ArePlaces l))
        (λ is. subst (λ p. IfSome p (ArePlaces l)) (sym (ap (map.get news) is ∙ here)) places)
        (λ ne. subst (λ p. IfSome p (ArePlaces l)) (sym (others q ne)) (are.each q));
    within = omega (arith, place_count-changed regions news id small others, length_by news id o small here, room);
  }

  -- a region with another list
  pub regions_inserted : (list : Places) → ArePlaces l list
      → place_count regions + length list ≤ MAX_PLACES + region_length regions id → AreRegions l (map.insert regions id list)
  regions_inserted list = regions_changed (map.insert regions id list) (Some list)
      (get_same nat_cmp_total nat_cmp-IsAntisymmetric regions id list)
      (λ q. get_other nat_cmp_total nat_cmp-IsAntisymmetric regions id q list)

  -- a region that goes
  pub regions_removed : AreRegions l (map.remove regions id)
  regions_removed = regions_changed (map.remove regions id) None
      (get_removed nat_cmp_total nat_cmp-IsAntisymmetric regions id)
      (get_kept nat_cmp_total nat_cmp-IsAntisymmetric regions id) tt (omega (arith, are.within))

-- unmapped places
places_none : (l : Limits) (pages : ℕ) → ArePlaces l (replicate pages None)
places_none l pages = All-replicate (λ place. IfSome place (IsKey l)) pages None tt

-- places of guest pages
pub places_guest : (l : Limits) (numbers : List ℕ) → All (λ n. n < l.pages) numbers → ArePlaces l (guest_places numbers)
places_guest l numbers few = All-map (λ place. IfSome place (IsKey l)) (λ n. Some (Guest n)) numbers few

-- the places of a region, none where it isn't defined
pub places_defined : (l : Limits) (regions : Regions) (id : ℕ) → id ≤ MAX_REGION_ID → AreRegions l regions
    → ArePlaces l (unwrap_or (defined_places regions id) [])
places_defined l regions id small are =
    subst (λ o. ArePlaces l (unwrap_or o [])) (sym (defined_small regions id small))
    (at (map.get regions id) (are.each id))
  where
    at : (o : Option Places) → IfSome o (ArePlaces l) → ArePlaces l (unwrap_or o [])
    at None h = All-nil (λ place. IfSome place (IsKey l))
    at (Some places) h = h

-- DEFINE_GMR2
pub regions_defined : (l : Limits) (regions : Regions) (id pages : ℕ) → AreRegions l regions
    → least_standing (define_tests regions id pages) ≡ None → AreRegions l (with_region regions id pages)
regions_defined l regions id pages are none =
    let tests = all_false (define_tests regions id pages) none in
    let small = at_most id MAX_REGION_ID tests.0 in
    let room : places_with regions id pages ≤ MAX_PLACES = at_most (places_with regions id pages) MAX_PLACES
    (other_false (nat_le id MAX_REGION_ID) (nat_lt MAX_PLACES (places_with regions id pages)) tests.1.0 (is_at_most id MAX_REGION_ID small)) in
    elim (pages == 0)
    as (λ t. AreRegions l (cond t (map.remove regions id) (map.insert regions id (replicate pages None)))) [
      | true ↦ regions_removed l regions id small are
      | false ↦ regions_inserted l regions id small are (replicate pages None) (places_none l pages)
          (omega (arith, room, length-replicate {A = Option PageKey} pages None))
    ]

-- other places within a list
places_remapped : (l : Limits) (places news : Places) (offset : ℕ) → ArePlaces l places → ArePlaces l news
    → ArePlaces l (remapped places offset news)
places_remapped l places news offset old new =
    All-append (λ place. IfSome place (IsKey l)) (take offset places ++ news) (drop (offset + length news) places)
    (All-append (λ place. IfSome place (IsKey l)) (take offset places) news
    (All-take (λ place. IfSome place (IsKey l)) offset places old) new)
    (All-drop (λ place. IfSome place (IsKey l)) (offset + length news) places old)

-- they leave its length
length-remapped : (places news : Places) (offset : ℕ) → offset + length news ≤ length places
    → length (remapped places offset news) ≡ length places
length-remapped places news offset fits = omega (
  arith,
  length-append (take offset places ++ news) (drop (offset + length news) places),
  length-append (take offset places) news,
  length-take offset places,
  length-drop (offset + length news) places,
)

-- REMAP_GMR2 within a region, to pages of the guest
pub regions_remapped : (l : Limits) (regions : Regions) (id offset : ℕ) (numbers : List ℕ) → id ≤ MAX_REGION_ID
    → AreRegions l regions → offset + length numbers ≤ region_length regions id → All (λ n. n < l.pages) numbers
    → AreRegions l (with_remap regions id offset numbers)
regions_remapped l regions id offset numbers small are fits few =
    let old = unwrap_or (defined_places regions id) [] in
    let many = length-map numbers (λ n. Some (Guest n)) in
    let same = length-remapped old (guest_places numbers) offset (omega (arith, many, fits)) in
    regions_inserted l regions id small are (remapped old offset (guest_places numbers))
    (places_remapped l old (guest_places numbers) offset (places_defined l regions id small are)
    (places_guest l numbers few))
    (omega (arith, same, are.within))
