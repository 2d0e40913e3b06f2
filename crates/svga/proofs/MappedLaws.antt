-- Answers for guest pages, as they are marked.
use Rattle.std.proofs.Common.{◌≡◌, ◌≢◌, ℕ, zero, suc, ◌+◌, ◌<◌, ◌≤◌, ◌==◌, Bool, true, false, cond, ◌||◌, List, [], ◌∷◌, length, map as map_list, take, set, get_or, slice_index_or, Option, Some, None, unwrap_or, option_map, refl, sym, ap, ◌∙◌, arith, replicate}
use Rattle.svga_cmd.specs.declared.constants.TheConstants.{REGION_IDS}
use Rattle.std.proofs.lemmas.Bool.Decides.{nat_tests}
use Rattle.std.proofs.lemmas.List.{ext_get_or, get_or-set_other, get_or-set_same, take_all}
use Rattle.std.proofs.lemmas.List.Folds.{list_any-append, list_any_more}
use Rattle.std.proofs.lemmas.List.FromFn.{get_or-map-range_with_len, length-map-range_with_len}
use Rattle.std.specs.Cmp.{unsigned_tied}
use Rattle.std.specs.List.{list_any, range_with_len}
use Rattle.svga.proofs.RangeLaws.{range-next}
use Rattle.svga.specs.Mapped.{AreMapped, AreMarked, defined_list, in_first}
use Rattle.svga_cmd.specs.Pages.{key_cmp}
use Rattle.svga_cmd.specs.declared.constants.TheConstants.{SVGA_GMR_FRAMEBUFFER}
use Rattle.svga_cmd.specs.declared.page.PageKey.{PageKey}
use Rattle.svga_cmd.specs.declared.page.PageKey.TheVariants.{Guest, Frame}
use Rattle.svga_model.specs.Regions.{Places, Regions, defined_places, frame_places, places_of}
use Rattle.svga_model.specs.Runs.{in_regions}
use Rattle.svga_model.specs.States.{Kept, frame_pages}
use Rattle.svga_model.specs.Touches.{has_page, is_page}
use Rattle.svga_region.specs.Conditions.{HasPlace}

or_false : (b : Bool) → (b || false) ≡ b
or_false true = refl
or_false false = refl

or_true : (b : Bool) → (b || true) ≡ true
or_true true = refl
or_true false = refl

or_assoc : (a b c : Bool) → ((a || b) || c) ≡ (a || (b || c))
or_assoc true b c = refl
or_assoc false b c = refl

-- nothing is marked where no page passes
pub marked_none : (test : PageKey → Bool) (xs : List Bool) → ((key : PageKey) → test key ≡ false) → AreMarked test xs xs
marked_none test xs none = λ p less. sym
    (ap (λ b. get_or xs p false || b) (none (Guest p)) ∙ or_false (get_or xs p false))

-- marks by one test and then by another
pub marked_then : (first second both : PageKey → Bool) (xs ys zs : List Bool) → length ys ≡ length xs
    → ((key : PageKey) → both key ≡ (first key || second key)) → AreMarked first xs ys → AreMarked second ys zs
    → AreMarked both xs zs
marked_then first second both xs ys zs same is one two = λ p less.
    two p (omega (arith, same, less)) ∙ ap (λ b. b || second (Guest p)) (one p less)
    ∙ or_assoc (get_or xs p false) (first (Guest p)) (second (Guest p))
    ∙ ap (λ b. get_or xs p false || b) (sym (is (Guest p)))

-- guest pages by their numbers
guest_page : (p q : ℕ) → is_page (Guest p) (Some (Guest q)) ≡ (p == q)
unfolding key_cmp
guest_page p q = unsigned_tied p q

frame_page : (p q : ℕ) → is_page (Guest p) (Some (Frame q)) ≡ false
unfolding key_cmp
frame_page p q = refl

-- the answer at a number after one is marked
set_at : (xs : List Bool) (q p : ℕ) (same : Bool) → q < length xs → (p == q) ≡ same
    → get_or (set xs q true) p false ≡ (get_or xs p false || same)
set_at xs q p true less e =
    let is : q ≡ p = grind (arith, nat_tests, e) in
    ap (λ n. get_or (set xs q true) n false) (sym is) ∙ get_or-set_same xs q true false less
    ∙ sym (or_true (get_or xs p false))
set_at xs q p false less e =
    let ne : p ≢ q = grind (arith, nat_tests, e) in
    get_or-set_other xs q p true false ne ∙ sym (or_false (get_or xs p false))

-- a place that is mapped to a guest page
pub marked_guest : (xs : List Bool) (q : ℕ) → q < length xs
    → AreMarked (λ key. is_page key (Some (Guest q))) xs (set xs q true)
marked_guest xs q less = λ p within. set_at xs q p (p == q) less refl
    ∙ ap (λ b. get_or xs p false || b) (sym (guest_page p q))

-- one that isn't
pub marked_other : (xs : List Bool) (place : Option PageKey) → ((p : ℕ) → place ≡ Some (Guest p) → ⊥)
    → AreMarked (λ key. is_page key place) xs xs
marked_other xs None other = λ p within. sym (or_false (get_or xs p false))
marked_other xs (Some (Guest q)) other = absurd (other q refl)
marked_other xs (Some (Frame q)) other =
    λ p within. sym (ap (λ b. get_or xs p false || b) (frame_page p q) ∙ or_false (get_or xs p false))

pub not_guest : (place : Option PageKey) (q : ℕ) → place ≡ Some (Frame q) → (p : ℕ) → place ≡ Some (Guest p) → ⊥
not_guest place q frame p guest = cc

pub not_none : (place : Option PageKey) → place ≡ None → (p : ℕ) → place ≡ Some (Guest p) → ⊥
not_none place none p guest = cc

-- some of the first places is mapped to the page
abbrev pub in_places : Places → ℕ → PageKey → Bool
in_places places count key = list_any (is_page key) (take count places)

pub in_places-next : (places : Places) (k : ℕ) (place : Option PageKey) (key : PageKey) → k < length places
    → place ≡ slice_index_or places k None
    → in_places places (k + 1) key ≡ (in_places places k key || is_page key place)
in_places-next places k place key less is = list_any_more (is_page key) places k None less
    ∙ ap (λ o. in_places places k key || is_page key o) (sym is)

-- one place more
pub marked_next : (xs ys zs : List Bool) (places : Places) (k : ℕ) (place : Option PageKey) → length ys ≡ length xs
    → k < length places
    → place ≡ slice_index_or places k None → AreMarked (in_places places k) xs ys
    → AreMarked (λ key. is_page key place) ys zs
    → AreMarked (in_places places (k + 1)) xs zs
marked_next xs ys zs places k place same less is one two =
    marked_then (in_places places k) (λ key. is_page key place) (in_places places (k + 1)) xs ys zs same
    (λ key. in_places-next places k place key less is) one two

-- all places
pub marked_all : (xs ys : List Bool) (places : Places) (k : ℕ) → length places ≤ k
    → AreMarked (in_places places k) xs ys → AreMarked (has_page places) xs ys
unfolding has_page
marked_all xs ys places k past marked = λ p less. marked p less
    ∙ ap (λ t. get_or xs p false || list_any (is_page (Guest p)) t) (take_all k places past)

-- no place
pub marked_nowhere : (xs : List Bool) (places : Places) → places ≡ [] → AreMarked (has_page places) xs xs
unfolding has_page
marked_nowhere xs places none = marked_none (has_page places) xs (λ key. ap (list_any (is_page key)) none)

-- one region more
in_first-next : (regions : Regions) (id : ℕ) (key : PageKey)
    → in_first regions (id + 1) key ≡ (in_first regions id key || has_page (defined_list regions id) key)
unfolding in_first
in_first-next regions id key =
    let test : ℕ → Bool = λ n. has_page (defined_list regions n) key in
    ap (list_any test) (range-next id) ∙ list_any-append test (range_with_len 0 id) (id ∷ [])
    ∙ ap (λ b. list_any test (range_with_len 0 id) || b) (or_false (test id))

pub marked_region : (xs ys zs : List Bool) (regions : Regions) (id : ℕ) → length ys ≡ length xs
    → AreMarked (in_first regions id) xs ys
    → AreMarked (has_page (defined_list regions id)) ys zs → AreMarked (in_first regions (id + 1)) xs zs
marked_region xs ys zs regions id same one two =
    marked_then (in_first regions id) (has_page (defined_list regions id)) (in_first regions (id + 1)) xs ys zs same
    (in_first-next regions id) one two

-- no region
pub marked_begin : (xs : List Bool) (regions : Regions) → AreMarked (in_first regions 0) xs xs
unfolding in_first
marked_begin xs regions = marked_none (in_first regions 0) xs (λ key. refl)

-- the regions by the ids that commands may use
pub places_small : (frame : ℕ) (regions : Regions) (id : ℕ) → id < REGION_IDS
    → places_of frame regions id ≡ defined_places regions id
places_small frame regions id less = ap (λ t. cond t (Some (frame_places frame)) (defined_places regions id))
    (let t : (id == SVGA_GMR_FRAMEBUFFER) ≡ false = grind (arith, nat_tests) in t)

-- their lengths
pub length_some : (o : Option Places) (count : ℕ) → Some count ≡ option_map length o → length (unwrap_or o []) ≡ count
length_some None count e = cc
length_some (Some places) count e = cc

pub length_none : (o : Option Places) → None ≡ option_map length o → unwrap_or o [] ≡ []
length_none None e = refl
length_none (Some places) e = cc

pub has_place : (o : Option Places) (count k : ℕ) → Some count ≡ option_map length o → k < count → HasPlace o k
has_place None count k e less = cc
has_place (Some places) count k e less = let n : count ≡ length places = cc in omega (arith, n, less)

-- no guest page is one of the framebuffer's
not_in_frame : (p : ℕ) (ns : List ℕ) → list_any (is_page (Guest p)) (map_list (λ n. Some (Frame n)) ns) ≡ false
not_in_frame p [] = refl
not_in_frame p (n ∷ ns) = ap (λ b. b || list_any (is_page (Guest p)) (map_list (λ n. Some (Frame n)) ns))
    (frame_page p n) ∙ not_in_frame p ns

guest_outside : (frame p : ℕ) → has_page (frame_places frame) (Guest p) ≡ false
unfolding has_page
guest_outside frame p = not_in_frame p (range_with_len 0 frame)

-- so it stands in a region that commands define, or in none
in_regions-guest : (k : Kept) (p : ℕ) → in_regions k (Guest p) ≡ in_first k.regions REGION_IDS (Guest p)
unfolding in_regions in_first
in_regions-guest k p =
    let test : ℕ → Bool = λ id. has_page (defined_list k.regions id) (Guest p) in
    ap (λ b. b || list_any test (range_with_len 0 REGION_IDS)) (guest_outside (frame_pages k) p)

get_or-replicate : (n p : ℕ) → get_or (replicate n false) p false ≡ false
get_or-replicate zero p = refl
get_or-replicate (suc n) zero = refl
get_or-replicate (suc n) (suc p) = get_or-replicate n p

length-falses : (n : ℕ) → length (replicate n false) ≡ n
length-falses zero = refl
length-falses (suc n) = ap suc (length-falses n)

-- the answers are there where all regions are marked
pub marked_mapped : (k : Kept) (before now : List Bool) → before ≡ replicate k.limits.pages false
    → length now ≡ length before
    → AreMarked (in_first k.regions REGION_IDS) before now → AreMapped k now
marked_mapped k before now begins same marked =
    let n = k.limits.pages in
    let f : ℕ → Bool = λ p. in_regions k (Guest p) in
    let size : length now ≡ n = same ∙ ap length begins ∙ length-falses n in
    ext_get_or false now (map_list f (range_with_len 0 n)) (size ∙ sym (length-map-range_with_len f 0 n))
    (λ p less. marked p (omega (arith, same, less))
    ∙ ap (λ b. b || in_first k.regions REGION_IDS (Guest p)) (ap (λ xs. get_or xs p false) begins ∙ get_or-replicate n p)
    ∙ sym (in_regions-guest k p) ∙ sym
    (get_or-map-range_with_len f 0 n p p false (omega (arith, size, less)) (omega arith)))
