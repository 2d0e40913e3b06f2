-- Each page that an act touches is met: it stands in a region or on the act's walk.
use Rattle.std.proofs.Common.{◌≡◌, ◌⊎◌, inl, inr, ℕ, zero, suc, ◌+◌, ◌<◌, refl, ap, subst, List, [], ◌∷◌, Bool, true, false, cond, ◌||◌, ◌&&◌, ◌==◌, nat_lt, Option, Some, None, option_and_then, unwrap_or, arith}
use Rattle.std.proofs.lemmas.Bool.Decides.{nat_tests}
use Rattle.std.specs.FinMap as map
use Rattle.std.specs.List.{list_any, range_with_len}
use Rattle.svga_cmd.specs.declared.constants.TheConstants.{MAX_REGION_ID, REGION_IDS, SVGA_GMR_FRAMEBUFFER}
use Rattle.svga_cmd.specs.declared.page.PageKey.{PageKey}
use Rattle.svga_model.specs.Acts.{Act, Do, Put, Chain}
use Rattle.svga_model.specs.Faults.{is_admissible}
use Rattle.svga_model.specs.Regions.{Regions, defined_places, frame_places, places_of}
use Rattle.svga_model.specs.Runs.{in_regions, is_met, on_walk}
use Rattle.svga_model.specs.States.{Kept, State, frame_pages}
use Rattle.svga_model.specs.Steps.{step}
use Rattle.svga_model.specs.Touches.{Touches, has_page, touched_region}
use Rattle.svga_model.proofs.TouchPages.{or_true}

-- a number of a range that passes a test
any_from : (test : ℕ → Bool) (a n k j : ℕ)
    → k < n → a + k ≡ j → test j ≡ true → list_any test (range_with_len a n) ≡ true
any_from test a zero k j l at e = absurd (omega (arith, l))
any_from test a (suc n) zero j l at e =
    let is : j ≡ a = omega (arith, at) in
    ap (λ b. b || list_any test (range_with_len (a + 1) n)) (subst (λ i. test i ≡ true) is e)
any_from test a (suc n) (suc k) j l at e =
    or_true (test a) (list_any test (range_with_len (a + 1) n))
    (any_from test (a + 1) n k j (omega (arith, l)) (omega (arith, at)) e)

-- the same behind another test
any_behind : (first : Bool) (test : ℕ → Bool) (n k : ℕ)
    → k < n → test k ≡ true → (first || list_any test (range_with_len 0 n)) ≡ true
any_behind first test n k l e =
    or_true first (list_any test (range_with_len 0 n)) (any_from test 0 n k k l (omega arith) e)

-- a region of no places has no page
no_page : (key : PageKey) → has_page [] key ≡ true → ⊥
unfolding has_page
no_page key has = cc has

-- the id of a region with a page
small_id : (regions : Regions) (id : ℕ) (key : PageKey)
    → has_page (unwrap_or (defined_places regions id) []) key ≡ true → id < REGION_IDS
small_id regions id key has = go (nat_lt MAX_REGION_ID id) refl has where
  go : (over : Bool) → nat_lt MAX_REGION_ID id ≡ over
      → has_page (unwrap_or (cond over None (map.get regions id)) []) key ≡ true → id < REGION_IDS
  go true e h = absurd (no_page key h)
  go false e h = grind (arith, nat_tests, e)

-- a page of the framebuffer
in_frame : (k : Kept) (key : PageKey) → has_page (frame_places (frame_pages k)) key ≡ true → in_regions k key ≡ true
unfolding in_regions
in_frame k key has =
    let id_has : ℕ → Bool = λ id. has_page (unwrap_or (defined_places k.regions id) []) key in
    ap (λ b. b || list_any id_has (range_with_len 0 REGION_IDS)) has

-- a page of a region that was defined
in_defined : (k : Kept) (id : ℕ) (key : PageKey)
    → has_page (unwrap_or (defined_places k.regions id) []) key ≡ true → in_regions k key ≡ true
unfolding in_regions
in_defined k id key has =
    any_behind (has_page (frame_places (frame_pages k)) key)
    (λ i. has_page (unwrap_or (defined_places k.regions i) []) key) REGION_IDS id (small_id k.regions id key has) has

-- a page of the region with this id, if there is one
in_some : (k : Kept) (id : Option ℕ) (key : PageKey)
    → has_page (unwrap_or (option_and_then (places_of (frame_pages k) k.regions) id) []) key ≡ true
    → in_regions k key ≡ true
in_some k None key has = absurd (no_page key has)
in_some k (Some id) key has = go (id == SVGA_GMR_FRAMEBUFFER) has where
  go : (is_frame : Bool)
      → has_page (unwrap_or (cond is_frame (Some (frame_places (frame_pages k))) (defined_places k.regions id)) []) key
      ≡ true → in_regions k key ≡ true
  go true = in_frame k key
  go false = in_defined k id key

-- each page that an act touches stands in a region or on the act's walk
pub touched_somewhere : (s : State) (act : Act) (key : PageKey)
    → Touches s act key → (in_regions s.kept key ≡ true) ⊎ (on_walk s act key ≡ true)
touched_somewhere s (Do c) key has = inl (in_some s.kept (touched_region s.kept.gmrfb c) key has)
touched_somewhere s (Put other bytes) key has = absurd (cc has)
touched_somewhere s (Chain id first) key has = inr has

-- one of the first two tests is true
met_at_once : (a b c : Bool) → (a ≡ true) ⊎ (b ≡ true) → (a || b || c) ≡ true
met_at_once true b c h = refl
met_at_once false true c h = refl
met_at_once false false c (inl e) = cc e
met_at_once false false c (inr e) = cc e

-- both parts of the third are
met_later : (a b c d : Bool) → c ≡ true → d ≡ true → (a || b || (c && d)) ≡ true
met_later true b c d e f = refl
met_later false true c d e f = refl
met_later false false true d e f = f
met_later false false false d e f = cc e

-- a run meets the pages that its first act touches
pub touched_met : (s : State) (act : Act) (acts : List Act) (key : PageKey)
    → Touches s act key → is_met s (act ∷ acts) key ≡ true
touched_met s act acts key has =
    met_at_once (in_regions s.kept key) (on_walk s act key) (is_admissible s act && is_met (step s act) acts key)
    (touched_somewhere s act key has)

-- it meets the pages that the rest of it meets
pub rest_met : (s : State) (act : Act) (acts : List Act) (key : PageKey)
    → is_admissible s act ≡ true → is_met (step s act) acts key ≡ true → is_met s (act ∷ acts) key ≡ true
rest_met s act acts key admits met =
    met_later (in_regions s.kept key) (on_walk s act key) (is_admissible s act) (is_met (step s act) acts key)
    admits met
