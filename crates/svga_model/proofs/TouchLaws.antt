-- An act other than a Put reads and writes the pages that it touches alone.
use Rattle.std.proofs.Common.{◌≡◌, refl, sym, ap, subst, ◌∙◌, ℕ, [], ◌∷◌, Bool, true, false, ◌||◌, ◌&&◌, not, cond, ◌==◌, nat_lt, Option, Some, None, option_map, option_and_then, unwrap_or}
use Rattle.std.specs.FinMap as map
use Rattle.svga_cmd.specs.declared.blit.Blit.{Blit}
use Rattle.svga_cmd.specs.declared.command.Command.TheVariants.{Update, Fence, DefineScreen, DestroyScreen, DefineGmrfb, BlitToScreen, BlitToGmrfb, DefineGmr2, RemapGmr2}
use Rattle.svga_cmd.specs.declared.constants.TheConstants.{MAX_DESCRIPTORS, MAX_REGION_ID}
use Rattle.svga_cmd.specs.declared.fault.Fault.TheVariants as fault
use Rattle.svga_cmd.specs.declared.gmrfb.Gmrfb.{Gmrfb}
use Rattle.svga_cmd.specs.declared.page.PageKey.{PageKey}
use Rattle.svga_cmd.specs.declared.remap.RemapData.{RemapData}
use Rattle.svga_cmd.specs.Pages.{Memory, page_at}
use Rattle.svga_model.specs.Acts.{Act, Do, Put, Chain}
use Rattle.svga_model.specs.BlitEffects.{blit_colour, blit_writes, repainted_screens, update_colour}
use Rattle.svga_model.specs.Faults.{fault_of, remap_judged, tests_by}
use Rattle.svga_model.specs.PointedNumbers.{Pointed, judged_in, needs_beyond, needs_unmapped, numbers_in, pointed}
use Rattle.svga_model.specs.Regions.{Places, Regions, frame_places, places_of, with_remap}
use Rattle.svga_model.specs.Standing.{least_standing}
use Rattle.svga_model.specs.States.{Kept, State, frame_pages, shape_of}
use Rattle.svga_model.specs.Steps.{places_for, read_back, remap_pages, shown, step}
use Rattle.svga_model.specs.Touches.{AgreeOn, IsPut, Touches, chain_walk, has_page, touches}
use Rattle.svga_model.specs.Walks.{Tables, chain_tests, given_tests, tables_of, walk, walk_outcome, with_chain, with_given}
use Rattle.svga_model.proofs.TouchPages.{SameOn, same_bytes}
use Rattle.svga_model.proofs.TouchWalks.{AreSameAt, is_entered, same_outcome, same_places, same_tables}
use Rattle.svga_model.proofs.TouchWrites.{written_agree, written_other}

-- the state of these parts
abbrev state_of : Kept → Memory → State
state_of k m = record { kept = k; memory = m }

-- a law of states that differ in their memories alone
between : (P : State → State → Type 0) → ((k : Kept) (m n : Memory) → P (state_of k m) (state_of k n))
    → (s t : State) → s.kept ≡ t.kept → P s t
between P law s t same = subst (λ k. P s (state_of k t.memory)) same (law s.kept s.memory t.memory)

-- the places of the region with this id, if there is one
abbrev places_at : Kept → Option ℕ → Places
places_at k id = unwrap_or (option_and_then (places_of (frame_pages k) k.regions) id) []

-- those of the region that page numbers are read from
abbrev pointed_places : Kept → Option Pointed → Places
pointed_places k at = places_at k (option_map (λ at. at.region) at)

-- those of a GMRFB's region
abbrev pub gmrfb_places : Kept → Option Gmrfb → Places
gmrfb_places k g = places_at k (option_map (λ g. g.region) g)

-- memories with the same on a region's pages have the same numbers there to be judged
judged_same : (m n : Memory) (places : Option Places) (at : Pointed) (pages : ℕ)
    → SameOn (unwrap_or places []) m n → judged_in m places at pages ≡ judged_in n places at pages
judged_same m n None at pages same = refl
judged_same m n (Some places) at pages same =
    let readable : Bool = not (needs_unmapped at pages places) && not (needs_beyond at pages places) in
    ap (λ bytes. cond readable (numbers_in bytes at pages) []) (same_bytes m n places same)

-- a remap is judged by the same numbers
remap_judged_same : (k : Kept) (m n : Memory) (entries : RemapData) (at : Option Pointed) (pages : ℕ)
    → SameOn (pointed_places k at) m n
    → remap_judged (state_of k m) entries at pages ≡ remap_judged (state_of k n) entries at pages
remap_judged_same k m n entries None pages same = refl
remap_judged_same k m n entries (Some at) pages same =
    judged_same m n (places_of (frame_pages k) k.regions at.region) at pages same

-- a remap gives the same numbers to its range
remap_pages_same : (k : Kept) (m n : Memory) (entries : RemapData) (at : Option Pointed) (pages : ℕ)
    → SameOn (pointed_places k at) m n
    → remap_pages (state_of k m) entries at pages ≡ remap_pages (state_of k n) entries at pages
remap_pages_same k m n entries None pages same = refl
remap_pages_same k m n entries (Some at) pages same =
    ap (λ bytes. numbers_in bytes at pages) (same_bytes m n (places_at k (Some at.region)) same)

-- tables that have the same where a chain's walk comes to them refuse it alike
chain_tests_same : (guest id first : ℕ) (regions : Regions) (a b : Tables)
    → AreSameAt a b (cond (first == 0) [] (walk guest a first))
    → chain_tests guest regions a id first ≡ chain_tests guest regions b id first
chain_tests_same guest id first regions a b same =
    ap (λ rules. (nat_lt MAX_REGION_ID id, fault.RegionId) ∷ rules) (go (nat_lt MAX_REGION_ID id) (first == 0) same)
  where
    go : (over none : Bool) → AreSameAt a b (cond none [] (walk guest a first))
        → cond (over || none) [] (given_tests regions id (walk_outcome guest a first))
        ≡ cond (over || none) [] (given_tests regions id (walk_outcome guest b first))
    go true none same = refl
    go false true same = refl
    go false false same = ap (given_tests regions id) (same_outcome guest a b first same)

-- it leaves the same regions
with_chain_same : (guest id first : ℕ) (regions : Regions) (a b : Tables)
    → AreSameAt a b (cond (first == 0) [] (walk guest a first))
    → with_chain guest regions a id first ≡ with_chain guest regions b id first
with_chain_same guest id first regions a b same = go (first == 0) same where
  go : (none : Bool) → AreSameAt a b (cond none [] (walk guest a first))
      → cond none (map.remove regions id) (with_given regions id (walk_outcome guest a first))
      ≡ cond none (map.remove regions id) (with_given regions id (walk_outcome guest b first))
  go true same = refl
  go false same = ap (with_given regions id) (same_outcome guest a b first same)

-- its walk is the same
chain_walk_same : (guest first : ℕ) (a b : Tables)
    → AreSameAt a b (cond (first == 0) [] (walk guest a first))
    → cond (first == 0) [] (walk guest a first) ≡ cond (first == 0) [] (walk guest b first)
chain_walk_same guest first a b same = go (first == 0) same where
  go : (none : Bool) → AreSameAt a b (cond none [] (walk guest a first))
      → cond none [] (walk guest a first) ≡ cond none [] (walk guest b first)
  go true same = refl
  go false same = same_places MAX_DESCRIPTORS guest a b (Some (record { table = first; pair = 0 })) same

-- memories with the same on the pages of a chain's walk have the same tables there
chain_tables : (k : Kept) (m n : Memory) (id first : ℕ)
    → AgreeOn (state_of k m) (state_of k n) (Chain id first)
    → AreSameAt (tables_of m) (tables_of n) (chain_walk (state_of k m) first)
chain_tables k m n id first same = same_tables m n (chain_walk (state_of k m) first) same

-- the fault of an act, where only the memories differ
fault_between : (act : Act) (k : Kept) (m n : Memory)
    → AgreeOn (state_of k m) (state_of k n) act → fault_of (state_of k m) act ≡ fault_of (state_of k n) act
unfolding fault_of
fault_between (Do (Update x y width height)) k m n same = refl
fault_between (Do (Fence value)) k m n same = refl
fault_between (Do (DefineScreen d)) k m n same = refl
fault_between (Do (DestroyScreen id)) k m n same = refl
fault_between (Do (DefineGmrfb g)) k m n same = refl
fault_between (Do (BlitToScreen b)) k m n same = refl
fault_between (Do (BlitToGmrfb b)) k m n same = refl
fault_between (Do (DefineGmr2 region pages)) k m n same = refl
fault_between (Do (RemapGmr2 region offset pages entries)) k m n same =
    ap (λ numbers. least_standing (tests_by (shape_of k) numbers (RemapGmr2 region offset pages entries)))
    (remap_judged_same k m n entries (pointed entries) pages same)
fault_between (Put key bytes) k m n same = refl
fault_between (Chain id first) k m n same =
    let tables = chain_tables k m n id first same in
    ap least_standing (chain_tests_same k.limits.pages id first k.regions (tables_of m) (tables_of n) tables)

-- the fault of an act depends on the pages that it touches alone
pub same_fault : (s t : State) (act : Act) → s.kept ≡ t.kept → AgreeOn s t act → fault_of s act ≡ fault_of t act
same_fault s t act = between (λ u v. AgreeOn u v act → fault_of u act ≡ fault_of v act) (fault_between act) s t

-- what an act touches, where only the memories differ
touches_between : (act : Act) (key : PageKey) (k : Kept) (m n : Memory)
    → AgreeOn (state_of k m) (state_of k n) act → touches (state_of k m) act key ≡ touches (state_of k n) act key
touches_between (Do c) key k m n same = refl
touches_between (Put other bytes) key k m n same = refl
touches_between (Chain id first) key k m n same =
    let tables = chain_tables k m n id first same in
    ap (is_entered key) (chain_walk_same k.limits.pages first (tables_of m) (tables_of n) tables)

-- what an act touches depends on these pages alone
pub same_touches : (s t : State) (act : Act) (key : PageKey)
    → s.kept ≡ t.kept → AgreeOn s t act → touches s act key ≡ touches t act key
same_touches s t act key =
    between (λ u v. AgreeOn u v act → touches u act key ≡ touches v act key) (touches_between act key) s t

-- a blit to the screen shows the same
shown_same : (k : Kept) (m n : Memory) (g : Option Gmrfb) (b : Blit)
    → SameOn (gmrfb_places k g) m n → (shown (state_of k m) g b).kept ≡ (shown (state_of k n) g b).kept
shown_same k m n None b same = refl
shown_same k m n (Some g) b same =
    ap (λ bytes. record k { screens = repainted_screens (blit_colour bytes g b) k.screens })
    (same_bytes m n (gmrfb_places k (Some g)) same)

-- it leaves the memory
pub shown_memory : (s : State) (g : Option Gmrfb) (b : Blit) → (shown s g b).memory ≡ s.memory
shown_memory s None b = refl
shown_memory s (Some g) b = refl

-- a blit back leaves all but the memory
read_back_kept : (s : State) (g : Option Gmrfb) (b : Blit) → (read_back s g b).kept ≡ s.kept
read_back_kept s None b = refl
read_back_kept s (Some g) b = refl

-- what an act leaves beside the memory, where only the memories differ
kept_between : (act : Act) (k : Kept) (m n : Memory)
    → AgreeOn (state_of k m) (state_of k n) act → (step (state_of k m) act).kept ≡ (step (state_of k n) act).kept
kept_between (Do (Update x y width height)) k m n same =
    ap (λ bytes. record k { screens = repainted_screens (λ id. update_colour bytes k.limits x y width height) k.screens })
    (same_bytes m n (frame_places (frame_pages k)) same)
kept_between (Do (Fence value)) k m n same = refl
kept_between (Do (DefineScreen d)) k m n same = refl
kept_between (Do (DestroyScreen id)) k m n same = refl
kept_between (Do (DefineGmrfb g)) k m n same = refl
kept_between (Do (BlitToScreen b)) k m n same = shown_same k m n k.gmrfb b same
kept_between (Do (BlitToGmrfb b)) k m n same =
    read_back_kept (state_of k m) k.gmrfb b ∙ sym (read_back_kept (state_of k n) k.gmrfb b)
kept_between (Do (DefineGmr2 region pages)) k m n same = refl
kept_between (Do (RemapGmr2 region offset pages entries)) k m n same =
    ap (λ numbers. record k { regions = with_remap k.regions region offset numbers })
    (remap_pages_same k m n entries (pointed entries) pages same)
kept_between (Put key bytes) k m n same = refl
kept_between (Chain id first) k m n same =
    let tables = chain_tables k m n id first same in
    ap (λ regions. record k { regions = regions })
    (with_chain_same k.limits.pages id first k.regions (tables_of m) (tables_of n) tables)

-- what an act leaves beside the memory depends on the pages that it touches alone
pub same_kept : (s t : State) (act : Act)
    → s.kept ≡ t.kept → AgreeOn s t act → (step s act).kept ≡ (step t act).kept
same_kept s t act = between (λ u v. AgreeOn u v act → (step u act).kept ≡ (step v act).kept) (kept_between act) s t

-- a blit back leaves the same on its region's pages
read_back_same : (k : Kept) (m n : Memory) (g : Option Gmrfb) (b : Blit)
    → SameOn (gmrfb_places k g) m n
    → SameOn (gmrfb_places k g) (read_back (state_of k m) g b).memory (read_back (state_of k n) g b).memory
read_back_same k m n None b same = same
read_back_same k m n (Some g) b same =
    written_agree (gmrfb_places k (Some g)) m n (blit_writes k.screens g b) same

-- the pages that an act touches, where only the memories differ
pages_between : (act : Act) (k : Kept) (m n : Memory)
    → AgreeOn (state_of k m) (state_of k n) act → (key : PageKey) → Touches (state_of k m) act key
    → page_at (step (state_of k m) act).memory key ≡ page_at (step (state_of k n) act).memory key
pages_between (Do (Update x y width height)) k m n same = same
pages_between (Do (Fence value)) k m n same = same
pages_between (Do (DefineScreen d)) k m n same = same
pages_between (Do (DestroyScreen id)) k m n same = same
pages_between (Do (DefineGmrfb g)) k m n same = same
pages_between (Do (BlitToScreen b)) k m n same = λ key has.
    ap (λ memory. page_at memory key) (shown_memory (state_of k m) k.gmrfb b)
    ∙ (same key has ∙ ap (λ memory. page_at memory key) (sym (shown_memory (state_of k n) k.gmrfb b)))
pages_between (Do (BlitToGmrfb b)) k m n same = read_back_same k m n k.gmrfb b same
pages_between (Do (DefineGmr2 region pages)) k m n same = same
pages_between (Do (RemapGmr2 region offset pages entries)) k m n same = same
pages_between (Put other bytes) k m n same = λ key has. absurd (cc has)
pages_between (Chain id first) k m n same = same

-- what an act leaves on the pages that it touches depends on them alone
pub same_pages : (s t : State) (act : Act) (key : PageKey)
    → s.kept ≡ t.kept → AgreeOn s t act → Touches s act key
    → page_at (step s act).memory key ≡ page_at (step t act).memory key
same_pages s t act key kept same has = between
    (λ u v. AgreeOn u v act → (q : PageKey) → Touches u act q → page_at (step u act).memory q ≡ page_at (step v act).memory q)
    (pages_between act) s t kept same key has

-- a blit back leaves the pages that aren't its region's
read_back_other : (s : State) (g : Option Gmrfb) (b : Blit) (key : PageKey)
    → (has_page (gmrfb_places s.kept g) key ≡ true → ⊥) → page_at (read_back s g b).memory key ≡ page_at s.memory key
read_back_other s None b key off = refl
read_back_other s (Some g) b key off =
    written_other (places_for s g) s.memory (blit_writes s.kept.screens g b) key off

-- an act leaves the pages that it doesn't touch
pub other_pages : (s : State) (act : Act) (key : PageKey)
    → (IsPut act → ⊥) → (Touches s act key → ⊥) → page_at (step s act).memory key ≡ page_at s.memory key
other_pages s (Do (Update x y width height)) key no_put off = refl
other_pages s (Do (Fence value)) key no_put off = refl
other_pages s (Do (DefineScreen d)) key no_put off = refl
other_pages s (Do (DestroyScreen id)) key no_put off = refl
other_pages s (Do (DefineGmrfb g)) key no_put off = refl
other_pages s (Do (BlitToScreen b)) key no_put off =
    ap (λ memory. page_at memory key) (shown_memory s s.kept.gmrfb b)
other_pages s (Do (BlitToGmrfb b)) key no_put off = read_back_other s s.kept.gmrfb b key off
other_pages s (Do (DefineGmr2 region pages)) key no_put off = refl
other_pages s (Do (RemapGmr2 region offset pages entries)) key no_put off = refl
other_pages s (Put other bytes) key no_put off = absurd (no_put tt)
other_pages s (Chain id first) key no_put off = refl
