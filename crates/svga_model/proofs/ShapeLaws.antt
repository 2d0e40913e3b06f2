-- What can be told of a command's fault without bytes.
use Rattle.std.proofs.Common.{◌≡◌, ◌⊎◌, inl, inr, ℕ, ◌+◌, Bool, true, false, cond, List, [], ◌∷◌, ◌++◌, refl, sym, ap, subst, ◌∙◌, Option, Some, None, is_none, is_some, nat_lt, nat_le, not, ◌==◌, ◌&&◌, arith}
use Rattle.std.proofs.lemmas.Bool.Decides.{nat_tests}
use Rattle.std.specs.FinMap as map
use Rattle.std.specs.List.{list_any}
use Rattle.svga_cmd.specs.Limits.{frame_page_count}
use Rattle.svga_cmd.specs.Pages.{Memory}
use Rattle.svga_cmd.specs.declared.command.Command.{Command}
use Rattle.svga_cmd.specs.declared.command.Command.TheVariants.{Update, Fence, DefineScreen, DestroyScreen, DefineGmrfb, BlitToScreen, BlitToGmrfb, DefineGmr2, RemapGmr2}
use Rattle.svga_cmd.specs.declared.constants.TheConstants.{MAX_REGION_ID, SVGA_GMR_FRAMEBUFFER, SVGA_GMR_NULL}
use Rattle.svga_cmd.specs.declared.fault.Fault.{Fault}
use Rattle.svga_cmd.specs.declared.fault.Fault.TheVariants as fault
use Rattle.svga_cmd.specs.declared.remap.RemapData.TheVariants.{Ppn32, Ppn64, SinglePpn32, SinglePpn64, ViaGmr32, ViaGmr64}
use Rattle.svga_model.specs.Acts.{Do}
use Rattle.svga_model.specs.Faults.{ReadsNumbers, act_tests, shape_tests}
use Rattle.svga_model.specs.Memories.{region_byte}
use Rattle.svga_model.specs.PointedNumbers.{Pointed, judged_in, needs_beyond, needs_unmapped, numbers_in, numbers_judged, pointed_by, pointer_tests}
use Rattle.svga_model.specs.RegionBytes.{holds_of}
use Rattle.svga_model.specs.Regions.{Places, Regions, defined_places, frame_places, places_of, region_length, remap_tests}
use Rattle.svga_model.specs.Standing.{least_standing}
use Rattle.svga_model.specs.States.{State, shape_of}

-- the tests of a remap by VIA_GMR, by their answers: three on the region, one on numbers, four on the pointer
abbrev via : Bool → Bool → Bool → Bool → Bool → Bool → Bool → Bool → List (Bool × Fault)
via none id range bad SVGA_GMR_NULL region_id unmapped beyond =
    (none, fault.NoRegion) ∷ (id, fault.RegionId) ∷ (range, fault.RangeBeyond) ∷ (bad, fault.BadPage)
    ∷ (SVGA_GMR_NULL, fault.NoRegion) ∷ (region_id, fault.RegionId) ∷ (unmapped, fault.Unmapped) ∷ (beyond, fault.BeyondRegion) ∷ []

-- what the numbers add to an answer: nothing to a fault, and at most their own fault to none
abbrev pub Adds : Option Fault → Option Fault → Type 0
Adds None after = (after ≡ None) ⊎ (after ≡ Some fault.BadPage)
Adds (Some f) after = after ≡ Some f

-- a bad number beside the three tests on the region
bad_adds : (none id range : Bool) → Adds (least_standing (via none id range false false false false false)) (least_standing (via none id range true false false false false))
bad_adds true true true = refl
bad_adds true true false = refl
bad_adds true false true = refl
bad_adds true false false = refl
bad_adds false true true = refl
bad_adds false true false = refl
bad_adds false false true = refl
bad_adds false false false = inr refl

-- an answer adds nothing to itself
adds_none : (o : Option Fault) → Adds o o
adds_none None = inl refl
adds_none (Some f) = refl

-- numbers are judged only where no rule on the pointer stands
pub record IsGood (frame : ℕ) (regions : Regions) (at : Pointed) (pages : ℕ) : Type 0 where
  pub defined : (nat_le at.region MAX_REGION_ID && is_none (defined_places regions at.region)) ≡ false
  pub known : (nat_lt MAX_REGION_ID at.region && not (at.region == SVGA_GMR_FRAMEBUFFER)) ≡ false
  pub mapped : holds_of (places_of frame regions at.region) (needs_unmapped at pages) ≡ false
  pub inside : holds_of (places_of frame regions at.region) (needs_beyond at pages) ≡ false

-- a test for the id of a region that is there
known_id : (frame : ℕ) (regions : Regions) (id : ℕ) (small same : Bool) (places : Places) → nat_le id MAX_REGION_ID ≡ small → (id == SVGA_GMR_FRAMEBUFFER) ≡ same → places_of frame regions id ≡ Some places
    → ((nat_le id MAX_REGION_ID && is_none (defined_places regions id)) ≡ false) × ((nat_lt MAX_REGION_ID id && not (id == SVGA_GMR_FRAMEBUFFER)) ≡ false)
known_id frame regions id true true places l e there = absurd (grind (arith, nat_tests))
known_id frame regions id true false places l e there =
    let is : defined_places regions id ≡ Some places = sym (ap (λ b. cond b (Some (frame_places frame)) (defined_places regions id)) e) ∙ there in
    ((λ i. l i && is_none (is i)), ap (λ b. b && not (id == SVGA_GMR_FRAMEBUFFER)) (let low : nat_lt MAX_REGION_ID id ≡ false = grind (arith, nat_tests) in low))
known_id frame regions id false true places l e there = (ap (λ b. b && is_none (defined_places regions id)) l, (λ i. nat_lt MAX_REGION_ID id && not (e i)) ∙ and_false (nat_lt MAX_REGION_ID id)) where
  and_false : (b : Bool) → (b && false) ≡ false
  and_false true = refl
  and_false false = refl
known_id frame regions id false false places l e there =
    let high : nat_lt MAX_REGION_ID id ≡ true = grind (arith, nat_tests) in
    let none : defined_places regions id ≡ None = ap (λ b. cond b None (map.get regions id)) high in
    let is : defined_places regions id ≡ Some places = sym (ap (λ b. cond b (Some (frame_places frame)) (defined_places regions id)) e) ∙ there in
    absurd (cc (none, is))

-- by what is unmapped and what is beyond among the places that are there
judged_good : (m : Memory) (places : Places) (at : Pointed) (pages guest : ℕ) (unmapped beyond : Bool) → needs_unmapped at pages places ≡ unmapped → needs_beyond at pages places ≡ beyond
    → list_any (λ n. nat_le guest n) (judged_in m (Some places) at pages) ≡ true → (unmapped ≡ false) × (beyond ≡ false)
judged_good m places at pages guest false false u b bad = (refl, refl)
judged_good m places at pages guest true beyond u b bad =
    let none : list_any (λ n. nat_le guest n) (judged_in m (Some places) at pages) ≡ false =
    ap (λ t. list_any (λ n. nat_le guest n) (cond (not t && not (needs_beyond at pages places)) (numbers_in (region_byte m places) at pages) [])) u in
    absurd (cc (none, bad))
judged_good m places at pages guest false true u b bad =
    let none : list_any (λ n. nat_le guest n) (judged_in m (Some places) at pages) ≡ false =
    λ i. list_any (λ n. nat_le guest n) (cond (not (u i) && not (b i)) (numbers_in (region_byte m places) at pages) []) in
    absurd (cc (none, bad))

-- a bad number was judged, so the pointer is good
bad_good : (frame : ℕ) (regions : Regions) (m : Memory) (at : Pointed) (pages guest : ℕ) (there : Option Places) → places_of frame regions at.region ≡ there
    → list_any (λ n. nat_le guest n) (judged_in m there at pages) ≡ true → IsGood frame regions at pages
bad_good frame regions m at pages guest None e bad = absurd cc
bad_good frame regions m at pages guest (Some places) e bad =
    let id = known_id frame regions at.region (nat_le at.region MAX_REGION_ID) (at.region == SVGA_GMR_FRAMEBUFFER) places refl refl e in
    let bytes = judged_good m places at pages guest (needs_unmapped at pages places) (needs_beyond at pages places) refl refl bad in record {
      defined = id.0;
      known = id.1;
      mapped = ap (λ o. holds_of o (needs_unmapped at pages)) e ∙ bytes.0;
      inside = ap (λ o. holds_of o (needs_beyond at pages)) e ∙ bytes.1;
    }

-- what the judged numbers add to the rules that need none
pub numbers_add : (s : State) (id offset pages : ℕ) (at : Pointed) (bad : Bool)
    → list_any (λ n. nat_le s.kept.limits.pages n) (numbers_judged (frame_page_count s.kept.limits) s.kept.regions s.memory at pages) ≡ bad
    → Adds (least_standing (remap_tests s.kept.limits.pages s.kept.regions id offset pages [] ++ pointer_tests (frame_page_count s.kept.limits) s.kept.regions at pages))
    (least_standing (remap_tests s.kept.limits.pages s.kept.regions id offset pages (numbers_judged (frame_page_count s.kept.limits) s.kept.regions s.memory at pages)
    ++ pointer_tests (frame_page_count s.kept.limits) s.kept.regions at pages))
numbers_add s id offset pages at false e =
    let frame = frame_page_count s.kept.limits in
    let none = nat_le id MAX_REGION_ID && is_none (defined_places s.kept.regions id) in
    let range = is_some (defined_places s.kept.regions id) && nat_lt (region_length s.kept.regions id) (offset + pages) in
    subst (λ b. Adds (least_standing ((none, fault.NoRegion) ∷ (nat_lt MAX_REGION_ID id, fault.RegionId) ∷ (range, fault.RangeBeyond) ∷ (false, fault.BadPage) ∷ pointer_tests frame s.kept.regions at pages))
    (least_standing ((none, fault.NoRegion) ∷ (nat_lt MAX_REGION_ID id, fault.RegionId) ∷ (range, fault.RangeBeyond) ∷ (b, fault.BadPage) ∷ pointer_tests frame s.kept.regions at pages)))
    (sym e) (adds_none _)
numbers_add s id offset pages at true e =
    let frame = frame_page_count s.kept.limits in
    let none = nat_le id MAX_REGION_ID && is_none (defined_places s.kept.regions id) in
    let range = is_some (defined_places s.kept.regions id) && nat_lt (region_length s.kept.regions id) (offset + pages) in
    let good = bad_good frame s.kept.regions s.memory at pages s.kept.limits.pages (places_of frame s.kept.regions at.region) refl e in
    added none (nat_lt MAX_REGION_ID id) range _ _ _ _ _ e good.defined good.known good.mapped good.inside
  where
    added : (none id range bad a b c d : Bool) → bad ≡ true → a ≡ false → b ≡ false → c ≡ false → d ≡ false
        → Adds (least_standing (via none id range false a b c d)) (least_standing (via none id range bad a b c d))
    added none id range true false false false false t a b c d = bad_adds none id range
    added none id range false a b c d t e f g h = absurd cc
    added none id range true true b c d t e f g h = absurd cc
    added none id range true false true c d t e f g h = absurd cc
    added none id range true false false true d t e f g h = absurd cc
    added none id range true false false false true t e f g h = absurd cc

-- and for every command
pub bytes_add : (s : State) (c : Command) → Adds (least_standing (shape_tests (shape_of s.kept) c)) (least_standing (act_tests s (Do c)))
bytes_add s (Update x y width height) = adds_none None
bytes_add s (Fence value) = adds_none None
bytes_add s (DefineScreen d) = adds_none _
bytes_add s (DestroyScreen id) = adds_none _
bytes_add s (DefineGmrfb g) = adds_none _
bytes_add s (BlitToScreen b) = adds_none _
bytes_add s (BlitToGmrfb b) = adds_none _
bytes_add s (DefineGmr2 region pages) = adds_none _
bytes_add s (RemapGmr2 region offset pages (Ppn32 list)) = adds_none _
bytes_add s (RemapGmr2 region offset pages (Ppn64 list)) = adds_none _
bytes_add s (RemapGmr2 region offset pages (SinglePpn32 page)) = adds_none _
bytes_add s (RemapGmr2 region offset pages (SinglePpn64 low high)) = adds_none _
bytes_add s (RemapGmr2 region offset pages (ViaGmr32 pointer)) = numbers_add s region offset pages (pointed_by 1 pointer) _ refl
bytes_add s (RemapGmr2 region offset pages (ViaGmr64 pointer)) = numbers_add s region offset pages (pointed_by 2 pointer) _ refl

-- a fault that is told stays
pub told_stays : (before after : Option Fault) (f : Fault) → Adds before after → before ≡ Some f → after ≡ Some f
told_stays None after f adds e = absurd cc
told_stays (Some g) after f adds e = adds ∙ e

pub none_adds : (before after told : Option Fault) → Adds before after → told ≡ after → before ≡ None → (told ≡ None) ⊎ (told ≡ Some fault.BadPage)
none_adds None after told (inl none) is e = inl (is ∙ none)
none_adds None after told (inr bad) is e = inr (is ∙ bad)
none_adds (Some g) after told adds is e = absurd cc

-- a command that reads no numbers is judged whole
pub judged_whole : (s : State) (c : Command) → (ReadsNumbers c → ⊥) → least_standing (act_tests s (Do c)) ≡ least_standing (shape_tests (shape_of s.kept) c)
judged_whole s (Update x y width height) named = refl
judged_whole s (Fence value) named = refl
judged_whole s (DefineScreen d) named = refl
judged_whole s (DestroyScreen id) named = refl
judged_whole s (DefineGmrfb g) named = refl
judged_whole s (BlitToScreen b) named = refl
judged_whole s (BlitToGmrfb b) named = refl
judged_whole s (DefineGmr2 region pages) named = refl
judged_whole s (RemapGmr2 region offset pages (Ppn32 list)) named = refl
judged_whole s (RemapGmr2 region offset pages (Ppn64 list)) named = refl
judged_whole s (RemapGmr2 region offset pages (SinglePpn32 page)) named = refl
judged_whole s (RemapGmr2 region offset pages (SinglePpn64 low high)) named = refl
judged_whole s (RemapGmr2 region offset pages (ViaGmr32 pointer)) named = absurd (named refl)
judged_whole s (RemapGmr2 region offset pages (ViaGmr64 pointer)) named = absurd (named refl)
