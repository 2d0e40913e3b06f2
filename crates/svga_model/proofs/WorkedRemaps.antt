-- The worked remap of a region by the numbers that it holds.
use Rattle.std.proofs.Common.{◌≡◌, ◌≢◌, ℕ, ◌+◌, ◌*◌, ◌^◌, ◌<◌, ◌∙◌, Bool, false, List, [], ◌∷◌, length, Option, Some, None}
use Rattle.std.proofs.Common.{slice_index, arith, ap}
use Rattle.std.specs.Prelude.{if◌then◌else◌, ◌&&◌, ◌||◌, is_none, is_some, nat_lt, nat_le, unwrap_or}
use Rattle.std.specs.Cmp.{nat_cmp_total}
use Rattle.std.specs.FinMap as map
use Rattle.std.specs.FinMap.{nat_cmp-IsAntisymmetric}
use Rattle.std.specs.List.{list_any}
use Rattle.std.proofs.lemmas.Bool.Decides.{nat_tests}
use Rattle.svga_cmd.proofs.Maps.{get_other, get_same}
use Rattle.svga_cmd.specs.Pages.{Memory}
use Rattle.svga_cmd.specs.declared.fault.Fault.{Fault}
use Rattle.svga_cmd.specs.declared.fault.Fault.TheVariants as fault
use Rattle.svga_cmd.specs.declared.page.PageKey.{PageKey}
use Rattle.svga_cmd.specs.declared.page.PageKey.TheVariants.{Guest}
use Rattle.svga_model.specs.Acts.{Do}
use Rattle.svga_model.specs.Faults.{IsAdmissible, fault_of}
use Rattle.svga_model.specs.Memories.{region_byte}
use Rattle.svga_model.specs.PointedNumbers.{Pointed, judged_in, needs_beyond, needs_unmapped, numbers_in}
use Rattle.svga_model.specs.RegionBytes.{holds_of}
use Rattle.svga_model.specs.Regions.{Places, guest_places, joined_words, remapped}
use Rattle.svga_model.specs.Standing.{least_standing}
use Rattle.svga_model.specs.States.{State}
use Rattle.svga_model.specs.Walks.{word_at}
use Rattle.svga_model.specs.Worked.{BeginsWith, after, remap_by_own, remap_by_own_64}

-- a number of one word, and one of two
one_word : (n : ℕ) → joined_words n 0 ≡ n
one_word n = omega arith

two_words : (low high : ℕ) → joined_words low (joined_words high 0) ≡ low + 2 ^ 32 * high
two_words low high = omega arith

-- where the numbers stand
abbrev pub own : ℕ → Pointed
own words = record { region = 1; offset = 0; words = words }

-- a region's two places after the remap, by those before
abbrev pub own_remapped : Memory → ℕ → Option Places → Places
own_remapped memory words o = remapped before 0 (guest_places (numbers_in (region_byte memory before) (own words) 2)) where
  before : Places
  before = unwrap_or o []

-- the word at byte i of a region
abbrev pub word_in : State → Places → ℕ → ℕ
word_in s places i = word_at (region_byte s.memory places) i

module _ (s : State) (p q : Option PageKey) where
  abbrev pub pair : Places
  pair = p ∷ q ∷ []

  pub own_places : (m n : ℕ) → BeginsWith s pair (m ∷ n ∷ [])
      → map.get (after s remap_by_own).kept.regions 1 ≡ Some (Some (Guest m) ∷ Some (Guest n) ∷ [])
  own_places m n is =
      get_same nat_cmp_total nat_cmp-IsAntisymmetric s.kept.regions 1 (own_remapped s.memory 1 (map.get s.kept.regions 1))
      ∙ ap (λ o. Some (own_remapped s.memory 1 o)) is.region
      ∙ (λ i. Some (Some (Guest (one_word (word_in s pair 0) i)) ∷ Some (Guest (one_word (word_in s pair 4) i)) ∷ []))
      ∙ ap (λ ws. Some (Some (Guest (slice_index ws 0)) ∷ Some (Guest (slice_index ws 1)) ∷ [])) is.each

  pub own_wide_places : (m high_m n high_n : ℕ) → BeginsWith s pair (m ∷ high_m ∷ n ∷ high_n ∷ [])
      → map.get (after s remap_by_own_64).kept.regions 1
      ≡ Some (Some (Guest (m + 2 ^ 32 * high_m)) ∷ Some (Guest (n + 2 ^ 32 * high_n)) ∷ [])
  own_wide_places m high_m n high_n is =
      get_same nat_cmp_total nat_cmp-IsAntisymmetric s.kept.regions 1 (own_remapped s.memory 2 (map.get s.kept.regions 1))
      ∙ ap (λ o. Some (own_remapped s.memory 2 o)) is.region
      ∙ (λ i. Some (Some (Guest (joined 0 i)) ∷ Some (Guest (joined 8 i)) ∷ []))
      ∙ ap (λ ws. Some (Some (Guest (wide ws 0)) ∷ Some (Guest (wide ws 2)) ∷ [])) is.each
    where
      wide : List ℕ → ℕ → ℕ
      wide ws k = slice_index ws k + 2 ^ 32 * slice_index ws (k + 1)

      word : ℕ → ℕ
      word i = word_in s pair i

      joined : (i : ℕ) → joined_words (word i) (joined_words (word (i + 4)) 0) ≡ word i + 2 ^ 32 * word (i + 4)
      joined i = two_words (word i) (word (i + 4))

-- other regions
pub own_others : (s : State) (id : ℕ) → id ≢ 1
    → map.get (after s remap_by_own).kept.regions id ≡ map.get s.kept.regions id
own_others s id away = get_other nat_cmp_total nat_cmp-IsAntisymmetric s.kept.regions 1 id
    (own_remapped s.memory 1 (map.get s.kept.regions 1)) away

-- the rules on the remap, by the region's places and how many guest pages there are
abbrev pub own_rules : ℕ → Memory → Option Places → List (Bool × Fault)
own_rules guest memory o =
    (is_none o, fault.NoRegion)
    ∷ (false, fault.RegionId)
    ∷ (is_some o && nat_lt (length (unwrap_or o [])) 2, fault.RangeBeyond)
    ∷ (list_any (λ n. nat_le guest n) (judged_in memory o (own 1) 2), fault.BadPage)
    ∷ (is_none o, fault.NoRegion)
    ∷ (false, fault.RegionId)
    ∷ (holds_of o (needs_unmapped (own 1) 2), fault.Unmapped)
    ∷ (holds_of o (needs_beyond (own 1) 2), fault.BeyondRegion) ∷ []

-- both numbers are those of guest pages
both_good : (guest m n : ℕ) → m < guest → n < guest → (nat_le guest m || (nat_le guest n || false)) ≡ false
both_good guest m n first second = grind (arith, nat_tests)

-- the fault where one of the two isn't
abbrev pub bad_page : ℕ → ℕ → ℕ → Option Fault
bad_page guest m n = if nat_le guest m || (nat_le guest n || false) then Some fault.BadPage else None

pub own_admissible : (s : State) (key : PageKey) (q : Option PageKey) (m n : ℕ)
    → BeginsWith s (Some key ∷ q ∷ []) (m ∷ n ∷ [])
    → m < s.kept.limits.pages → n < s.kept.limits.pages → IsAdmissible s (Do remap_by_own)
unfolding fault_of
own_admissible s key q m n is small_m small_n = ap (λ o. least_standing (own_rules guest s.memory o)) is.region
    ∙ (λ i. bad_page guest (one_word (word_in s places 0) i) (one_word (word_in s places 4) i))
    ∙ ap (λ ws. bad_page guest (slice_index ws 0) (slice_index ws 1)) is.each
    ∙ ap (λ t. if t then Some fault.BadPage else None) (both_good guest m n small_m small_n)
  where
    guest : ℕ
    guest = s.kept.limits.pages

    places : Places
    places = Some key ∷ q ∷ []
