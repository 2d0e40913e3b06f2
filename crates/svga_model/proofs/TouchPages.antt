-- Memories that have the same on a region's pages give the same bytes of the region.
use Rattle.std.proofs.Common.{◌≡◌, ℕ, zero, suc, ◌/◌, ◌%◌, refl, sym, ap, subst, [], ◌∷◌, Bool, true, false, ◌||◌, Option, Some, None, slice_index, slice_index_or, unwrap_or, option_map}
use Rattle.std.specs.List.{list_any}
use Rattle.svga_cmd.specs.declared.constants.TheConstants.{PAGE_SIZE}
use Rattle.svga_cmd.specs.declared.page.PageKey.{PageKey}
use Rattle.svga_cmd.specs.Pages.{Memory, page_at}
use Rattle.svga_cmd.proofs.KeyLaws.{keys_total, keys_exact}
use Rattle.svga_cmd.proofs.Maps.{tied}
use Rattle.svga_model.specs.Memories.{located_byte, region_byte}
use Rattle.svga_model.specs.RegionBytes.{byte_location, page_of_byte}
use Rattle.svga_model.specs.Regions.{Places}
use Rattle.svga_model.specs.Touches.{has_page, is_page}

-- two memories have the same on each page of these places
abbrev pub SameOn : Places → Memory → Memory → Type 0
SameOn places m n = (key : PageKey) → has_page places key ≡ true → page_at m key ≡ page_at n key

-- the second of two tests is true
pub or_true : (a b : Bool) → b ≡ true → (a || b) ≡ true
or_true true b e = refl
or_true false b e = e

-- the page that a place is mapped to
pub page_there : (key : PageKey) → is_page key (Some key) ≡ true
page_there key = tied keys_total keys_exact key

-- a place of a list is mapped to one of the list's pages
pub has_place : (places : Places) (i : ℕ) (key : PageKey)
    → slice_index_or places i None ≡ Some key → has_page places key ≡ true
unfolding has_page
has_place [] i key e = cc
has_place (place ∷ places) zero key e =
    subst (λ o. (is_page key o || list_any (is_page key) places) ≡ true) (sym e)
    (ap (λ b. b || list_any (is_page key) places) (page_there key))
has_place (place ∷ places) (suc i) key e =
    or_true (is_page key place) (list_any (is_page key) places) (has_place places i key e)

-- a byte lies on one of its region's pages
pub has_byte : (places : Places) (i : ℕ) (at : PageKey × ℕ)
    → byte_location places i ≡ Some at → has_page places at.0 ≡ true
has_byte places i at e = go (page_of_byte places i) refl e where
  go : (o : Option PageKey) → page_of_byte places i ≡ o
      → option_map (λ key. (key, i % PAGE_SIZE)) o ≡ Some at → has_page places at.0 ≡ true
  go None is e = cc
  go (Some key) is e =
      let same : (key, i % PAGE_SIZE) ≡ at = cc in
      subst (λ (p : PageKey × ℕ). has_page places p.0 ≡ true) same (has_place places (i / PAGE_SIZE) key is)

-- the byte at a location is the same where the page is
same_byte : (m n : Memory) (o : Option (PageKey × ℕ))
    → ((at : PageKey × ℕ) → o ≡ Some at → page_at m at.0 ≡ page_at n at.0) → located_byte m o ≡ located_byte n o
same_byte m n None same = refl
same_byte m n (Some at) same = ap (λ p. slice_index (unwrap_or p []) at.1) (same at refl)

-- memories that have the same on a region's pages give the same bytes of it
pub same_bytes : (m n : Memory) (places : Places) → SameOn places m n → region_byte m places ≡ region_byte n places
unfolding region_byte
same_bytes m n places same =
    λ t i. same_byte m n (byte_location places i) (λ at e. same at.0 (has_byte places i at e)) t
