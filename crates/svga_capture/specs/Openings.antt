-- The opening of a capture, one record after another.
use Rattle.std.specs.Prelude.{◌≡◌, ℕ, ◌+◌, ◌*◌, ◌<◌, ◌≤◌, List, [], ◌∷◌, length, true, nat_lt, ◌==◌, ◌||◌, if◌then◌else◌, None}
use Rattle.std.specs.FinMap as map
use Rattle.svga_cmd.specs.declared.constants.TheConstants.{MAX_PLACES, MAX_REGION_ID, UNMAPPED_WORD}
use Rattle.svga_model.specs.CaptureFields.{record_at}
use Rattle.svga_model.specs.Regions.{Regions, place_count, with_remap}
use Rattle.svga_cmd.specs.declared.capture_layout.TheConstants.{PLACES_OFFSET, WORD_SIZE}
use Rattle.svga_model.specs.Walks.{little_word}

-- the word is that of a place: a guest page's number, or that of an unmapped place
abbrev pub IsPlaceWord : ℕ → ℕ → Type 0
IsPlaceWord guest w = (nat_lt w guest || w == UNMAPPED_WORD) ≡ true

-- the regions with what a word says of one place, which was unmapped
abbrev pub with_place : Regions → ℕ → ℕ → ℕ → Regions
with_place regions id place w = if w == UNMAPPED_WORD then regions else with_remap regions id place (w ∷ [])

-- the record at a byte is there, and is that of one more region that is allowed
pub record IsNextRecord (bytes : List ℕ) (at guest : ℕ) (regions : Regions) : Type 0 where
  pub there : at + PLACES_OFFSET + WORD_SIZE * (record_at bytes at).count ≤ length bytes
  pub small : (record_at bytes at).id ≤ MAX_REGION_ID
  pub fresh : map.get regions (record_at bytes at).id ≡ None
  pub some : 1 ≤ (record_at bytes at).count
  pub room : place_count regions + (record_at bytes at).count ≤ MAX_PLACES
  pub places : (n : ℕ) → n < (record_at bytes at).count
      → IsPlaceWord guest (little_word bytes (at + PLACES_OFFSET + WORD_SIZE * n))
