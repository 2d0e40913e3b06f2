-- What a capture holds.
use Rattle.std.specs.Prelude.{ℕ, ◌+◌, ◌-◌, ◌*◌, ◌/◌, List, length, fold, map as map_list, slice_range, nat_lt, nat_le, ◌==◌, if◌then◌else◌, Option, Some, None, Result, Ok, Err}
use Rattle.std.specs.FinMap as map
use Rattle.std.specs.List.{range_with_len}
use Rattle.std.specs.Option.{option_or}
use Rattle.svga_cmd.specs.Pages.{Memory}
use Rattle.svga_cmd.specs.declared.capture_cause.CaptureCause.{CaptureCause}
use Rattle.svga_cmd.specs.declared.capture_cause.CaptureCause.TheVariants.{Long}
use Rattle.svga_cmd.specs.declared.capture_layout.TheConstants.{FENCE_OFFSET, FIFO_AT, PAGE_OFFSET, PLACES_OFFSET, WORD_SIZE}
use Rattle.svga_cmd.specs.declared.constants.TheConstants.{PAGE_RECORD_SIZE, UNMAPPED_WORD}
use Rattle.svga_cmd.specs.declared.limits.Limits.{Limits}
use Rattle.svga_cmd.specs.declared.page.PageKey.{PageKey}
use Rattle.svga_cmd.specs.declared.page.PageKey.TheVariants.{Guest}
use Rattle.svga_model.specs.Addresses.{address, dwords_between}
use Rattle.svga_model.specs.CaptureFields.{RegionRecord, capture_end, capture_fields, first_flaw, key_of_word, limits_in, min_in, next_in, page_record_at, page_count, region_records, ring_end, stop_in}
use Rattle.svga_model.specs.Memories.{with_page}
use Rattle.svga_model.specs.Regions.{Places, Regions}
use Rattle.svga_model.specs.States.{State, opening_memory}
use Rattle.svga_model.specs.Walks.{little_word}

-- the ring's ends, the limits, the state before the words, and the words that were sent and not yet taken
pub record Capture : Type 0 where
  pub min : ℕ
  pub max : ℕ
  pub limits : Limits
  pub opening : State
  pub words : List ℕ

-- the place of a word in a region's record
abbrev pub place_of_word : ℕ → Option PageKey
place_of_word w = if w == UNMAPPED_WORD then None else Some (Guest w)

-- the list of a region
abbrev pub listed_places : List ℕ → RegionRecord → Places
listed_places bytes r =
    map_list (λ k. place_of_word (little_word bytes (r.at + PLACES_OFFSET + WORD_SIZE * k)))
    (range_with_len 0 r.count)

abbrev pub listed_regions : List ℕ → Regions
listed_regions bytes = map.from_entries (map_list (λ r. (r.id, listed_places bytes r)) (region_records bytes))

-- the key and the bytes of a page's record
abbrev pub listed_key : List ℕ → ℕ → PageKey
listed_key bytes j = key_of_word (little_word bytes (page_record_at bytes j))

abbrev pub listed_bytes : List ℕ → ℕ → List ℕ
listed_bytes bytes j =
    slice_range bytes (page_record_at bytes j + PAGE_OFFSET) (page_record_at bytes j + PAGE_RECORD_SIZE)

-- pages of zeros, but for those with records
abbrev pub listed_memory : List ℕ → Memory
listed_memory bytes =
    fold (λ m j. with_page m (listed_key bytes j) (listed_bytes bytes j)) (opening_memory (limits_in bytes))
    (range_with_len 0 (page_count bytes))

-- the opening fence: the FIFO's fence where MIN is above its offset, else 0
abbrev pub fence_in : List ℕ → ℕ
fence_in bytes = if nat_lt FENCE_OFFSET (min_in bytes) then little_word bytes (FIFO_AT + FENCE_OFFSET) else 0

-- the state before the words: no GMRFB is defined and no screen
abbrev pub opening_in : List ℕ → State
opening_in bytes = record {
  kept = record {
    limits = limits_in bytes;
    regions = listed_regions bytes;
    gmrfb = None;
    screens = map.empty;
    fence = fence_in bytes;
  };
  memory = listed_memory bytes;
}

-- how many bytes lie from STOP to NEXT_CMD, counted round the ring where NEXT_CMD is below STOP
abbrev pub waiting : ℕ → ℕ → ℕ → ℕ → ℕ
waiting min max next stop = if nat_le stop next then next - stop else (max - stop) + (next - min)

-- the words from STOP to NEXT_CMD round the ring
abbrev pub waiting_words : List ℕ → List ℕ
waiting_words bytes =
    let dwords = dwords_between (min_in bytes) (ring_end bytes) in
    let first = dwords_between (min_in bytes) (stop_in bytes) in
    map_list (λ k. little_word bytes (FIFO_AT + address (min_in bytes) dwords (first + k)))
    (range_with_len 0 (waiting (min_in bytes) (ring_end bytes) (next_in bytes) (stop_in bytes) / 4))

-- what the bytes hold, if they are a capture
abbrev pub held : List ℕ → Capture
held bytes = record {
  min = min_in bytes;
  max = ring_end bytes;
  limits = limits_in bytes;
  opening = opening_in bytes;
  words = waiting_words bytes;
}

-- what is wrong with the bytes: the first field that is, or what follows the last one
abbrev pub flaw_in : List ℕ → Option (ℕ × CaptureCause)
flaw_in bytes =
    option_or (first_flaw bytes (capture_fields bytes))
    (if nat_lt (capture_end bytes) (length bytes) then Some (capture_end bytes, Long) else None)

-- a capture, unless there is a flaw
abbrev pub captured : Option (ℕ × CaptureCause) → Capture → Result Capture (ℕ × CaptureCause)
captured None c = Ok c
captured (Some flaw) c = Err flaw

-- the capture that bytes are, or the byte at which they are none and why
unfoldable pub capture_of : List ℕ → Result Capture (ℕ × CaptureCause)
capture_of bytes = captured (flaw_in bytes) (held bytes)
