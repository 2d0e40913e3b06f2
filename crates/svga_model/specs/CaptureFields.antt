-- The fields of a capture, which holds a FIFO and its device's memory, and the first that is wrong.
use Rattle.std.specs.Prelude.{ℕ, zero, suc, ◌+◌, ◌-◌, ◌*◌, ◌%◌, List, [], ◌∷◌, ◌++◌, length, map as map_list, sum_by, Bool, true, nat_lt, nat_le, ◌==◌, ◌&&◌, ◌||◌, if◌then◌else◌, Option, Some, None, option_map}
use Rattle.std.specs.List.{flat_map, range_with_len}
use Rattle.std.specs.Option.{option_or}
use Rattle.svga_cmd.specs.Limits.{frame_page_count}
use Rattle.svga_cmd.specs.Pages.{is_key}
use Rattle.svga_cmd.specs.declared.capture_cause.CaptureCause.{CaptureCause}
use Rattle.svga_cmd.specs.declared.capture_cause.CaptureCause.TheVariants.{Magic, Number, Order, Short, Version}
use Rattle.svga_cmd.specs.declared.capture_layout.TheConstants.{BUDGET_AT, COUNT_OFFSET, FIFO_AT, FIFO_MAX_AT, FIFO_REST_AT, FRAME_HEIGHT_AT, FRAME_WIDTH_AT, GUEST_PAGES_AT, LETTERS_AT, MAX_AT, MIN_AT, NEXT_CMD_AT, PAGE_COUNT_AT, PAGE_OFFSET, PLACES_OFFSET, REGION_COUNT_AT, RING_WORDS_SIZE, STOP_AT, VERSION_AT, WORD_SIZE}
use Rattle.svga_cmd.specs.declared.constants.TheConstants.{CAPTURE_LETTERS, FRAME_KEY, MAX_CAPTURE_END, MAX_FRAME_HEIGHT, MAX_FRAME_WIDTH, MAX_GUEST_PAGES, MAX_PIXEL_BUDGET, MAX_PLACES, MAX_REGION_ID, MIN_CAPTURE_END, PAGE_RECORD_SIZE, PAGE_SIZE, REGION_IDS, UNMAPPED_WORD}
use Rattle.svga_cmd.specs.declared.limits.Limits.{Limits}
use Rattle.svga_cmd.specs.declared.page.PageKey.{PageKey}
use Rattle.svga_cmd.specs.declared.page.PageKey.TheVariants.{Guest, Frame}
use Rattle.svga_model.specs.Walks.{little_word}

-- a field: its first byte, how many bytes it has, and what is wrong with it where all of
-- them are there and it breaks its rule
pub record Field : Type 0 where
  pub at : ℕ
  pub size : ℕ
  pub breaks : Option CaptureCause

-- no flaw where a test holds, else one of this cause
abbrev pub flaw_unless : Bool → CaptureCause → Option CaptureCause
flaw_unless holds cause = if holds then None else Some cause

-- a field of one word with a rule on its number
abbrev pub word_field : List ℕ → ℕ → (ℕ → Bool) → Field
word_field bytes at rule =
    record { at = at; size = WORD_SIZE; breaks = flaw_unless (rule (little_word bytes at)) Number }

-- it is above the last one, if there is one
abbrev pub is_above : Option ℕ → ℕ → Bool
is_above None n = true
is_above (Some last) n = nat_lt last n

-- a field of an id or a key with a rule on its number; it is also to be above that of the record
-- before, which is judged after the rule
abbrev pub ordered_field : List ℕ → ℕ → Option ℕ → (ℕ → Bool) → Field
ordered_field bytes at last rule =
    let n = little_word bytes at in
    record {
      at = at;
      size = WORD_SIZE;
      breaks = if rule n then flaw_unless (is_above last n) Order else Some Number;
    }

-- a number from `low` to `high`, both allowed
abbrev pub is_between : ℕ → ℕ → ℕ → Bool
is_between low high n = nat_le low n && nat_le n high

-- a byte offset, or a count of bytes, of whole dwords
abbrev pub is_whole : ℕ → Bool
is_whole n = n % 4 == 0

-- What the header says: where the ring ends, the limits, and how many regions and pages have records.
abbrev pub ring_end : List ℕ → ℕ
ring_end bytes = little_word bytes MAX_AT

abbrev pub limits_in : List ℕ → Limits
limits_in bytes = record {
  pages = little_word bytes GUEST_PAGES_AT;
  gfb_width = little_word bytes FRAME_WIDTH_AT;
  gfb_height = little_word bytes FRAME_HEIGHT_AT;
  budget = little_word bytes BUDGET_AT;
}

abbrev pub region_count : List ℕ → ℕ
region_count bytes = little_word bytes REGION_COUNT_AT

abbrev pub page_count : List ℕ → ℕ
page_count bytes = little_word bytes PAGE_COUNT_AT

-- the letters SVGF, the version, and these numbers
abbrev pub header_fields : List ℕ → List Field
header_fields bytes =
    let l = limits_in bytes in
    record {
      at = LETTERS_AT;
      size = WORD_SIZE;
      breaks = flaw_unless (little_word bytes LETTERS_AT == CAPTURE_LETTERS) Magic;
    }
    ∷ record {
      at = VERSION_AT;
      size = WORD_SIZE;
      breaks = flaw_unless (little_word bytes VERSION_AT == 1) Version;
    }
    ∷ word_field bytes MAX_AT (λ n. is_whole n && is_between MIN_CAPTURE_END MAX_CAPTURE_END n)
    ∷ word_field bytes GUEST_PAGES_AT (is_between 1 MAX_GUEST_PAGES)
    ∷ word_field bytes FRAME_WIDTH_AT (is_between 1 MAX_FRAME_WIDTH)
    ∷ word_field bytes FRAME_HEIGHT_AT (is_between 1 MAX_FRAME_HEIGHT)
    ∷ word_field bytes BUDGET_AT (is_between 1 MAX_PIXEL_BUDGET)
    ∷ word_field bytes REGION_COUNT_AT (λ n. nat_le n REGION_IDS)
    ∷ word_field bytes PAGE_COUNT_AT (λ n. nat_le n (l.pages + frame_page_count l)) ∷ []

-- MIN, NEXT_CMD and STOP
abbrev pub min_in : List ℕ → ℕ
min_in bytes = little_word bytes MIN_AT

abbrev pub next_in : List ℕ → ℕ
next_in bytes = little_word bytes NEXT_CMD_AT

abbrev pub stop_in : List ℕ → ℕ
stop_in bytes = little_word bytes STOP_AT

-- an offset of the ring: of whole dwords, from MIN on and below MAX
abbrev pub is_ring_offset : List ℕ → ℕ → Bool
is_ring_offset bytes n = is_whole n && nat_le (min_in bytes) n && nat_lt n (ring_end bytes)

-- the FIFO's memory: MIN, MAX again, NEXT_CMD, STOP, and the rest, on which there is no rule
abbrev pub fifo_fields : List ℕ → List Field
fifo_fields bytes =
    word_field bytes MIN_AT (λ n. is_whole n && nat_le RING_WORDS_SIZE n && nat_lt n (ring_end bytes))
    ∷ word_field bytes FIFO_MAX_AT (λ n. n == ring_end bytes)
    ∷ word_field bytes NEXT_CMD_AT (is_ring_offset bytes)
    ∷ word_field bytes STOP_AT (is_ring_offset bytes)
    ∷ record { at = FIFO_REST_AT; size = ring_end bytes - RING_WORDS_SIZE; breaks = None } ∷ []

-- a region's record: its first byte, the id, and how many places follow
pub record RegionRecord : Type 0 where
  pub at : ℕ
  pub id : ℕ
  pub count : ℕ

-- how many bytes it has
abbrev pub record_size : RegionRecord → ℕ
record_size r = PLACES_OFFSET + WORD_SIZE * r.count

abbrev pub record_at : List ℕ → ℕ → RegionRecord
record_at bytes at = record {
  at = at;
  id = little_word bytes at;
  count = little_word bytes (at + COUNT_OFFSET);
}

-- so many records from a byte on
abbrev pub records_from : List ℕ → ℕ → ℕ → List RegionRecord
records_from bytes zero at = []
records_from bytes (suc n) at =
    record_at bytes at ∷ records_from bytes n (at + record_size (record_at bytes at))

-- those of a capture, which stand behind the FIFO's memory
abbrev pub region_records : List ℕ → List RegionRecord
region_records bytes = records_from bytes (region_count bytes) (FIFO_AT + ring_end bytes)

-- the word of place k, where that of place 0 stands at this byte
abbrev pub place_field : List ℕ → ℕ → ℕ → Field
place_field bytes at k =
    word_field bytes (at + WORD_SIZE * k) (λ n. nat_lt n (limits_in bytes).pages || n == UNMAPPED_WORD)

-- The fields of a region's record. The regions before it have `total` places, and the last of
-- those has the id `last`, if there is one.
abbrev pub record_fields : List ℕ → ℕ → Option ℕ → RegionRecord → List Field
record_fields bytes total last r =
    ordered_field bytes r.at last (λ n. nat_le n MAX_REGION_ID)
    ∷ word_field bytes (r.at + COUNT_OFFSET) (λ n. nat_le 1 n && nat_le (total + n) MAX_PLACES)
    ∷ map_list (place_field bytes (r.at + PLACES_OFFSET)) (range_with_len 0 r.count)

-- those of these regions' records, behind such regions
abbrev pub region_fields : List ℕ → ℕ → Option ℕ → List RegionRecord → List Field
region_fields bytes total last [] = []
region_fields bytes total last (r ∷ rs) =
    record_fields bytes total last r ++ region_fields bytes (total + r.count) (Some r.id) rs

-- where the pages' records begin, and where record j does: a key, and then the page
abbrev pub pages_at : List ℕ → ℕ
pages_at bytes = FIFO_AT + ring_end bytes + sum_by record_size (region_records bytes)

abbrev pub page_record_at : List ℕ → ℕ → ℕ
page_record_at bytes j = pages_at bytes + PAGE_RECORD_SIZE * j

-- the page that a key's word names
abbrev pub key_of_word : ℕ → PageKey
key_of_word w = if nat_lt w (FRAME_KEY) then Guest w else Frame (w - FRAME_KEY)

-- the word of the key before that of record j
abbrev pub key_before : List ℕ → ℕ → Option ℕ
key_before bytes zero = None
key_before bytes (suc j) = Some (little_word bytes (page_record_at bytes j))

abbrev pub page_fields : List ℕ → List Field
page_fields bytes =
    flat_map (λ j.
    ordered_field bytes (page_record_at bytes j) (key_before bytes j)
    (λ w. is_key (limits_in bytes) (key_of_word w))
    ∷ record { at = page_record_at bytes j + PAGE_OFFSET; size = PAGE_SIZE; breaks = None } ∷ [])
    (range_with_len 0 (page_count bytes))

-- all of them, in the order of bytes
abbrev pub capture_fields : List ℕ → List Field
capture_fields bytes =
    header_fields bytes ++ fifo_fields bytes ++ region_fields bytes 0 None (region_records bytes)
    ++ page_fields bytes

-- the byte behind the last field
abbrev pub capture_end : List ℕ → ℕ
capture_end bytes = page_record_at bytes (page_count bytes)

-- where a field is wrong, and why: the bytes end in or before it, or it breaks its rule
abbrev pub flaw_of : List ℕ → Field → Option (ℕ × CaptureCause)
flaw_of bytes f =
    if nat_lt (length bytes) (f.at + f.size) then Some (length bytes, Short) else
    option_map (λ cause. (f.at, cause)) f.breaks

-- the first of the fields that is wrong
abbrev pub first_flaw : List ℕ → List Field → Option (ℕ × CaptureCause)
first_flaw bytes [] = None
first_flaw bytes (f ∷ fs) = option_or (flaw_of bytes f) (first_flaw bytes fs)
