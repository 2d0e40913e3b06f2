-- Small captures, and what is wrong with bytes that are nearly one.
use Rattle.std.specs.Prelude.{ℕ, ◌/◌, ◌%◌, ◌^◌, List, [], ◌∷◌, ◌++◌, slice_set}
use Rattle.std.specs.List.{flat_map}

-- the bytes of words, the low one of each first
abbrev pub bytes_of_word : ℕ → List ℕ
bytes_of_word w = w % 256 ∷ w / 256 % 256 ∷ w / 2 ^ 16 % 256 ∷ w / 2 ^ 24 ∷ []

abbrev pub bytes_from : List ℕ → List ℕ
bytes_from words = flat_map bytes_of_word words

-- one guest page, a framebuffer and a budget of one pixel, so many regions and pages with records
abbrev pub header : ℕ → ℕ → ℕ → List ℕ
header ring regions pages = 0x46475653 ∷ 1 ∷ ring ∷ 1 ∷ 1 ∷ 1 ∷ 1 ∷ regions ∷ pages ∷ []

-- a ring of one word, which is empty
abbrev pub ring : List ℕ
ring = 16 ∷ 20 ∷ 16 ∷ 16 ∷ 0 ∷ []

-- the smallest capture: no regions and no pages
abbrev pub small : List ℕ
small = header 20 0 0 ++ ring

-- the same with another word k
abbrev pub small_with : ℕ → ℕ → List ℕ
small_with k w = bytes_from (slice_set small k w)

-- the same with regions' records
abbrev pub small_regions : ℕ → List ℕ → List ℕ
small_regions count records = bytes_from (header 20 count 0 ++ ring ++ records)

-- A ring of three words from byte 16 on, of which two wait: from STOP, byte
-- 24, round its end to NEXT_CMD, byte 20.
abbrev pub wrapped : List ℕ
wrapped = bytes_from (header 28 0 0 ++ 16 ∷ 28 ∷ 20 ∷ 24 ∷ 7 ∷ 8 ∷ 9 ∷ [])

-- a ring from MIN on, up to byte 32, whose word 6 is 5
abbrev pub with_least : ℕ → List ℕ
with_least min = bytes_from (header 32 0 0 ++ min ∷ 32 ∷ min ∷ min ∷ 0 ∷ 0 ∷ 5 ∷ 0 ∷ [])

-- the smallest capture with one page's record, whose bytes are lacking
abbrev pub small_page : ℕ → List ℕ
small_page key = bytes_from (header 20 0 1 ++ ring ++ key ∷ [])
