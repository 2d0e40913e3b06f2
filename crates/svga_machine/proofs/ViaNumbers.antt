-- The page numbers that stand in a region are made of the words that stand there.
use Rattle.std.proofs.Common.{◌≡◌, ℕ, ◌+◌, ◌*◌, ◌<◌, sym, ap, ◌∙◌, List, length, map as map_list, slice_index, arith}
use Rattle.std.proofs.lemmas.Grind.{same_number_lists}
use Rattle.std.proofs.lemmas.List.FromFn.{get_or-map-range_with_len, length-map-range_with_len}
use Rattle.std.specs.List.{range_with_len}
use Rattle.svga_cmd.specs.declared.gmrfb.GuestPtr.{GuestPtr}
use Rattle.svga_model.specs.PointedNumbers.{number_at, numbers_in, pointed_by}
use Rattle.svga_model.specs.Regions.{joined_list, joined_words}
use Rattle.svga_model.specs.Walks.{word_at}
use Rattle.svga_region.proofs.EntryLaws.{get_or-joined_list, length-joined_list}

-- so many words, one behind another from a byte on
abbrev pub words_from : (ℕ → ℕ) → ℕ → ℕ → List ℕ
words_from bytes from count = map_list (λ k. word_at bytes (from + 4 * k)) (range_with_len 0 count)

-- a word with nothing above it
alone : (word : ℕ) → joined_words word 0 ≡ word
alone word = omega arith

-- numbers of one word each are the words
pub single_numbers : (bytes : ℕ → ℕ) (at : GuestPtr) (pages : ℕ)
    → numbers_in bytes (pointed_by 1 at) pages ≡ words_from bytes at.offset pages
single_numbers bytes at pages =
    λ i. map_list (λ k. alone (word_at bytes (at.offset + 4 * k)) i) (range_with_len 0 pages)

-- numbers of two words each are joined from twice as many
pub joined_numbers : (bytes : ℕ → ℕ) (at : GuestPtr) (pages : ℕ)
    → numbers_in bytes (pointed_by 2 at) pages ≡ joined_list (words_from bytes at.offset (2 * pages)) pages
joined_numbers bytes at pages =
    same_number_lists (numbers_in bytes (pointed_by 2 at) pages) (joined_list words pages) lengths each
  where
    words : List ℕ
    words = words_from bytes at.offset (2 * pages)

    number : ℕ → ℕ
    number k = number_at bytes 2 (at.offset + 4 * 2 * k)

    lengths : length (numbers_in bytes (pointed_by 2 at) pages) ≡ length (joined_list words pages)
    lengths = length-map-range_with_len number 0 pages ∙ sym (length-joined_list words pages)

    word : (j i : ℕ) → j < 2 * pages → at.offset + 4 * j ≡ i → slice_index words j ≡ word_at bytes i
    word j i within is = get_or-map-range_with_len (λ k. word_at bytes (at.offset + 4 * k)) 0 (2 * pages) j j 0 within
        (omega arith) ∙ ap (word_at bytes) is

    each : (k : ℕ) → k < length (numbers_in bytes (pointed_by 2 at) pages)
        → slice_index (numbers_in bytes (pointed_by 2 at) pages) k ≡ slice_index (joined_list words pages) k
    each k below =
        let within : k < pages = omega (arith, below, length-map-range_with_len number 0 pages) in
        let low = word (2 * k) (at.offset + 4 * 2 * k) (omega arith) (omega arith) in
        let high = word (2 * k + 1) (at.offset + 4 * 2 * k + 4) (omega arith) (omega arith) in
        get_or-map-range_with_len number 0 pages k k 0 within (omega arith)
        ∙ (λ i. joined_words (sym low i) ((alone (word_at bytes (at.offset + 4 * 2 * k + 4)) ∙ sym high) i))
        ∙ sym (get_or-joined_list words pages k within)
