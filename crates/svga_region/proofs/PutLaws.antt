-- The pages that are put place by place.
use Rattle.std.proofs.Common.{◌≡◌, ℕ, ◌+◌, ◌<◌, ◌≤◌, refl, sym, ap, ◌∙◌, List, [], ◌∷◌, ◌++◌, length, map, take, slice_index, slice_index_or, arith, length-append, append-nil, Some, true, slice_set}
use Rattle.std.proofs.lemmas.Bool.Decides.{nat_tests}
use Rattle.std.proofs.lemmas.Grind.{flat_map-append}
use Rattle.std.proofs.lemmas.List.{take_more, take_more_set, length-map, map-append, length-replicate}
use Rattle.std.proofs.lemmas.List.FromFn.{length-range_with_len, map-range_with_len_more}
use Rattle.std.proofs.lemmas.List.Folds.{length-flat_map-take}
use Rattle.std.specs.List.{flat_map, range_with_len}
use Rattle.svga_cmd.specs.WellFormed.{HasEntries}
use Rattle.svga_cmd.specs.declared.page.PageKey.TheVariants.{Guest}
use Rattle.svga_cmd.specs.declared.remap.RemapData.{RemapData}
use Rattle.svga_cmd.specs.declared.remap.RemapData.TheVariants.{Ppn32, Ppn64, SinglePpn32, SinglePpn64, ViaGmr32, ViaGmr64}
use Rattle.svga_model.specs.Regions.{guest_places, joined_words, range_pages}
use Rattle.svga_model.specs.Walks.{descriptor_in, is_good_run, run_pages}
use Rattle.svga_region.proofs.EntryLaws.{length-joined_list}
use Rattle.svga_region.specs.Conditions.{AreNamed}
use Rattle.svga_region.specs.Kept.{kept_pages, table_pages, as_descriptor}
use Rattle.svga_region.specs.declared.descriptor.Descriptor.{Descriptor as Kept}

-- a place for each number
pub length-guest_places : (numbers : List ℕ) → length (guest_places numbers) ≡ length numbers
length-guest_places numbers = length-map numbers (λ n. Some (Guest n))

-- the places of numbers behind numbers
pub guest_places-append : (xs ys : List ℕ) → guest_places (xs ++ ys) ≡ guest_places xs ++ guest_places ys
guest_places-append xs ys = map-append (λ n. Some (Guest n)) xs ys

-- a page number for each place of the range
pub length-range_pages : (entries : RemapData) (pages : ℕ) → AreNamed entries → HasEntries entries pages → length (range_pages entries pages) ≡ pages
length-range_pages (Ppn32 list) pages named fits = fits
length-range_pages (Ppn64 list) pages named fits = length-joined_list list pages
length-range_pages (SinglePpn32 page) pages named fits = length-replicate pages page
length-range_pages (SinglePpn64 low high) pages named fits = length-replicate pages (joined_words low high)
length-range_pages (ViaGmr32 pointer) pages named fits = absurd named
length-range_pages (ViaGmr64 pointer) pages named fits = absurd named

-- one number more
pub guest_places-take : (numbers : List ℕ) (k : ℕ) → k < length numbers → guest_places (take k numbers) ++ Some (Guest (slice_index numbers k)) ∷ [] ≡ guest_places (take (k + 1) numbers)
guest_places-take numbers k l = sym (ap guest_places (take_more numbers k 0 l) ∙ guest_places-append (take k numbers) (slice_index numbers k ∷ []))

-- one page of a run more
pub guest_places-range : (page k : ℕ) → guest_places (range_with_len page k) ++ Some (Guest (page + k)) ∷ [] ≡ guest_places (range_with_len page (k + 1))
guest_places-range page k = sym (map-range_with_len_more (λ n. Some (Guest n)) page k (page + k) refl)

-- one run more
pub kept_pages-take : (runs : List Kept) (i : ℕ) (d : Kept) → i < length runs → kept_pages (take (i + 1) runs) ≡ kept_pages (take i runs) ++ run_pages (as_descriptor (slice_index_or runs i d))
kept_pages-take runs i d l = ap kept_pages (take_more runs i d l) ∙ flat_map-append (λ k. run_pages (as_descriptor k)) (take i runs) (slice_index_or runs i d ∷ [])
    ∙ ap (λ t. kept_pages (take i runs) ++ t) (append-nil (run_pages (as_descriptor (slice_index_or runs i d))))

-- how many pages that are
pub length-kept_pages-take : (runs : List Kept) (i : ℕ) (d : Kept) → i < length runs → length (kept_pages (take (i + 1) runs)) ≡ length (kept_pages (take i runs)) + (slice_index_or runs i d).count
length-kept_pages-take runs i d l = let run = slice_index_or runs i d in
    ap length (kept_pages-take runs i d l) ∙ length-append (kept_pages (take i runs)) (run_pages (as_descriptor run)) ∙ ap (λ n. length (kept_pages (take i runs)) + n) (length-range_with_len run.page run.count)

-- a run of the list fits behind those before it
pub run_fits : (runs : List Kept) (i : ℕ) (d : Kept) → i < length runs → length (kept_pages (take i runs)) + (slice_index_or runs i d).count ≤ length (kept_pages runs)
run_fits runs i d l = let run = slice_index_or runs i d in
    omega (arith, length-flat_map-take (λ k. run_pages (as_descriptor k)) runs i d l, length-range_with_len run.page run.count)

-- a descriptor that is kept behind the first n
pub kept_pages-set : (runs : List Kept) (n : ℕ) (run : Kept) → n < length runs → kept_pages (take (n + 1) (slice_set runs n run)) ≡ kept_pages (take n runs) ++ run_pages (as_descriptor run)
kept_pages-set runs n run l = ap kept_pages (take_more_set runs n run l) ∙ flat_map-append (λ k. run_pages (as_descriptor k)) (take n runs) (run ∷ [])
    ∙ ap (λ t. kept_pages (take n runs) ++ t) (append-nil (run_pages (as_descriptor run)))

-- one descriptor of a table page more
pub table_pages-more : (bytes : List ℕ) (k : ℕ) → table_pages bytes (k + 1) ≡ table_pages bytes k ++ run_pages (descriptor_in bytes k)
table_pages-more bytes k = ap (flat_map run_pages) (map-range_with_len_more (λ j. descriptor_in bytes j) 0 k k (omega arith))
    ∙ flat_map-append run_pages (map (λ j. descriptor_in bytes j) (range_with_len 0 k)) (descriptor_in bytes k ∷ [])
    ∙ ap (λ t. table_pages bytes k ++ t) (append-nil (run_pages (descriptor_in bytes k)))

-- a good run ends at the last guest page at most
pub short_good : (guest page count : ℕ) → guest ≤ 16384 → is_good_run guest (record { page = page; count = count }) ≡ true → page + count ≤ 16384
short_good guest page count small good = grind (arith, nat_tests)
