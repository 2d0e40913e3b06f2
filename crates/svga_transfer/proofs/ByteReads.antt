-- What reading a piece of a page, and piece behind piece, leaves.
use Rattle.std.proofs.Common.{◌≡◌, ℕ, ◌+◌, ◌-◌, ◌%◌, ◌<◌, ◌≤◌, refl, sym, ap, ◌∙◌, List, [], ◌++◌, length, map as map_list, take, drop, slice_index, Some, unwrap_or, append-nil, length-take, length-drop, append_assoc, arith}
use borrow.Rule.Slice.PartMut.{put_mid}
use Rattle.std.proofs.lemmas.Grind.{same_number_lists}
use Rattle.std.proofs.lemmas.List.{drop_all, drop_at, drop-drop, get_or-drop, get_or-take, map-append, take_all, take_at}
use Rattle.std.proofs.lemmas.List.FromFn.{get_or-map-range_with_len, length-map-range_with_len}
use Rattle.std.specs.List.{range_with_len}
use Rattle.svga_cmd.specs.Pages.{Memory, page_at}
use Rattle.svga_cmd.specs.declared.page.PageKey.{PageKey}
use Rattle.svga_model.specs.Memories.{located_byte, region_byte}
use Rattle.svga_model.specs.RegionBytes.{page_of_byte}
use Rattle.svga_model.specs.Regions.{Places}
use Rattle.svga_transfer.proofs.BytePieces.{location}
use Rattle.svga_transfer.proofs.ListLaws.{range_split}

-- a byte behind byte `at` on its page
page_byte : (m : Memory) (places : Places) (key : PageKey) (page : List ℕ) (at k : ℕ) → at % 4096 + k < 4096
    → page_of_byte places at ≡ Some key → page_at m key ≡ Some page
    → region_byte m places (at + k) ≡ slice_index page (at % 4096 + k)
unfolding region_byte
page_byte m places key page at k l is has =
    ap (located_byte m) (location places at k key l is)
    ∙ ap (λ o. slice_index (unwrap_or o []) (at % 4096 + k)) has

-- the bytes from byte `at` on that its page has are the region's
pub piece_read : (m : Memory) (places : Places) (key : PageKey) (page : List ℕ) (at n : ℕ)
    → length page ≡ 4096 → at % 4096 + n ≤ 4096
    → page_of_byte places at ≡ Some key → page_at m key ≡ Some page
    → take n (drop (at % 4096) page) ≡ map_list (region_byte m places) (range_with_len at n)
piece_read m places key page at n size l is has =
    let piece = take n (drop (at % 4096) page) in
    let made = map_list (region_byte m places) (range_with_len at n) in
    let piece_length : length piece ≡ n =
    omega (arith, length-take n (drop (at % 4096) page), length-drop (at % 4096) page, size) in
    same_number_lists piece made (piece_length ∙ sym (length-map-range_with_len (region_byte m places) at n))
    (λ k below.
    let under : k < n = omega (arith, piece_length) in
    get_or-take n (drop (at % 4096) page) k 0 under
    ∙ get_or-drop (at % 4096) page k 0
    ∙ sym (page_byte m places key page at k (omega arith) is has)
    ∙ sym (get_or-map-range_with_len (region_byte m places) at n k (at + k) 0 under refl))

-- what a function makes of two ranges, one behind the other
made_of_both : (f : ℕ → ℕ) (a m n : ℕ)
    → map_list f (range_with_len a m) ++ map_list f (range_with_len (a + m) n) ≡ map_list f (range_with_len a (m + n))
made_of_both f a m n =
    sym (ap (map_list f) (range_split a m n) ∙ map-append f (range_with_len a m) (range_with_len (a + m) n))

-- Bytes of which `done` are read, and then a piece of n more, with the piece put into them.
pub read_more : (f : ℕ → ℕ) (old now piece : List ℕ) (from done n : ℕ)
    → now ≡ map_list f (range_with_len from done) ++ drop done old
    → piece ≡ map_list f (range_with_len (from + done) n) ++ drop n (take (length now - done) (drop done now))
    → put_mid done (length now - done) now piece
    ≡ map_list f (range_with_len from (done + n)) ++ drop (done + n) old
read_more f old now piece from done n before read =
    let front = map_list f (range_with_len from done) in
    let more = map_list f (range_with_len (from + done) n) in
    let size = length-map-range_with_len f from done in
    let rest : take (length now - done) (drop done now) ≡ drop done old =
    take_all (length now - done) (drop done now) (omega (arith, length-drop done now))
    ∙ ap (drop done) before ∙ drop_at front (drop done old) done size in
    let nothing : drop (length now - done) (drop done now) ≡ [] =
    drop_all (length now - done) (drop done now) (omega (arith, length-drop done now)) in
    let first : take done now ≡ front = ap (take done) before ∙ take_at front (drop done old) done size in
    let second : piece ≡ more ++ drop (done + n) old =
    read ∙ ap (λ xs. more ++ xs) (ap (drop n) rest ∙ drop-drop n done old) in
    (λ i. first i ++ (second i ++ nothing i))
    ∙ ap (λ xs. front ++ xs) (append-nil (more ++ drop (done + n) old))
    ∙ sym (append_assoc front more (drop (done + n) old))
    ∙ ap (λ xs. xs ++ drop (done + n) old) (made_of_both f from done n)
