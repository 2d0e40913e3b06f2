-- What writing a piece of a page, and piece behind piece, leaves.
use Rattle.std.proofs.Common.{◌≡◌, ℕ, suc, ◌+◌, ◌-◌, ◌%◌, ◌<◌, ◌≤◌, refl, sym, ap, ◌∙◌, List, [], ◌∷◌, ◌++◌, length, take, drop, slice_set, Some, unwrap_or, is_some, append_assoc, length-drop, length-set, length-take, arith}
use borrow.Rule.Slice.PartMut.{put_mid}
use Rattle.std.proofs.lemmas.List.{drop-drop, drop-set-lt, take-append-drop, take_all, take_more_set}
use Rattle.std.proofs.Math.Seq.{take-add}
use Rattle.std.specs.FinMap as map
use Rattle.svga_cmd.proofs.KeyLaws.{keys_exact, keys_total}
use Rattle.svga_cmd.proofs.Maps.{get_same, insert_twice, is_insert}
use Rattle.svga_cmd.specs.Pages.{Memory, page_at}
use Rattle.svga_cmd.specs.declared.page.PageKey.{PageKey}
use Rattle.svga_model.proofs.PutLaws.{with_page-has}
use Rattle.svga_model.specs.Memories.{ByteWrite, page_bytes, with_byte, writes_from, written}
use Rattle.svga_model.specs.RegionBytes.{byte_location, page_of_byte}
use Rattle.svga_model.specs.Regions.{Places}
use Rattle.svga_transfer.proofs.BytePieces.{location}

-- writes, and then more
pub written-append : (places : Places) (m : Memory) (ws vs : List ByteWrite)
    → written places m (ws ++ vs) ≡ written places (written places m ws) vs
written-append places m [] vs = refl
written-append places m (w ∷ ws) vs = written-append places (with_byte m (byte_location places w.at) w.byte) ws vs

-- the writes of two lists of bytes, one behind the other
pub writes_from-append : (i : ℕ) (xs ys : List ℕ)
    → writes_from i (xs ++ ys) ≡ writes_from i xs ++ writes_from (i + length xs) ys
writes_from-append i [] ys = ap (λ k. writes_from k ys) (let e : i ≡ i + 0 = omega arith in e)
writes_from-append i (x ∷ xs) ys =
    let behind : i + 1 + length xs ≡ i + suc (length xs) = omega arith in
    ap (λ ws. record { at = i; byte = x } ∷ ws)
    (writes_from-append (i + 1) xs ys ∙ ap (λ k. writes_from (i + 1) xs ++ writes_from k ys) behind)

-- a list with one byte set and then more behind it, all at once
put_both : (page : List ℕ) (s x : ℕ) (xs : List ℕ) → s < length page
    → put_mid (s + 1) (length xs) (slice_set page s x) xs ≡ put_mid s (suc (length xs)) page (x ∷ xs)
put_both page s x xs l =
    let set = slice_set page s x in
    let tail : drop (length xs) (drop (s + 1) set) ≡ drop (suc (length xs)) (drop s page) =
    ap (drop (length xs)) (drop-set-lt (s + 1) page s x (omega arith))
    ∙ drop-drop (length xs) (s + 1) page
    ∙ ap (λ k. drop k page) (let e : s + 1 + length xs ≡ s + suc (length xs) = omega arith in e)
    ∙ sym (drop-drop (suc (length xs)) s page) in
    (λ i. take_more_set page s x l i ++ (xs ++ tail i))
    ∙ append_assoc (take s page) (x ∷ []) (xs ++ drop (suc (length xs)) (drop s page))

-- A page that bytes of a region are written to, from byte `at` on.
module _ (places : Places) (key : PageKey) (at : ℕ) (is : page_of_byte places at ≡ Some key) where
  -- one byte
  byte_put : (m : Memory) (page : List ℕ) (k x : ℕ) → at % 4096 + k < 4096 → page_at m key ≡ Some page
      → with_byte m (byte_location places (at + k)) x ≡ map.insert m key (slice_set page (at % 4096 + k) x)
  byte_put m page k x l has =
      ap (λ o. with_byte m o x) (location places at k key l is)
      ∙ with_page-has m key (slice_set (page_bytes m key) (at % 4096 + k) x) (ap is_some has)
      ∙ ap (λ o. map.insert m key (slice_set (unwrap_or o []) (at % 4096 + k) x)) has

  -- bytes behind others
  bytes_put : (m : Memory) (page : List ℕ) (k : ℕ) (xs : List ℕ)
      → length page ≡ 4096 → at % 4096 + k + length xs ≤ 4096 → page_at m key ≡ Some page
      → written places m (writes_from (at + k) xs) ≡ map.insert m key (put_mid (at % 4096 + k) (length xs) page xs)
  bytes_put m page k [] size l has =
      is_insert keys_total keys_exact m m key page has (λ q ne. refl)
      ∙ ap (map.insert m key) (sym (take-append-drop (at % 4096 + k) page))
  bytes_put m page k (x ∷ xs) size l has =
      let s = at % 4096 + k in
      let set = slice_set page s x in
      let next : Memory = map.insert m key set in
      let room : s < 4096 = omega (arith, l) in
      let here : s < length page = omega (arith, size) in
      let behind : at + k + 1 ≡ at + (k + 1) = omega arith in
      let start : at % 4096 + (k + 1) ≡ s + 1 = omega arith in
      ap (λ n. written places n (writes_from (at + k + 1) xs)) (byte_put m page k x room has)
      ∙ ap (λ i. written places next (writes_from i xs)) behind
      ∙ bytes_put next set (k + 1) xs (length-set page s x ∙ size) (omega (arith, l))
      (get_same keys_total keys_exact m key set)
      ∙ insert_twice keys_total keys_exact m key set (put_mid (at % 4096 + (k + 1)) (length xs) set xs)
      ∙ ap (λ i. map.insert m key (put_mid i (length xs) set xs)) start
      ∙ ap (map.insert m key) (put_both page s x xs here)

  -- so bytes that are written one by one stand on the page as a whole
  pub piece_written : (m : Memory) (page : List ℕ) (xs : List ℕ)
      → length page ≡ 4096 → at % 4096 + length xs ≤ 4096 → page_at m key ≡ Some page
      → written places m (writes_from at xs) ≡ map.insert m key (put_mid (at % 4096) (length xs) page xs)
  piece_written m page xs size l has =
      let none : at ≡ at + 0 = omega arith in
      let start : at % 4096 + 0 ≡ at % 4096 = omega arith in
      ap (λ i. written places m (writes_from i xs)) none
      ∙ bytes_put m page 0 xs size (omega (arith, l)) has
      ∙ ap (λ i. map.insert m key (put_mid i (length xs) page xs)) start

-- Where the front of some bytes is written, and then a piece of the rest, a longer front is.
pub written_more : (places : Places) (m now new : Memory) (bytes : List ℕ) (from done n : ℕ) → done ≤ length bytes
    → now ≡ written places m (writes_from from (take done bytes))
    → new ≡ written places now (writes_from (from + done) (take n (take (length bytes - done) (drop done bytes))))
    → new ≡ written places m (writes_from from (take (done + n) bytes))
written_more places m now new bytes from done n l before step =
    let front = take done bytes in
    let rest : take (length bytes - done) (drop done bytes) ≡ drop done bytes =
    take_all (length bytes - done) (drop done bytes) (omega (arith, length-drop done bytes)) in
    let piece = take n (drop done bytes) in
    let size : length front ≡ done = omega (arith, length-take done bytes) in
    let behind : done ≡ length front = omega (arith, size) in
    step
    ∙ (λ i. written places (before i) (writes_from (from + behind i) (take n (rest i))))
    ∙ sym (written-append places m (writes_from from front) (writes_from (from + length front) piece))
    ∙ ap (written places m) (sym (writes_from-append from front piece))
    ∙ ap (λ xs. written places m (writes_from from xs)) (sym (take-add done n bytes))
