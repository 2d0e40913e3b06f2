-- The words of a new table.
use Rattle.std.proofs.Common.{◌≡◌, ℕ, ◌+◌, ◌-◌, ◌<◌, ◌≤◌, List, [], ◌∷◌, ◌++◌, length, slice_index, replicate, ap, refl, sym, ◌∙◌, arith, append_assoc, length-append}
use Rattle.std.proofs.Math.Seq.{get_or-append_seam}
use Rattle.std.proofs.lemmas.List.{get_or-append_right, get_or-replicate, get_or_append_left, length-replicate}
use Rattle.svga_cmd.specs.declared.session.Session.{Session}
use Rattle.svga_ring.specs.Core.{opening_words}
use Rattle.svga_ring.specs.Layouts.{IsLayout, ring_start}
use Rattle.svga_ring.specs.SharedTable.{config_word, fifo_dwords, table_length}
use Rattle.svga_ring.specs.SoundWords.{capabilities}
use Rattle.svga_ring.specs.Views.{opening_layout}

-- some words, so many zeros, a 1 and so many zeros again
module _ (front : List ℕ) (n m : ℕ) where
  abbrev table : List ℕ
  table = (front ++ replicate n 0) ++ 1 ∷ replicate m 0

  begins : length (front ++ replicate n 0) ≡ length front + n
  begins = length-append front (replicate n 0) ∙ ap (λ z. length front + z) (length-replicate n 0)

  pub table_words : length table ≡ length front + n + 1 + m
  table_words =
      let zeros : List ℕ = replicate m 0 in
      let behind : length zeros ≡ m = length-replicate m 0 in
      let parts : length table ≡ length (front ++ replicate n 0) + length (1 ∷ zeros) =
      length-append (front ++ replicate n 0) (1 ∷ zeros) in
      omega (arith, parts, begins, behind)

  pub table_front : (i : ℕ) → i < length front → slice_index table i ≡ slice_index front i
  table_front i low =
      get_or_append_left (front ++ replicate n 0) (1 ∷ replicate m 0) 0 i (omega (arith, begins))
      ∙ get_or_append_left front (replicate n 0) 0 i low

  pub table_zero : (i : ℕ) → length front ≤ i → i < length front + n → slice_index table i ≡ 0
  table_zero i low high =
      get_or_append_left (front ++ replicate n 0) (1 ∷ replicate m 0) 0 i (omega (arith, begins))
      ∙ get_or-append_right front (replicate n 0) (length front) i 0 refl low
      ∙ get_or-replicate n (i - length front) 0 0 (omega arith)

  -- the 1, and the zeros behind it
  pub table_mark : (i : ℕ) → i ≡ length front + n → slice_index table i ≡ 1
  table_mark i e =
      ap (λ j. slice_index table j) (e ∙ sym begins)
      ∙ get_or-append_seam (front ++ replicate n 0) 1 (replicate m 0) 0

  pub table_behind : (i : ℕ) → length front + n < i → i < length front + n + 1 + m → slice_index table i ≡ 0
  table_behind i low high =
      let marked : List ℕ = (front ++ replicate n 0) ++ 1 ∷ [] in
      let past : length marked ≡ length front + n + 1 =
      length-append (front ++ replicate n 0) (1 ∷ []) ∙ ap (λ z. z + 1) begins in
      ap (λ l. slice_index l i) (sym (append_assoc (front ++ replicate n 0) (1 ∷ []) (replicate m 0)))
      ∙ get_or-append_right marked (replicate m 0) (length marked) i 0 refl (omega (arith, low, past))
      ∙ get_or-replicate m (i - length marked) 0 0 (omega (arith, low, high, past))

-- the registers with which a table opens
abbrev pub registers : Session → List ℕ
registers k = ring_start ∷ k.ring ∷ ring_start ∷ ring_start ∷ capabilities k.way ∷ 0 ∷ (k.first - 1) ∷ []

pub opening_length : (k : Session) → length (opening_words k) ≡ table_length k.limits
opening_length k = table_words (registers k) (config_word - 7) (table_length k.limits - config_word - 1)
    ∙ omega arith

pub opening_register : (k : Session) (i : ℕ) → i < 7
    → slice_index (opening_words k) i ≡ slice_index (registers k) i
opening_register k i low = table_front (registers k) (config_word - 7)
    (table_length k.limits - config_word - 1) i low

pub opening_zero : (k : Session) (i : ℕ) → 7 ≤ i → i < fifo_dwords → slice_index (opening_words k) i ≡ 0
opening_zero k i low high =
    table_zero (registers k) (config_word - 7) (table_length k.limits - config_word - 1) i low (omega arith)

-- the ring's layout is that of a session
pub opening_is_layout : (k : Session) → IsLayout (opening_layout k)
opening_is_layout k = record {
  least = k.within.ring_end.least;
  most = k.within.ring_end.most;
  whole = k.within.whole_words;
}
