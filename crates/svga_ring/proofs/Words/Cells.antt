-- A step that sets one word leaves what is said of the others.
use Rattle.std.proofs.Common.{◌≡◌, ◌≢◌, ◌⊎◌, inl, inr, ℕ, ◌+◌, ◌<◌, ◌≤◌, ◌^◌, List, [], ◌∷◌, ◌++◌, length, get_or, slice_set, refl, sym, ap, ◌∙◌, subst, arith, append_assoc, append-nil, length-append, length-set, get_or-set_other, get_or-set_same}
use Rattle.std.proofs.Math.Seq.{get_or-append_seam}
use Rattle.std.proofs.lemmas.Bool.{cases_lt}
use Rattle.std.proofs.lemmas.List.{get_or_append_left}
use Rattle.svga_cmd.specs.declared.limits.Limits.{Limits}
use Rattle.svga_cmd.specs.declared.session.Way.{Way}
use Rattle.svga_ring.proofs.Words.Turns.{is_cell, same_cell}
use Rattle.svga_ring.specs.Layouts.{IsLayout, Layout, ring_dwords, word_address, word_cell}
use Rattle.svga_ring.specs.SharedTable.{capabilities_word, fence_word, fifo_dwords, first_cell, max_word, min_word, next_word, stop_word}
use Rattle.svga_ring.specs.SoundWords.{AreFixed, AreInRing, IsFixed}

-- a word of which AreFixed says nothing
pub record IsOpen (lay : Layout) (i : ℕ) : Type 0 where
  pub not_min : i ≢ min_word
  pub not_capabilities : i ≢ capabilities_word
  pub not_fixed : IsFixed lay i → ⊥

pub open_next : (lay : Layout) → IsOpen lay next_word
open_next lay = record {
  not_min = omega arith;
  not_capabilities = omega arith;
  not_fixed = λ f.
      f.not_next refl;
}

pub open_stop : (lay : Layout) → IsOpen lay stop_word
open_stop lay = record {
  not_min = omega arith;
  not_capabilities = omega arith;
  not_fixed = λ f.
      f.not_stop refl;
}

pub open_fence : (lay : Layout) → IsOpen lay fence_word
open_fence lay = record {
  not_min = omega arith;
  not_capabilities = omega arith;
  not_fixed = λ f.
      f.not_fence refl;
}

pub open_behind : (lay : Layout) (i : ℕ) → fifo_dwords ≤ i → IsOpen lay i
open_behind lay i behind = record {
  not_min = omega (arith, behind);
  not_capabilities = omega (arith, behind);
  not_fixed = λ f. omega (arith, f.in_fifo, behind);
}

pub open_cell : (lay : Layout) (n : ℕ) → IsLayout lay → IsOpen lay (word_cell lay n)
open_cell lay n is =
    let cell = is_cell lay n is in record {
      not_min = omega (arith, cell.least);
      not_capabilities = omega (arith, cell.least);
      not_fixed = λ f. omega (arith, cell.least, cell.below, f.not_in_ring);
    }

pub fixed_set : (l : Limits) (way : Way) (lay : Layout) (words : List ℕ) (i x : ℕ) → IsOpen lay i
    → AreFixed l way lay words → AreFixed l way lay (slice_set words i x)
fixed_set l way lay words i x is o = record {
  length_is = length-set words i x ∙ o.length_is;
  min_is = get_or-set_other words i min_word x 0 (λ e. is.not_min (sym e)) ∙ o.min_is;
  capabilities_are = get_or-set_other words i capabilities_word x 0 (λ e. is.not_capabilities (sym e))
      ∙ o.capabilities_are;
  others = λ n fixed a b. get_or-set_other words i n x 0
      (λ e. is.not_fixed (subst (λ m. IsFixed lay m) e fixed))
      ∙ o.others n fixed a b;
}

-- the table has its registers and cells
pub long : (l : Limits) (way : Way) (lay : Layout) (words : List ℕ) → AreFixed l way lay words
    → fifo_dwords < length words
long l way lay words o = omega (arith, o.length_is)

-- a register isn't a cell
pub not_cell : (lay : Layout) (n i : ℕ) → IsLayout lay → i < first_cell → word_cell lay n ≢ i
not_cell lay n i is low e = let cell = is_cell lay n is in omega (arith, cell.least, e)

-- a word that is no register of the ring, and no cell
abbrev pub IsBesideRing : ℕ → Type 0
IsBesideRing i = (stop_word < i) × ((i < first_cell) ⊎ (fifo_dwords ≤ i))

-- such a word is stored
pub ring_beside : {lay : Layout} {words sent pending taken : List ℕ} {stop : ℕ} (i x : ℕ) → IsLayout lay
    → IsBesideRing i → AreInRing lay words sent pending taken stop
    → AreInRing lay (slice_set words i x) sent pending taken stop
ring_beside {lay = lay} {words = words} i x is beside o = record {
  next_is = get_or-set_other words i next_word x 0 (omega (arith, beside.0)) ∙ o.next_is;
  stop_is = get_or-set_other words i stop_word x 0 (omega (arith, beside.0)) ∙ o.stop_is;
  max_is = get_or-set_other words i max_word x 0 (omega (arith, beside.0)) ∙ o.max_is;
  base_known = o.base_known;
  known_stop = o.known_stop;
  room = o.room;
  cells = λ n low high. (
      let cell = is_cell lay n is in
      get_or-set_other words i (word_cell lay n) x 0 (omega (arith, beside.1, cell.least, cell.in_fifo))
      ∙ o.cells n low high
      );
  dwords = o.dwords;
  short = o.short;
}

-- NEXT_CMD is stored: the pending words are sent
pub ring_sent : (lay : Layout) (words sent pending taken : List ℕ) (stop x : ℕ) → IsLayout lay
    → fifo_dwords < length words
    → x ≡ word_address lay (length sent + length pending)
    → AreInRing lay words sent pending taken stop
    → AreInRing lay (slice_set words next_word x) (sent ++ pending) [] taken stop
ring_sent lay words sent pending taken stop x is wide here o =
    let longer : length (sent ++ pending) ≡ length sent + length pending = length-append sent pending in
    record {
      next_is = get_or-set_same words next_word x 0 (omega (arith, wide)) ∙ here
          ∙ ap (λ n. word_address lay n) (sym longer);
      stop_is = get_or-set_other words next_word stop_word x 0 (λ e. omega (arith, e)) ∙ o.stop_is;
      max_is = get_or-set_other words next_word max_word x 0 (λ e. omega (arith, e)) ∙ o.max_is;
      base_known = o.base_known;
      known_stop = o.known_stop;
      room = omega (arith, o.room, longer);
      cells = λ n low high. get_or-set_other words next_word (word_cell lay n) x 0
          (not_cell lay n next_word is (omega arith))
          ∙ o.cells n low (omega (arith, high, longer))
          ∙ ap (λ l. get_or l n 0) (sym (append-nil (sent ++ pending)));
      dwords = λ n less. subst (λ l. get_or l n 0 < 2 ^ 32) (sym (append-nil (sent ++ pending)))
          (o.dwords n (omega (arith, less, longer)));
      short = omega (arith, o.short, longer);
    }

-- STOP is stored: the words that were read are taken
pub ring_taken : (lay : Layout) (words sent pending taken read : List ℕ) (stop x : ℕ) → IsLayout lay
    → fifo_dwords < length words → x ≡ word_address lay (length taken + length read)
    → AreInRing lay words sent pending taken stop
    → AreInRing lay (slice_set words stop_word x) sent pending (taken ++ read) stop
ring_taken lay words sent pending taken read stop x is wide here o =
    let longer : length (taken ++ read) ≡ length taken + length read = length-append taken read in
    record {
      next_is = get_or-set_other words stop_word next_word x 0 (λ e. omega (arith, e)) ∙ o.next_is;
      stop_is = get_or-set_same words stop_word x 0 (omega (arith, wide)) ∙ here
          ∙ ap (λ n. word_address lay n) (sym longer);
      max_is = get_or-set_other words stop_word max_word x 0 (λ e. omega (arith, e)) ∙ o.max_is;
      base_known = o.base_known;
      known_stop = omega (arith, o.known_stop, longer);
      room = o.room;
      cells = λ n low high. get_or-set_other words stop_word (word_cell lay n) x 0
          (not_cell lay n stop_word is (omega arith))
          ∙ o.cells n (omega (arith, low, longer)) high;
      dwords = o.dwords;
      short = o.short;
    }

-- the word behind those sent and pending
pub last_word : (sent pending : List ℕ) (x n : ℕ) → n ≡ length sent + length pending
    → get_or (sent ++ (pending ++ x ∷ [])) n 0 ≡ x
last_word sent pending x n e =
    ap (λ l. get_or l n 0) (sym (append_assoc sent pending (x ∷ [])))
    ∙ ap (λ m. get_or ((sent ++ pending) ++ x ∷ []) m 0) (e ∙ sym (length-append sent pending))
    ∙ get_or-append_seam (sent ++ pending) x [] 0

-- and one before it
earlier_word : (sent pending : List ℕ) (x n : ℕ) → n < length sent + length pending
    → get_or (sent ++ (pending ++ x ∷ [])) n 0 ≡ get_or (sent ++ pending) n 0
earlier_word sent pending x n less =
    ap (λ l. get_or l n 0) (sym (append_assoc sent pending (x ∷ [])))
    ∙ get_or_append_left (sent ++ pending) (x ∷ []) 0 n (omega (arith, less, length-append sent pending))

-- a cell is stored: one word more is pending
pub ring_cell : (lay : Layout) (words sent pending taken : List ℕ) (stop i x : ℕ) → IsLayout lay
    → fifo_dwords < length words
    → i ≡ word_cell lay (length sent + length pending)
    → length sent + length pending + 1 < stop + ring_dwords lay → length sent + length pending < 2 ^ 62
    → length taken ≤ length sent → x < 2 ^ 32
    → AreInRing lay words sent pending taken stop
    → AreInRing lay (slice_set words i x) sent (pending ++ x ∷ []) taken stop
ring_cell lay words sent pending taken stop i x is wide here room short behind fits o = record {
  next_is = get_or-set_other words i next_word x 0 (λ e. register next_word (omega arith) (sym e))
      ∙ o.next_is;
  stop_is = get_or-set_other words i stop_word x 0 (λ e. register stop_word (omega arith) (sym e))
      ∙ o.stop_is;
  max_is = get_or-set_other words i max_word x 0 (λ e. register max_word (omega arith) (sym e)) ∙ o.max_is;
  base_known = o.base_known;
  known_stop = o.known_stop;
  room = omega (arith, room, longer);
  cells = λ n low high. elim (cases_lt n (length sent + length pending)) as (λ _. Stands n) [
    | inl less ↦ get_or-set_other words i (word_cell lay n) x 0 (apart n low less) ∙ o.cells n low less
        ∙ sym (earlier_word sent pending x n less)
    | inr past ↦ stored n (omega (arith, past, high, longer))
  ];
  dwords = λ n less. elim (cases_lt n (length sent + length pending)) as
      (λ _. get_or (sent ++ (pending ++ x ∷ [])) n 0 < 2 ^ 32) [
        | inl low ↦ subst (λ w. w < 2 ^ 32) (sym (earlier_word sent pending x n low)) (o.dwords n low)
        | inr past ↦ subst (λ w. w < 2 ^ 32) (sym
            (last_word sent pending x n (omega (arith, past, less, longer)))) fits
      ];
  short = omega (arith, short, longer);
}
  where
    Stands : ℕ → Type 0
    Stands n = get_or (slice_set words i x) (word_cell lay n) 0 ≡ get_or (sent ++ (pending ++ x ∷ [])) n 0

    longer : length (pending ++ x ∷ []) ≡ length pending + 1
    longer = length-append pending (x ∷ [])

    register : (j : ℕ) → j < first_cell → i ≢ j
    register j low e = not_cell lay (length sent + length pending) j is low (sym here ∙ e)

    inside : i < length words
    inside = let cell = is_cell lay (length sent + length pending) is in
        omega (arith, cell.in_fifo, wide, here)

    stored : (n : ℕ) → n ≡ length sent + length pending → Stands n
    stored n same = ap (λ m. get_or (slice_set words i x) m 0) (ap (λ m. word_cell lay m) same ∙ sym here)
        ∙ get_or-set_same words i x 0 inside ∙ sym (last_word sent pending x n same)

    apart : (n : ℕ) → length taken ≤ n → n < length sent + length pending → word_cell lay n ≢ i
    apart n low less e =
        let same = same_cell lay (length taken) n (length sent + length pending)
        (omega (arith, o.base_known, o.known_stop))
        (record { low = low; high = omega (arith, less, room, o.known_stop) })
        (record { low = omega (arith, behind); high = omega (arith, room, o.known_stop) }) (e ∙ here) in
        omega (arith, same, less)
