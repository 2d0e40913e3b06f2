-- Counts of words within one turn of the ring that share an address, or a cell, are one.
use Rattle.std.proofs.Common.{◌≡◌, ℕ, ◌+◌, ◌-◌, ◌%◌, ◌<◌, ◌≤◌, inl, inr, ◌⊎◌, sym, arith}
use Rattle.svga_ring.specs.SharedTable.{fifo_dwords, first_cell}
use Rattle.svga_model.proofs.Turns.{mod_turn}
use Rattle.svga_ring.specs.Layouts.{IsLayout, Layout, ring_dwords, word_address, word_cell}

-- the ring has more than 2,000 dwords, and fewer than there are
pub some_dwords : (lay : Layout) → IsLayout lay → (2560 ≤ ring_dwords lay) × (ring_dwords lay ≤ 65245)
some_dwords lay is = (omega (arith, is.least), omega (arith, is.most))

same_rest : (r a b : ℕ) → a ≤ b → b < a + r → a % r ≡ b % r → a ≡ b
same_rest r a b le lt e = elim (mod_turn r b a le lt) as (λ _. a ≡ b) [
  | inl here ↦ omega arith
  | inr there ↦ omega arith
]

-- two counts from one on that are less than a turn past it
pub record IsWithinTurn (lay : Layout) (start n : ℕ) : Type 0 where
  pub low : start ≤ n
  pub high : n < start + ring_dwords lay

in_order : (n m : ℕ) → (n ≤ m) ⊎ (m ≤ n)
in_order n m = grind arith

pub same_in_turn : (lay : Layout) (start n m : ℕ) → lay.base ≤ start → IsWithinTurn lay start n
    → IsWithinTurn lay start m
    → (n - lay.base) % ring_dwords lay ≡ (m - lay.base) % ring_dwords lay → n ≡ m
same_in_turn lay start n m base of_n of_m e = elim (in_order n m) as (λ _. n ≡ m) [
  | inl le ↦ (
      let same = same_rest (ring_dwords lay) (n - lay.base) (m - lay.base) (omega arith)
      (omega (arith, of_n.low, of_m.high)) e in
      omega (arith, same, of_n.low, of_m.low)
      )
  | inr ge ↦ (
      let same = same_rest (ring_dwords lay) (m - lay.base) (n - lay.base) (omega arith)
      (omega (arith, of_m.low, of_n.high)) (sym e) in
      omega (arith, same, of_n.low, of_m.low)
      )
]

-- by which a load of STOP or NEXT_CMD tells a count
pub same_count : (lay : Layout) (start n m : ℕ) → lay.base ≤ start → IsWithinTurn lay start n
    → IsWithinTurn lay start m
    → word_address lay n ≡ word_address lay m → n ≡ m
same_count lay start n m base of_n of_m e = same_in_turn lay start n m base of_n of_m (omega (arith, e))

-- and by which a store of a cell overwrites none that is still wanted
pub same_cell : (lay : Layout) (start n m : ℕ) → lay.base ≤ start → IsWithinTurn lay start n
    → IsWithinTurn lay start m
    → word_cell lay n ≡ word_cell lay m → n ≡ m
same_cell lay start n m base of_n of_m e = same_in_turn lay start n m base of_n of_m (omega (arith, e))

-- a cell is a dword of the ring
pub record IsCell (lay : Layout) (i : ℕ) : Type 0 where
  pub least : first_cell ≤ i
  pub below : i < first_cell + ring_dwords lay
  pub in_fifo : i < fifo_dwords

pub is_cell : (lay : Layout) (n : ℕ) → IsLayout lay → IsCell lay (word_cell lay n)
is_cell lay n is =
    let some = some_dwords lay is in
    record { least = omega arith; below = omega (arith, some.0); in_fifo = omega (arith, some.0, some.1) }
