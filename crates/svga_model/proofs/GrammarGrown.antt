-- One word more behind words that have begun: the command goes on, or it is whole, or the table refuses the
-- word.
use Rattle.std.proofs.Common.{◌≡◌, ℕ, ◌+◌, ◌≤◌, ◌<◌, ◌≢◌, List, length, take, slice_index, sym, subst, None, arith, inl, inr, below_more, length-take}
use Rattle.std.proofs.lemmas.Grind.{common_steps}
use Rattle.std.proofs.lemmas.List.{get_or-take}
use Rattle.svga_cmd.specs.declared.constants.TheConstants.{MAX_COMMAND_WORDS}
use Rattle.svga_model.specs.Accepted.{AreAccepted, IsCommandPart, IsCommandWhole}
use Rattle.svga_model.specs.Lengths.{whole_length}
use Rattle.svga_model.specs.RefusedWords.{refusal}
use Rattle.svga_model.proofs.GrammarLengths.{one_at_least, one_more, whole_length-le}
use Rattle.svga_model.proofs.GrammarTable.{known, le_or_lt}

-- what holds of each word of the front, and of the last word, holds of each
each_more : (P : ℕ → ℕ → ℕ → Type 0) (n : ℕ) (ws : List ℕ) → length ws ≡ n + 1 → ((i : ℕ) → i < length (take n ws) → P i (slice_index (take n ws) 0) (slice_index (take n ws) i)) → P n (slice_index ws 0) (slice_index ws n) → (i : ℕ) → i < length ws → P i (slice_index ws 0) (slice_index ws i)
each_more P n ws e h r i l = below_more (λ k. P k (slice_index ws 0) (slice_index ws k)) n
    (λ k less.
    let pos : 0 < n = omega arith in
    let front : k < length (take n ws) = grind (arith, common_steps) in
    subst (λ a. P k a (slice_index ws k)) (get_or-take n ws 0 0 pos) (subst (λ b. P k (slice_index (take n ws) 0) b) (get_or-take n ws k 0 less) (h k front)))
    r i (omega arith)

-- the first n words are a part of a command, and the table takes the one behind them
pub record IsGrown (n : ℕ) (ws : List ℕ) : Type 0 where
  pub count : length ws ≡ n + 1
  pub part : IsCommandPart (take n ws)
  pub taken : refusal n (slice_index ws 0) (slice_index ws n) ≡ None

grown_accepted : (n : ℕ) (ws : List ℕ) → IsGrown n ws → AreAccepted ws
grown_accepted n ws g = each_more (λ i a b. refusal i a b ≡ None) n ws g.count g.part.accepted g.taken

grown_within : (n : ℕ) (ws : List ℕ) → IsGrown n ws → length ws ≤ whole_length ws
grown_within n ws g = elim (le_or_lt n 0) as (λ _. length ws ≤ whole_length ws) [
  | inl none ↦ omega (arith, g.count, one_at_least ws)
  | inr some ↦ omega (arith, g.count, more some)
]
  where
    more : 0 < n → n + 1 ≤ whole_length ws
    more some =
        let l : n < whole_length (take n ws) = omega (arith, g.count, g.part.short, length-take n ws) in
        one_more n (slice_index ws 0)
        (slice_index (take n ws) 1) (slice_index (take n ws) 2) (slice_index (take n ws) 4) (slice_index ws 1) (slice_index ws 2) (slice_index ws 4)
        (λ m. sym (get_or-take n ws 1 0 m)) (λ m. sym (get_or-take n ws 2 0 m)) (λ m. sym (get_or-take n ws 4 0 m))
        (known (slice_index ws 0) (grown_accepted n ws g 0 (omega (arith, g.count)))) some (rw (get_or-take n ws 0 0 some) at l)

pub grown_complete : (n : ℕ) (ws : List ℕ) → IsGrown n ws → length ws ≡ whole_length ws → IsCommandWhole ws
grown_complete n ws g full = record { accepted = grown_accepted n ws g; some = omega (arith, g.count); full = full }

pub grown_part : (n : ℕ) (ws : List ℕ) → IsGrown n ws → length ws ≢ whole_length ws → IsCommandPart ws
grown_part n ws g less = record { accepted = grown_accepted n ws g; short = omega (arith, grown_within n ws g, less) }

-- a part leaves room for one word more
pub part_room : (ws : List ℕ) → IsCommandPart ws → length ws < MAX_COMMAND_WORDS
part_room ws part = elim (le_or_lt (length ws) 4) as (λ _. length ws < MAX_COMMAND_WORDS) [
  | inl few ↦ omega arith
  | inr many ↦ omega (arith, whole_length-le ws part.accepted many, part.short)
]
