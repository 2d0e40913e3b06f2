-- Words of one command as the table of refused words sees them. They are what
-- begins a spelling, or is one: see proofs/.
use Rattle.std.specs.Prelude.{◌≡◌, ℕ, ◌<◌, ◌^◌, List, length, slice_index, None}
use Rattle.svga_model.specs.Lengths.{whole_length}
use Rattle.svga_model.specs.RefusedWords.{refusal}

-- each is a word of 32 bits
abbrev pub AreWords : List ℕ → Type 0
AreWords ws = (i : ℕ) → slice_index ws i < 2 ^ 32

-- none of these words is refused
abbrev pub AreAccepted : List ℕ → Type 0
AreAccepted ws = (i : ℕ) → i < length ws → refusal i (slice_index ws 0) (slice_index ws i) ≡ None

-- the words are accepted, and more belong to their command
pub record IsCommandPart (ws : List ℕ) : Type 0 where
  pub accepted : AreAccepted ws
  pub short : length ws < whole_length ws

-- the words are accepted, and a whole command
pub record IsCommandWhole (ws : List ℕ) : Type 0 where
  pub accepted : AreAccepted ws
  pub some : 0 < length ws
  pub full : length ws ≡ whole_length ws
