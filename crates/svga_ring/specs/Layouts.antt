-- Where the words that are sent stand in the ring, counted over all that are ever sent.
use Rattle.std.specs.Prelude.{◌≡◌, ℕ, ◌+◌, ◌-◌, ◌%◌, ◌≤◌}
use Rattle.svga_cmd.specs.declared.constants.TheConstants.{MAX_RING_END, MIN_RING_END, RING_START}
use Rattle.svga_model.specs.Addresses.{address, dwords_between}
use Rattle.svga_ring.specs.SharedTable.{first_cell}

-- MIN: the byte at which the ring begins
abbrev pub ring_start : ℕ
ring_start = RING_START

-- the byte at which the ring ends, and the number of a word that stands at its start
pub record Layout : Type 0 where
  pub max : ℕ
  pub base : ℕ

-- the end is that of a session's ring
pub record IsLayout (lay : Layout) : Type 0 where
  pub least : MIN_RING_END ≤ lay.max
  pub most : lay.max ≤ MAX_RING_END
  pub whole : lay.max % 4 ≡ 0

abbrev pub ring_dwords : Layout → ℕ
ring_dwords lay = dwords_between ring_start lay.max

-- the byte offset of word n, and its dword's number in the FIFO
abbrev pub word_address : Layout → ℕ → ℕ
word_address lay n = address ring_start (ring_dwords lay) (n - lay.base)

abbrev pub word_cell : Layout → ℕ → ℕ
word_cell lay n = first_cell + (n - lay.base) % ring_dwords lay
