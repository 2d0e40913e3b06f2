-- Where the words of the FIFO stand: one behind another, and round the ring again.
use Rattle.std.specs.Prelude.{ℕ, ◌+◌, ◌-◌, ◌*◌, ◌/◌, ◌%◌}

-- how many dwords lie between two byte offsets
abbrev pub dwords_between : ℕ → ℕ → ℕ
dwords_between low high = (high - low) / 4

-- the address of word n, counted over all words ever sent, in a ring of
-- so many dwords from byte offset low on
abbrev pub address : ℕ → ℕ → ℕ → ℕ
address low dwords n = low + 4 * (n % dwords)
