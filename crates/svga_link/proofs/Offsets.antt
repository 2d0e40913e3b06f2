-- The offsets of words in a session's ring, and their cells.
use Rattle.std.proofs.Common.{◌≡◌, ℕ, ◌/◌, ◌%◌, ◌<◌, ◌≤◌, ◌∙◌, arith}
use Rattle.atomic_table.specs.Seated.{TableId}
use Rattle.svga_cmd.specs.declared.session.Session.{Session}
use Rattle.svga_ring.proofs.Words.Turns.{some_dwords}
use Rattle.svga_ring.specs.Layouts.{IsLayout, ring_start, word_address, word_cell}
use Rattle.svga_ring.specs.Views.{opening_layout}
use Rattle.svga_link.specs.Seats.{IsTableOf}

-- the session's layout
pub layout_of : (k : Session) → IsLayout (opening_layout k)
layout_of k = record { least = k.within.ring_end.least; most = k.within.ring_end.most; whole = k.within.whole_words }

-- the offset of a word is one of the ring, of whole dwords
pub record IsOffsetOf (k : Session) (offset n : ℕ) : Type 0 where
  pub least : ring_start ≤ offset
  pub below : offset < k.ring
  pub whole : offset % 4 ≡ 0
  pub cell : offset / 4 ≡ word_cell (opening_layout k) n

pub offset_of : (k : Session) (offset n : ℕ) → offset ≡ word_address (opening_layout k) n → IsOffsetOf k offset n
offset_of k offset n is =
    let some = some_dwords (opening_layout k) (layout_of k) in record {
      least = omega (arith, is);
      below = omega (arith, is, some.0, k.within.whole_words);
      whole = omega (arith, is);
      cell = omega (arith, is);
    }

-- a step leaves the seat at its table
pub table_stays : (shared : TableId) (key session : Session) (own left : TableId)
    → IsTableOf shared key session own → left ≡ own → IsTableOf shared key session left
table_stays shared key session own left is same =
    record { one_table = same ∙ is.one_table; key_is = is.key_is; words = is.words; slots = is.slots }
