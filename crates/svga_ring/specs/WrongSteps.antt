-- Steps of wrong ends.
use Rattle.std.specs.Prelude.{ℕ, ◌+◌, ◌-◌, ◌%◌, [], ◌∷◌, ◌++◌, length, true}
use Rattle.svga_ring.specs.Core.{Core, put_count, with_device, with_driver, with_word}
use Rattle.svga_ring.specs.Layouts.{ring_dwords, word_address}
use Rattle.svga_ring.specs.Noting.{NotedPages}
use Rattle.svga_ring.specs.SharedTable.{fence_word, first_cell, next_word}
use Rattle.svga_ring.specs.Views.{DriverView}

-- how far behind MIN the next word would stand, in dwords, were the pending ones written straight on from
-- NEXT_CMD
abbrev pub straight_offset : DriverView → ℕ
straight_offset d = (length d.sent - d.layout.base) % ring_dwords d.layout + length d.pending

-- it is written there
abbrev pub straight_on : ℕ → Core → Core
straight_on word c = with_driver (with_word c (first_cell + straight_offset c.driver) word)
    (record c.driver { pending = c.driver.pending ++ word ∷ [] })

-- NEXT_CMD is stored as if this word were written behind the pending ones
abbrev pub sending_ahead : ℕ → Core → Core
sending_ahead word c = with_driver (with_word c next_word
    (word_address c.driver.layout (put_count c.driver + 1)))
    (record c.driver { sent = (c.driver.sent ++ c.driver.pending) ++ word ∷ []; pending = [] })

-- FENCE gets this number as that of the fence in hand
abbrev pub storing_fence : ℕ → Core → Core
storing_fence value c = with_device (with_word c fence_word value) (record c.device { stored = true })

-- the driver takes so many fences for seen
abbrev pub claiming_seen : ℕ → Core → Core
claiming_seen seen c = with_driver c (record c.driver { seen = seen })

-- other pages are noted
abbrev pub with_notes : NotedPages → Core → Core
with_notes noted c = with_device c (record c.device { noted = noted })
