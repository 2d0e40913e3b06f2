-- The words of the shared table: the FIFO's dwords, and behind them the words of stopping, of requests and of
-- pages.
use Rattle.std.specs.Prelude.{ℕ, ◌+◌, ◌/◌}
use Rattle.svga_cmd.specs.Limits.{frame_page_count}
use Rattle.svga_cmd.specs.declared.constants.TheConstants.{MAX_RING_END, SVGA_FIFO_CAPABILITIES, SVGA_FIFO_FENCE, SVGA_FIFO_MAX, SVGA_FIFO_MIN, SVGA_FIFO_NEXT_CMD, SVGA_FIFO_NUM_REGS, SVGA_FIFO_RESERVED, SVGA_FIFO_STOP}
use Rattle.svga_cmd.specs.declared.limits.Limits.{Limits}
use Rattle.svga_cmd.specs.declared.page.PageKey.{PageKey}
use Rattle.svga_cmd.specs.declared.page.PageKey.TheVariants.{Guest, Frame}

-- the FIFO's registers that are used
abbrev pub min_word : ℕ
min_word = SVGA_FIFO_MIN

abbrev pub max_word : ℕ
max_word = SVGA_FIFO_MAX

abbrev pub next_word : ℕ
next_word = SVGA_FIFO_NEXT_CMD

abbrev pub stop_word : ℕ
stop_word = SVGA_FIFO_STOP

abbrev pub capabilities_word : ℕ
capabilities_word = SVGA_FIFO_CAPABILITIES

abbrev pub fence_word : ℕ
fence_word = SVGA_FIFO_FENCE

abbrev pub reserved_word : ℕ
reserved_word = SVGA_FIFO_RESERVED

-- the first dword of the ring, behind the registers
abbrev pub first_cell : ℕ
first_cell = SVGA_FIFO_NUM_REGS

-- how many dwords the FIFO has: as many as the largest ring ends at
abbrev pub fifo_dwords : ℕ
fifo_dwords = MAX_RING_END / 4

-- 1 until the driver stops
abbrev pub config_word : ℕ
config_word = fifo_dwords

-- the driver's last request, and the number of the last one that was answered
abbrev pub request_word : ℕ
request_word = config_word + 1

abbrev pub reply_word : ℕ
reply_word = config_word + 2

abbrev pub first_page_word : ℕ
first_page_word = config_word + 3

-- the number of a page's slot: those of guest memory come first, and then those of the framebuffer
abbrev pub slot_number : Limits → PageKey → ℕ
slot_number l (Guest p) = p
slot_number l (Frame g) = l.pages + g

-- the word that says where a page is
abbrev pub page_word : Limits → PageKey → ℕ
page_word l key = first_page_word + slot_number l key

abbrev pub page_count : Limits → ℕ
page_count l = l.pages + frame_page_count l

-- how many words the table has
abbrev pub table_length : Limits → ℕ
table_length l = first_page_word + page_count l
