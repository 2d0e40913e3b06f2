-- How many words a command has, told by its first words.
use Rattle.std.specs.Prelude.{ℕ, ◌+◌, ◌*◌, ◌==◌, if◌then◌else◌, List, slice_index}
use Rattle.svga_cmd.specs.declared.constants.TheConstants.{SCREEN_SIZE, SVGA_CMD_BLIT_GMRFB_TO_SCREEN, SVGA_CMD_BLIT_SCREEN_TO_GMRFB, SVGA_CMD_DEFINE_GMR2, SVGA_CMD_DEFINE_GMRFB, SVGA_CMD_DEFINE_SCREEN, SVGA_CMD_DESTROY_SCREEN, SVGA_CMD_FENCE, SVGA_CMD_UPDATE, SVGA_REMAP_GMR2_PPN32, SVGA_REMAP_GMR2_PPN64, SVGA_REMAP_GMR2_SINGLE_PPN}

-- how many words the entries of a remap take, by its flag word and its number of pages
abbrev pub entry_count : ℕ → ℕ → ℕ
entry_count flags pages =
    if flags == SVGA_REMAP_GMR2_PPN32 then pages else
    if flags == SVGA_REMAP_GMR2_PPN64 then 2 * pages else
    if flags == SVGA_REMAP_GMR2_SINGLE_PPN then 1 else 2

-- how many words the command of this id has, by its words 1, 2 and 4
abbrev pub count_by_id : ℕ → ℕ → ℕ → ℕ → ℕ
count_by_id id size flags pages =
    if id == SVGA_CMD_UPDATE then 5 else
    if id == SVGA_CMD_FENCE then 2 else
    if id == SVGA_CMD_DEFINE_SCREEN then (if size == SCREEN_SIZE then 8 else 12) else
    if id == SVGA_CMD_DESTROY_SCREEN then 2 else
    if id == SVGA_CMD_DEFINE_GMRFB then 5 else
    if id == SVGA_CMD_BLIT_GMRFB_TO_SCREEN then 8 else
    if id == SVGA_CMD_BLIT_SCREEN_TO_GMRFB then 8 else
    if id == SVGA_CMD_DEFINE_GMR2 then 3 else
    5 + entry_count flags pages

-- how many words the command has that begins so; where the words don't tell yet, a number above theirs
abbrev pub whole_length : List ℕ → ℕ
whole_length ws = count_by_id (slice_index ws 0) (slice_index ws 1) (slice_index ws 2) (slice_index ws 4)
