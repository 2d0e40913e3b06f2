-- The table of refused words: which words no command has, by the word's
-- number in its command and the command's id.
use Rattle.std.specs.Prelude.{ℕ, ◌+◌, ◌&&◌, ◌||◌, ◌==◌, nat_le, if◌then◌else◌, Option, Some, None}
use Rattle.svga_cmd.specs.declared.cause.Cause.{Cause}
use Rattle.svga_cmd.specs.declared.cause.Cause.TheVariants.{BadFlags, BadFormat, BadSize, Escape, ThreeD, TooManyPages, Unknown, Unsupported}
use Rattle.svga_cmd.specs.declared.constants.TheConstants.{BACKED_SCREEN_SIZE, BGR24_WORD, BGRX32_WORD, FIRST_3D_ID, LAST_3D_ID, MAX_REMAP_PAGES, RGB555_WORD, RGB565_WORD, SCREEN_SIZE, SVGA_CMD_ANNOTATION_COPY, SVGA_CMD_ANNOTATION_FILL, SVGA_CMD_BLIT_GMRFB_TO_SCREEN, SVGA_CMD_BLIT_SCREEN_TO_GMRFB, SVGA_CMD_DEFINE_ALPHA_CURSOR, SVGA_CMD_DEFINE_CURSOR, SVGA_CMD_DEFINE_GMR2, SVGA_CMD_DEFINE_GMRFB, SVGA_CMD_DEFINE_SCREEN, SVGA_CMD_DESTROY_SCREEN, SVGA_CMD_ESCAPE, SVGA_CMD_FENCE, SVGA_CMD_FRONT_ROP_FILL, SVGA_CMD_RECT_COPY, SVGA_CMD_REMAP_GMR2, SVGA_CMD_UPDATE, SVGA_CMD_UPDATE_VERBOSE, SVGA_REMAP_GMR2_PPN64, SVGA_REMAP_GMR2_SINGLE_PPN}

-- Word 0 is the id: the nine commands are taken; others are known by name alone,
-- belong to 3D or to ESCAPE, or to nothing.
abbrev pub refusal_of_id : ℕ → Option Cause
refusal_of_id id =
    if id == SVGA_CMD_UPDATE || id == SVGA_CMD_FENCE || id == SVGA_CMD_DEFINE_SCREEN
    || id == SVGA_CMD_DESTROY_SCREEN || id == SVGA_CMD_DEFINE_GMRFB || id == SVGA_CMD_BLIT_GMRFB_TO_SCREEN
    || id == SVGA_CMD_BLIT_SCREEN_TO_GMRFB || id == SVGA_CMD_DEFINE_GMR2 || id == SVGA_CMD_REMAP_GMR2 then
    None else
    if id == SVGA_CMD_RECT_COPY || id == SVGA_CMD_DEFINE_CURSOR || id == SVGA_CMD_DEFINE_ALPHA_CURSOR
    || id == SVGA_CMD_UPDATE_VERBOSE || id == SVGA_CMD_FRONT_ROP_FILL || id == SVGA_CMD_ANNOTATION_FILL
    || id == SVGA_CMD_ANNOTATION_COPY then Some Unsupported else
    if id == SVGA_CMD_ESCAPE then Some Escape else
    if nat_le FIRST_3D_ID id && nat_le id LAST_3D_ID then Some ThreeD else Some Unknown

-- the size of a screen's structure in bytes
abbrev pub refusal_of_size : ℕ → Option Cause
refusal_of_size size = if size == SCREEN_SIZE || size == BACKED_SCREEN_SIZE then None else Some BadSize

-- the flag word of a remap
abbrev pub refusal_of_flags : ℕ → Option Cause
refusal_of_flags flags =
    if nat_le flags SVGA_REMAP_GMR2_SINGLE_PPN
    || flags == SVGA_REMAP_GMR2_SINGLE_PPN + SVGA_REMAP_GMR2_PPN64 then None else Some BadFlags

-- the word of a pixel format
abbrev pub refusal_of_format : ℕ → Option Cause
refusal_of_format format =
    if format == BGRX32_WORD || format == BGR24_WORD || format == RGB565_WORD || format == RGB555_WORD then
    None else Some BadFormat

-- the number of pages of a remap
abbrev pub refusal_of_pages : ℕ → Option Cause
refusal_of_pages pages = if nat_le pages MAX_REMAP_PAGES then None else Some TooManyPages

-- why the word with this number in the command of this id is refused, if it is
abbrev pub refusal : ℕ → ℕ → ℕ → Option Cause
refusal number id word =
    if number == 0 then refusal_of_id word else
    if number == 1 && id == SVGA_CMD_DEFINE_SCREEN then refusal_of_size word else
    if number == 2 && id == SVGA_CMD_REMAP_GMR2 then refusal_of_flags word else
    if number == 4 && id == SVGA_CMD_DEFINE_GMRFB then refusal_of_format word else
    if number == 4 && id == SVGA_CMD_REMAP_GMR2 then refusal_of_pages word else None
