-- The words that a command's fields are spelled as.
use Rattle.std.specs.Prelude.{ℕ, ◌+◌, ℤ, List, [], ◌∷◌, Option, Some, None}
use Rattle.std.specs.Int.{cast_unsigned, w32}
use Rattle.svga_cmd.specs.declared.blit.Blit.{Blit}
use Rattle.svga_cmd.specs.declared.constants.TheConstants.{BACKED_SCREEN_SIZE, BGR24_WORD, BGRX32_WORD, RGB555_WORD, RGB565_WORD, SCREEN_SIZE, SVGA_REMAP_GMR2_PPN32, SVGA_REMAP_GMR2_PPN64, SVGA_REMAP_GMR2_SINGLE_PPN, SVGA_REMAP_GMR2_VIA_GMR}
use Rattle.svga_cmd.specs.declared.format.Format.{Format}
use Rattle.svga_cmd.specs.declared.format.Format.TheVariants.{Bgrx32, Bgr24, Rgb565, Rgb555}
use Rattle.svga_cmd.specs.declared.remap.RemapData.{RemapData}
use Rattle.svga_cmd.specs.declared.remap.RemapData.TheVariants.{Ppn32, Ppn64, SinglePpn32, SinglePpn64, ViaGmr32, ViaGmr64}
use Rattle.svga_cmd.specs.declared.screen.Backing.{Backing}

-- a signed number, in two's complement
abbrev pub word_of : ℤ → ℕ
word_of z = cast_unsigned w32 z

-- a pixel format: its lowest byte counts the bits of a pixel, the next those that are colour
abbrev pub format_word : Format → ℕ
format_word Bgrx32 = BGRX32_WORD
format_word Bgr24 = BGR24_WORD
format_word Rgb565 = RGB565_WORD
format_word Rgb555 = RGB555_WORD

-- the size of a screen's structure in bytes: a backing is four more words
abbrev pub struct_size : Option Backing → ℕ
struct_size None = SCREEN_SIZE
struct_size (Some b) = BACKED_SCREEN_SIZE

abbrev pub backing_words : Option Backing → List ℕ
backing_words None = []
backing_words (Some b) = b.region ∷ b.offset ∷ b.pitch ∷ b.clones ∷ []

abbrev pub blit_words : Blit → List ℕ
blit_words b =
    word_of b.point.x ∷ word_of b.point.y ∷ word_of b.rect.left ∷ word_of b.rect.top ∷ word_of b.rect.right
    ∷ word_of b.rect.bottom ∷ b.screen ∷ []

-- the flag word of a remap: for entries in a region, for 64 bits an entry, and for a single entry
abbrev pub flags_of : RemapData → ℕ
flags_of (Ppn32 list) = SVGA_REMAP_GMR2_PPN32
flags_of (ViaGmr32 pointer) = SVGA_REMAP_GMR2_VIA_GMR
flags_of (Ppn64 list) = SVGA_REMAP_GMR2_PPN64
flags_of (ViaGmr64 pointer) = SVGA_REMAP_GMR2_VIA_GMR + SVGA_REMAP_GMR2_PPN64
flags_of (SinglePpn32 page) = SVGA_REMAP_GMR2_SINGLE_PPN
flags_of (SinglePpn64 low high) = SVGA_REMAP_GMR2_SINGLE_PPN + SVGA_REMAP_GMR2_PPN64

-- the words of a remap's entries
abbrev pub entry_words : RemapData → List ℕ
entry_words (Ppn32 list) = list
entry_words (Ppn64 list) = list
entry_words (SinglePpn32 page) = page ∷ []
entry_words (SinglePpn64 low high) = low ∷ high ∷ []
entry_words (ViaGmr32 pointer) = pointer.region ∷ pointer.offset ∷ []
entry_words (ViaGmr64 pointer) = pointer.region ∷ pointer.offset ∷ []
