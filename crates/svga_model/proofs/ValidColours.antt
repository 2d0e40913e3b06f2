-- Bytes below 256 make colours below 2^24, and such colours make such bytes.
use Rattle.std.proofs.Common.{ℕ, ◌+◌, ◌*◌, ◌/◌, ◌%◌, ◌<◌, [], ◌∷◌, All, Some, None, IfSome, Bool, true, false, cond, arith}
use Rattle.std.proofs.lemmas.List.Elements.{All-cons, All-nil}
use Rattle.svga_cmd.specs.declared.blit.Blit.{Blit}
use Rattle.svga_cmd.specs.declared.constants.TheConstants.{COLOURS}
use Rattle.svga_cmd.specs.declared.format.Format.{Format}
use Rattle.svga_cmd.specs.declared.format.Format.TheVariants.{Bgrx32, Bgr24, Rgb565, Rgb555}
use Rattle.svga_cmd.specs.declared.gmrfb.Gmrfb.{Gmrfb}
use Rattle.svga_cmd.specs.declared.limits.Limits.{Limits}
use Rattle.svga_cmd.specs.declared.screen.ScreenDef.{ScreenDef}
use Rattle.svga_model.specs.BlitEffects.{blit_colour, colour_at, update_colour}
use Rattle.svga_model.specs.Colours.{blue_of, bytes_of, colour_in_555, colour_in_565, eight_from_five, eight_from_six, green_of, red_of, rgb, word_in_555, word_in_565}

-- a colour of 24 bits
abbrev pub IsColour : ℕ → Type 0
IsColour c = c < COLOURS

-- a byte of 8 bits
abbrev pub IsByte : ℕ → Type 0
IsByte b = b < 256

-- parts of 8 bits make a colour
rgb_colour : (r g b : ℕ) → IsByte r → IsByte g → IsByte b → IsColour (rgb r g b)
rgb_colour r g b hr hg hb = omega arith

-- five bits, and six, fit eight
five : (v : ℕ) → v < 32 → IsByte (eight_from_five v)
five v l = omega arith

six : (v : ℕ) → v < 64 → IsByte (eight_from_six v)
six v l = omega arith

-- the colour of any word
colour_565 : (word : ℕ) → IsColour (colour_in_565 word)
colour_565 word =
    rgb_colour (eight_from_five (word / 2048 % 32)) (eight_from_six (word / 32 % 64)) (eight_from_five (word % 32))
    (five (word / 2048 % 32) (omega arith)) (six (word / 32 % 64) (omega arith)) (five (word % 32) (omega arith))

colour_555 : (word : ℕ) → IsColour (colour_in_555 word)
colour_555 word =
    rgb_colour (eight_from_five (word / 1024 % 32)) (eight_from_five (word / 32 % 32)) (eight_from_five (word % 32))
    (five (word / 1024 % 32) (omega arith)) (five (word / 32 % 32) (omega arith)) (five (word % 32) (omega arith))

-- the colour of a pixel's bytes
pub colour_at-good : (bytes : ℕ → ℕ) (format : Format) (i : ℕ) → ((k : ℕ) → IsByte (bytes k))
    → IsColour (colour_at bytes format i)
colour_at-good bytes Bgrx32 i h = rgb_colour (bytes (i + 1 + 1)) (bytes (i + 1)) (bytes i) (h (i + 1 + 1)) (h (i + 1))
    (h i)
colour_at-good bytes Bgr24 i h = rgb_colour (bytes (i + 1 + 1)) (bytes (i + 1)) (bytes i) (h (i + 1 + 1)) (h (i + 1))
    (h i)
colour_at-good bytes Rgb565 i h = colour_565 (bytes i + 256 * bytes (i + 1))
colour_at-good bytes Rgb555 i h = colour_555 (bytes i + 256 * bytes (i + 1))

-- a colour that is given where a test is true
if_good : (t : Bool) (c : ℕ) → IsColour c → IfSome (cond t (Some c) None) IsColour
if_good true c h = h
if_good false c h = tt

-- the colours that a blit gives
pub blit_colour-good : (bytes : ℕ → ℕ) (g : Gmrfb) (b : Blit) (id : ℕ) (d : ScreenDef) (x y : ℕ)
    → ((k : ℕ) → IsByte (bytes k)) → IfSome (blit_colour bytes g b id d x y) IsColour
blit_colour-good bytes g b id d x y h = if_good _ _ (colour_at-good bytes g.format _ h)

-- the colours that an UPDATE gives
pub update_colour-good : (bytes : ℕ → ℕ) (l : Limits) (left top width height : ℕ) (d : ScreenDef) (x y : ℕ)
    → ((k : ℕ) → IsByte (bytes k)) → IfSome (update_colour bytes l left top width height d x y) IsColour
update_colour-good bytes l left top width height d x y h = if_good _ _ (colour_at-good bytes Bgrx32 _ h)

-- two bytes, and three
two : (a b : ℕ) → IsByte a → IsByte b → All IsByte (a ∷ b ∷ [])
two a b ha hb = All-cons IsByte a (b ∷ []) ha (All-cons IsByte b [] hb (All-nil IsByte))

three : (a b c : ℕ) → IsByte a → IsByte b → IsByte c → All IsByte (a ∷ b ∷ c ∷ [])
three a b c ha hb hc = All-cons IsByte a (b ∷ c ∷ []) ha (two b c hb hc)

-- a colour's word is one of 16 bits
word_565 : (c : ℕ) → IsColour c → word_in_565 c < 65536
word_565 c l = omega arith

word_555 : (c : ℕ) → IsColour c → word_in_555 c < 65536
word_555 c l = omega arith

-- the bytes of a word
low_byte : (word : ℕ) → IsByte (word % 256)
low_byte word = omega arith

high_byte : (word : ℕ) → word < 65536 → IsByte (word / 256)
high_byte word l = omega arith

-- the bytes of a colour
pub bytes_of-good : (format : Format) (c : ℕ) → IsColour c → All IsByte (bytes_of format c)
bytes_of-good Bgrx32 c l =
    All-cons IsByte (blue_of c) (green_of c ∷ red_of c ∷ 0 ∷ []) (omega arith)
    (three (green_of c) (red_of c) 0 (omega arith) (omega arith) (omega arith))
bytes_of-good Bgr24 c l = three (blue_of c) (green_of c) (red_of c) (omega arith) (omega arith) (omega arith)
bytes_of-good Rgb565 c l = two (word_in_565 c % 256) (word_in_565 c / 256) (low_byte (word_in_565 c))
    (high_byte (word_in_565 c) (word_565 c l))
bytes_of-good Rgb555 c l = two (word_in_555 c % 256) (word_in_555 c / 256) (low_byte (word_in_555 c))
    (high_byte (word_in_555 c) (word_555 c l))
