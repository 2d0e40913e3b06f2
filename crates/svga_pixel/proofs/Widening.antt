-- What a lane computes of a word of 16 bits is its colour.
use Rattle.std.proofs.Common.{◌≡◌, ℕ, ◌+◌, ◌*◌, ◌/◌, ◌%◌, ◌<◌, ap, arith, ◌∙◌, bit_and}
use Rattle.std.proofs.lemmas.Nat.{and_mask}
use Rattle.std.proofs.lemmas.Nat.Bits.{and_high}
use Rattle.svga_model.specs.Colours.{colour_in_555, colour_in_565, eight_from_five, eight_from_six}

five : (v : ℕ) → v < 32 → v * 1057 % 65536 / 128 ≡ eight_from_five v
five v small = omega arith

-- five bits that a mask leaves
low_five : (v : ℕ) → bit_and v 31 * 1057 % 65536 / 128 ≡ eight_from_five (v % 32)
low_five v = ap (λ m. m * 1057 % 65536 / 128) (and_mask v 5) ∙ five (v % 32) (omega arith)

upper_six : (v : ℕ) → v < 64 → (v * 1040 % 65536) / 256 % 256 * 256 ≡ 256 * eight_from_six v
upper_six v small = omega arith

upper_five : (v : ℕ) → v < 32 → (v * 2114 % 65536) / 256 % 256 * 256 ≡ 256 * eight_from_five v
upper_five v small = omega arith

-- the same in the upper byte
green_six : (v : ℕ) → bit_and (bit_and v 63 * 1040 % 65536) 65280 ≡ 256 * eight_from_six (v % 64)
green_six v = ap (λ m. bit_and (m * 1040 % 65536) 65280) (and_mask v 6) ∙ and_high (v % 64 * 1040 % 65536) 8 8 ∙ upper_six (v % 64) (omega arith)

green_five : (v : ℕ) → bit_and (bit_and v 31 * 2114 % 65536) 65280 ≡ 256 * eight_from_five (v % 32)
green_five v = ap (λ m. bit_and (m * 2114 % 65536) 65280) (and_mask v 5) ∙ and_high (v % 32 * 2114 % 65536) 8 8 ∙ upper_five (v % 32) (omega arith)

five_small : (v : ℕ) → eight_from_five (v % 32) < 256
five_small v = omega arith

six_small : (v : ℕ) → eight_from_six (v % 64) < 256
six_small v = omega arith

-- the parts of a colour beside one another
mixed : (x y z r g b : ℕ) → x ≡ 256 * g → y ≡ b → z ≡ r → r < 256 → g < 256 → b < 256 → ((x + y) % 65536 + z * 65536 % 4294967296) % 4294967296 ≡ 65536 * r + 256 * g + b
mixed x y z r g b p q e small_r small_g small_b = omega arith

whole_five : (w : ℕ) → w < 65536 → w / 2048 ≡ w / 2048 % 32
whole_five w small = omega arith

pub lane_565 : (w : ℕ) → w < 65536 → ((bit_and (bit_and (w / 32) 63 * 1040 % 65536) 65280 + bit_and w 31 * 1057 % 65536 / 128) % 65536 + w / 2048 * 1057 % 65536 / 128 * 65536 % 4294967296) % 4294967296 ≡ colour_in_565 w
lane_565 w small =
    mixed _ _ _ _ _ _ (green_six (w / 32)) (low_five w) (five (w / 2048) (omega arith) ∙ ap (λ v. eight_from_five v) (whole_five w small)) (five_small (w / 2048)) (six_small (w / 32)) (five_small w)

pub lane_555 : (w : ℕ) → w < 65536 → ((bit_and (bit_and (w / 32) 31 * 2114 % 65536) 65280 + bit_and w 31 * 1057 % 65536 / 128) % 65536 + bit_and (w / 1024) 31 * 1057 % 65536 / 128 * 65536 % 4294967296) % 4294967296 ≡ colour_in_555 w
lane_555 w small =
    mixed _ _ _ _ _ _ (green_five (w / 32)) (low_five w) (low_five (w / 1024)) (five_small (w / 1024)) (five_small (w / 32)) (five_small w)

mixed_small : (r g b : ℕ) → r < 256 → g < 256 → b < 256 → 65536 * r + 256 * g + b < 16777216
mixed_small r g b small_r small_g small_b = omega arith

pub small_565 : (w : ℕ) → colour_in_565 w < 16777216
small_565 w = mixed_small _ _ _ (five_small (w / 2048)) (six_small (w / 32)) (five_small w)

pub small_555 : (w : ℕ) → colour_in_555 w < 16777216
small_555 w = mixed_small _ _ _ (five_small (w / 1024)) (five_small (w / 32)) (five_small w)
