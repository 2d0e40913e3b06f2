-- Numbers in hexadecimal digits.
use Rattle.std.specs.Prelude.{ℕ, ◌+◌, ◌/◌, ◌%◌, List, [], ◌∷◌, ◌++◌, nat_lt, if◌then◌else◌}

-- a digit of 0 to 9 and a to f
abbrev pub hex_digit : ℕ → ℕ
hex_digit n = if nat_lt n 10 then 48 + n else 87 + n

-- the two digits of a byte
abbrev pub hex_byte : ℕ → List ℕ
hex_byte byte = hex_digit (byte / 16) ∷ hex_digit (byte % 16) ∷ []

-- the six digits of a colour: red, green and blue
abbrev pub hex_colour : ℕ → List ℕ
hex_colour colour = hex_byte (colour / 65536) ++ hex_byte (colour / 256 % 256) ++ hex_byte (colour % 256)
