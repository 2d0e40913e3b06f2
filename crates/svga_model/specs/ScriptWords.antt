-- The words of a script's line, and what they say. What is said of letters that aren't
-- spelled as they should be decides nothing.
use Rattle.std.specs.Prelude.{ℕ, suc, ◌+◌, ◌-◌, ◌*◌, ℤ, pos, negsuc, List, [], ◌∷◌, length, drop, codes, Bool, true, false, nat_lt, nat_le, ◌==◌, ◌&&◌, ◌||◌, not, if◌then◌else◌, Option, Some, None}
use Rattle.std.specs.List.{list_all}
use Rattle.std.specs.Str.{bytes_eq}
use Rattle.svga_cmd.specs.declared.constants.TheConstants.{PAGE_SIZE}
use Rattle.svga_cmd.specs.declared.format.Format.{Format}
use Rattle.svga_cmd.specs.declared.format.Format.TheVariants.{Bgrx32, Bgr24, Rgb565, Rgb555}
use Rattle.svga_cmd.specs.declared.page.PageKey.{PageKey}
use Rattle.svga_cmd.specs.declared.page.PageKey.TheVariants.{Guest, Frame}
use Rattle.svga_cmd.specs.declared.session.Way.{Way}
use Rattle.svga_cmd.specs.declared.session.Way.TheVariants.{Reserve, Dword}
use Rattle.svga_model.specs.ClientActs.{PageRun}

-- a word: its letters, and the column at which it begins, counted in bytes from 1
pub record Word : Type 0 where
  pub column : ℕ
  pub letters : List ℕ

-- a letter before words that begin in the column behind it
abbrev pub letter_before : ℕ → ℕ → List Word → List Word
letter_before column letter [] = []
letter_before column letter (w ∷ words) = record { column = column; letters = letter ∷ w.letters } ∷ words

-- the words of what stands from a column on, parted by single spaces; where two spaces stand side by
-- side, or one at an end, a word is empty
abbrev pub words_from : ℕ → List ℕ → List Word
words_from column [] = record { column = column; letters = [] } ∷ []
words_from column (byte ∷ bytes) =
    if byte == 32 then record { column = column; letters = [] } ∷ words_from (suc column) bytes else
    letter_before column byte (words_from (suc column) bytes)

-- N: a number up to 4,294,967,295 in decimal digits, without a zero in front
abbrev pub is_digit : ℕ → Bool
is_digit letter = nat_le 48 letter && nat_le letter 57

abbrev pub digits_behind : ℕ → List ℕ → ℕ
digits_behind n [] = n
digits_behind n (letter ∷ letters) = digits_behind (10 * n + (letter - 48)) letters

abbrev pub number_in : List ℕ → ℕ
number_in letters = digits_behind 0 letters

-- the first digit is no zero, unless it is the only one; there is one
abbrev pub begins_well : List ℕ → Bool
begins_well [] = false
begins_well (letter ∷ []) = true
begins_well (letter ∷ other ∷ letters) = not (letter == 48)

abbrev pub is_number : List ℕ → Bool
is_number letters = begins_well letters && list_all is_digit letters && nat_le (number_in letters) 4294967295

-- I: N up to 2,147,483,647, or `-` and N from 1 to 2,147,483,648
abbrev pub begins_with : ℕ → List ℕ → Bool
begins_with letter [] = false
begins_with letter (first ∷ letters) = first == letter

abbrev pub minus : ℕ
minus = 45

abbrev pub is_signed : List ℕ → Bool
is_signed letters =
    if begins_with minus letters then is_number (drop 1 letters) && nat_le 1 (number_in (drop 1 letters))
    && nat_le (number_in (drop 1 letters)) 2147483648
    else is_number letters && nat_le (number_in letters) 2147483647

abbrev pub signed_in : List ℕ → ℤ
signed_in letters =
    if begins_with minus letters then negsuc (number_in (drop 1 letters) - 1) else pos (number_in letters)

-- KEY: `p` or `f`, and N
abbrev pub is_key_word : List ℕ → Bool
is_key_word letters = (begins_with 112 letters || begins_with 102 letters) && is_number (drop 1 letters)

abbrev pub key_in : List ℕ → PageKey
key_in letters =
    if begins_with 112 letters then Guest (number_in (drop 1 letters)) else Frame (number_in (drop 1 letters))

-- what stands before the first `+`, and behind it if there is one
abbrev pub plus : ℕ
plus = 43

abbrev pub before_plus : List ℕ → List ℕ
before_plus [] = []
before_plus (letter ∷ letters) = if letter == plus then [] else letter ∷ before_plus letters

abbrev pub behind_plus : List ℕ → Option (List ℕ)
behind_plus [] = None
behind_plus (letter ∷ letters) = if letter == plus then Some letters else behind_plus letters

-- a count: N of at least 1, and 1 where none is given
abbrev pub is_count : Option (List ℕ) → Bool
is_count None = true
is_count (Some letters) = is_number letters && nat_le 1 (number_in letters)

abbrev pub given_count : Option (List ℕ) → ℕ
given_count None = 1
given_count (Some letters) = number_in letters

abbrev pub count_in : List ℕ → ℕ
count_in letters = given_count (behind_plus letters)

-- KEYS: a KEY, or a KEY, `+` and a count; RUN: likewise with N
abbrev pub are_keys : List ℕ → Bool
are_keys letters = is_key_word (before_plus letters) && is_count (behind_plus letters)

abbrev pub is_run_word : List ℕ → Bool
is_run_word letters = is_number (before_plus letters) && is_count (behind_plus letters)

abbrev pub run_in : List ℕ → PageRun
run_in letters = record { first = number_in (before_plus letters); count = count_in letters }

-- HH: two digits of 0 to 9 and a to f; HEX: 1 to 4,096 HH
abbrev pub is_hex_digit : ℕ → Bool
is_hex_digit letter = is_digit letter || (nat_le 97 letter && nat_le letter 102)

abbrev pub hex_value : ℕ → ℕ
hex_value letter = if nat_lt letter 97 then letter - 48 else letter - 87

abbrev pub are_pairs : List ℕ → Bool
are_pairs [] = true
are_pairs (high ∷ []) = false
are_pairs (high ∷ low ∷ letters) = is_hex_digit high && is_hex_digit low && are_pairs letters

abbrev pub is_hex_byte : List ℕ → Bool
is_hex_byte letters = are_pairs letters && length letters == 2

abbrev pub is_hex : List ℕ → Bool
is_hex letters = are_pairs letters && nat_le 2 (length letters) && nat_le (length letters) (2 * PAGE_SIZE)

abbrev pub hex_in : List ℕ → List ℕ
hex_in (high ∷ low ∷ letters) = (16 * hex_value high + hex_value low) ∷ hex_in letters
hex_in letters = []

-- the letters are these
abbrev pub is_word : List ℕ → List ℕ → Bool
is_word name letters = bytes_eq letters name

-- FORMAT, REGION, SCREEN and WAY
abbrev pub format_of : List ℕ → Option Format
format_of letters =
    if is_word (codes "32") letters then Some Bgrx32 else
    if is_word (codes "24") letters then Some Bgr24 else
    if is_word (codes "16") letters then Some Rgb565 else
    if is_word (codes "15") letters then Some Rgb555 else None

-- a number, or a name in place of one
abbrev pub is_number_or : List ℕ → List ℕ → Bool
is_number_or name letters = is_word name letters || is_number letters

abbrev pub number_or : List ℕ → ℕ → List ℕ → ℕ
number_or name number letters = if is_word name letters then number else number_in letters

abbrev pub way_of : List ℕ → Option Way
way_of letters =
    if is_word (codes "reserve") letters then Some Reserve else
    if is_word (codes "dword") letters then Some Dword else None
