-- What a decoder knows of the words that it keeps.
use Rattle.std.specs.Prelude.{ℕ, List}
use Rattle.svga_decode.specs.declared.answer.Fed.{Fed}
use Rattle.svga_decode.specs.declared.answer.Fed.TheVariants.{More, Whole, Refused}
use Rattle.svga_model.specs.Accepted.{IsCommandPart, IsCommandWhole}

-- by its last answer
abbrev pub IsKept : Fed → List ℕ → Type 0
IsKept More ws = IsCommandPart ws
IsKept Whole ws = IsCommandWhole ws
IsKept (Refused cause) ws = Unit {0}
