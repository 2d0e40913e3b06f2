-- What contracts see a decoder as.
use Rattle.std.specs.Prelude.{◌≡◌, ℕ, List, []}
use Rattle.svga_decode.specs.declared.answer.Fed.{Fed}
use Rattle.svga_decode.specs.declared.answer.Fed.TheVariants.{More, Whole, Refused}

-- the words of the command in progress, or of the one that has just ended or was refused, and the last answer
pub record DecoderState : Type 0 where
  pub words : List ℕ
  pub last : Fed

-- a decoder that has read nothing
abbrev pub fresh : DecoderState
fresh = record { words = []; last = More }

-- the words of its command that the next word follows, by its last answer
abbrev pub begun_after : Fed → List ℕ → List ℕ
begun_after More ws = ws
begun_after Whole ws = []
begun_after (Refused cause) ws = ws

abbrev pub begun_words : DecoderState → List ℕ
begun_words d = begun_after d.last d.words

-- a word was refused
abbrev pub IsRefusal : Fed → Type 0
IsRefusal More = ⊥
IsRefusal Whole = ⊥
IsRefusal (Refused cause) = Unit {0}

-- no word was refused yet
abbrev pub IsLive : Fed → Type 0
IsLive More = Unit {0}
IsLive Whole = Unit {0}
IsLive (Refused cause) = ⊥

-- between two commands, by its last answer
abbrev pub IsReadyAfter : Fed → List ℕ → Type 0
IsReadyAfter More ws = ws ≡ []
IsReadyAfter Whole ws = Unit {0}
IsReadyAfter (Refused cause) ws = ⊥

-- the decoder is fresh, or its last answer was Whole
abbrev pub IsReady : DecoderState → Type 0
IsReady d = IsReadyAfter d.last d.words
