-- What a scan tells of the words that it was given.
use Rattle.std.specs.Prelude.{◌≡◌, ℕ, ◌+◌, List, [], ◌∷◌, ◌++◌, length}
use Rattle.svga_cmd.specs.Spelling.{spelling}
use Rattle.svga_cmd.specs.declared.command.Command.{Command}
use Rattle.svga_cmd.specs.declared.ending.Ending.{Ending}
use Rattle.svga_cmd.specs.declared.ending.Ending.TheVariants.{Whole, Refused, Torn}
use Rattle.svga_decode.specs.DecoderStates.{DecoderState, IsReady}
use Rattle.svga_decode.specs.declared.answer.Fed.TheVariants as fed
use Rattle.svga_decode.specs.declared.scanning.Counted.{Counted}
use Rattle.svga_decode.specs.declared.scanning.Scanned.{Scanned}
use Rattle.svga_model.specs.Endings as model
use Rattle.svga_model.specs.Sentences.{spelling_all}

-- a decoder that has come to the end of these commands: it tells the last of them, or is as it was where
-- there is none
pub record IsLeftReady (before : DecoderState) (cs : List Command) (after : DecoderState) : Type 0 where
  pub ready : IsReady after
  pub last : (front : List Command) (c : Command) → cs ≡ front ++ c ∷ []
      → after ≡ record { words = spelling c; last = fed.Whole }
  pub unchanged : cs ≡ [] → after ≡ before

-- The decoder after the words: behind the last command, inside the torn one with its words, or refusing for
-- good.
abbrev pub IsLeft : Ending → List ℕ → List Command → DecoderState → DecoderState → Type 0
IsLeft Whole ws cs before after = IsLeftReady before cs after
IsLeft (Torn word) ws cs before after = (after.last ≡ fed.More) × (ws ≡ spelling_all cs ++ after.words)
IsLeft (Refused word cause) ws cs before after = after.last ≡ fed.Refused cause

-- these commands stand at the front of the words, and the scan counts them and tells how the words end
pub record AreScanned (ws : List ℕ) (cs : List Command) (s : Scanned) (before after : DecoderState) : Type 0
  where
    pub ending : model.IsEnding ws cs s.ending
    pub commands : s.commands ≡ length cs
    pub fence : s.fence ≡ model.last_fence cs
    pub decoder : IsLeft s.ending ws cs before after

abbrev pub IsScan : List ℕ → Scanned → DecoderState → DecoderState → Type 0
IsScan ws s before after = (cs : List Command) × AreScanned ws cs s before after

-- one command more is counted, which begins at this word
abbrev pub counts : Counted → ℕ → Command → Counted
counts n first c = record {
  commands = n.commands + 1;
  fence = model.fence_after n.fence c;
  first = first;
  end = first + length (spelling c);
}

-- these commands stand at the front of the words, which end so behind them, and all of them are counted
pub record AreCounted (ws : List ℕ) (cs : List Command) (n : Counted) (end : Ending) : Type 0 where
  pub ending : model.IsEnding ws cs end
  pub commands : n.commands ≡ length cs
  pub fence : n.fence ≡ model.last_fence cs
  pub last : (front : List Command) (c : Command) → cs ≡ front ++ c ∷ []
      → n.first ≡ length (spelling_all front)
  pub behind : n.end ≡ length (spelling_all cs)
