-- The status and the text that an input gets, by the form that is asked for.
use Rattle.std.specs.Prelude.{◌≡◌, ◌⊎◌, ℕ, List, length, Option, Some, None, Ok, Err}
use Rattle.svga.specs.Bytes.{IsEndingOfBytes, IsSentenceInBytes}
use Rattle.svga.specs.ReplayTexts.{no_capture_text, replay_status, replay_text}
use Rattle.svga.specs.Telling.{Tells}
use Rattle.svga.specs.Texts.{words_status, words_text}
use Rattle.svga.specs.declared.form.Form.{Form}
use Rattle.svga.specs.declared.form.Form.TheVariants.{Words, Replay, Race}
use Rattle.svga_cmd.specs.declared.command.Command.{Command}
use Rattle.svga_cmd.specs.declared.capture_cause.CaptureCause.{CaptureCause}
use Rattle.svga_cmd.specs.declared.ending.Ending.{Ending}
use Rattle.svga_cmd.specs.declared.ending.Ending.TheVariants.{Whole}
use Rattle.svga_cmd.specs.declared.session.Session.{Session}
use Rattle.svga_model.specs.Captures.{Capture, capture_of}
use Rattle.svga_model.specs.Closings.{Closed, IsMeant}
use Rattle.svga_model.specs.Endings.{IsEnding}
use Rattle.svga_model.specs.Replays.{acts_of, replay_of}
use Rattle.svga_model.specs.Runs.{done, only}
use Rattle.svga_model.specs.Scripts.{Script, ScriptFlaw, meaning_of, script_of}
use Rattle.svga_model.specs.Sentences.{IsSentence}
use Rattle.svga_script.specs.Asked.{numbers_of}
use Rattle.svga_text.specs.RaceTexts.{meaning_status, meaning_text, no_script_text}

-- as FIFO words: these commands stand at the front, and they end so behind them
pub record IsListed (bytes : List ℕ) (status : ℕ) (text : List ℕ) : Type 0 where
  pub commands : List Command
  pub end : Ending
  pub ending : IsEndingOfBytes bytes commands end
  pub status_is : status ≡ words_status end
  pub text_is : text ≡ words_text commands end

-- As a capture that is one: these commands stand at the front of its words, and they end so behind them. The
-- text is also that of the replay over the pages of its regions alone.
pub record IsReplayed (c : Capture) (status : ℕ) (text : List ℕ) : Type 0 where
  pub commands : List Command
  pub end : Ending
  pub ending : IsEnding c.words commands end
  pub status_is : status ≡ replay_status (replay_of c.opening commands end).ending
  pub text_is : text ≡ replay_text (replay_of c.opening commands end)
  pub within : text ≡ replay_text (replay_of (only c.opening (acts_of commands)) commands end)

-- as a capture: it is one, or it is none, from this byte on and for this reason
pub data IsOfCapture (bytes : List ℕ) (status : ℕ) (text : List ℕ) : Type 0 where
  replayed : (c : Capture) → capture_of bytes ≡ Ok c → IsReplayed c status text
      → IsOfCapture bytes status text
  no_capture : (byte : ℕ) (cause : CaptureCause) → capture_of bytes ≡ Err (byte, cause)
      → status ≡ 3 → text ≡ no_capture_text byte cause → IsOfCapture bytes status text

-- As a script: it is one, and the session that it opens is closed as it means, with the text and the status of
-- its meaning. Or it is none, from this line and column on and for this reason.
pub data IsOfScript (bytes : List ℕ) (status : ℕ) (text : List ℕ) (race : Option Closed) : Type 0 where
  raced : (s : Script) → script_of bytes ≡ Ok s
      → (session : Session) → numbers_of session ≡ s.session
      → (closed : Closed) → race ≡ Some closed → IsMeant session (meaning_of s) closed
      → status ≡ meaning_status (meaning_of s).refused → text ≡ meaning_text (meaning_of s)
      → IsOfScript bytes status text race
  no_script : (f : ScriptFlaw) → script_of bytes ≡ Err f → race ≡ None
      → status ≡ 3 → text ≡ no_script_text f → IsOfScript bytes status text race

-- the status and the text that the input gets, and the session that was run for it, if it is a script
abbrev pub IsOfInput : Form → List ℕ → ℕ → List ℕ → Option Closed → Type 0
IsOfInput Words bytes status text race = IsListed bytes status text × (race ≡ None)
IsOfInput Replay bytes status text race = IsOfCapture bytes status text × (race ≡ None)
IsOfInput Race bytes status text race = IsOfScript bytes status text race

-- The input gets its text and its status, or 5 and a prefix of the text; or no memory was found, and nothing
-- was written.
abbrev pub TellsInput : {K : Type 0} → (K → Option (List ℕ)) → (K → ℕ) → K → K → Form → List ℕ → ℕ
    → Option Closed → Type 0
TellsInput held faults before now form bytes answer race =
    ((answer ≡ 6) × (now ≡ before) × (race ≡ None))
    ⊎ ((status : ℕ) × (text : List ℕ) × IsOfInput form bytes status text race
    × Tells held faults before now text status answer)

-- The input is one that is told with status 0, and this is its text: a sentence, a capture whose words are one
-- of which no command is refused, or a script of which no act is refused.
abbrev pub IsWholeInput : Form → List ℕ → List ℕ → Type 0
IsWholeInput Words bytes text = (cs : List Command) × IsSentenceInBytes cs bytes
    × (text ≡ words_text cs Whole)
IsWholeInput Replay bytes text = (c : Capture) × (capture_of bytes ≡ Ok c) × (cs : List Command)
    × IsSentence cs c.words
    × (done c.opening (acts_of cs) ≡ length cs) × (text ≡ replay_text (replay_of c.opening cs Whole))
IsWholeInput Race bytes text = (s : Script) × (script_of bytes ≡ Ok s) × ((meaning_of s).refused ≡ None)
    × (text ≡ meaning_text (meaning_of s))
