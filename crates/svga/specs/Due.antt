-- What the program owes: the status and the text that are due, by its words and by what was read.
use Rattle.std.specs.Prelude.{◌≡◌, ◌≢◌, ◌⊎◌, ℕ, ◌+◌, ◌≤◌, ◌<◌, List, [], length, Option, Some, None, ⊤, String, Bool}
use Rattle.std.specs.declared.alloc.Global.{Global}
use Rattle.svga.specs.Forms.{AsksFor, IsAsked}
use Rattle.svga.specs.Inputs.{IsOfInput, IsWholeInput}
use Rattle.svga.specs.Texts.{usage_text, read_fault_text, too_long_text}
use Rattle.svga.specs.declared.form.Form.{Form}
use Rattle.svga_cmd.specs.declared.constants.TheConstants.{MAX_INPUT_BYTES}
use Rattle.svga_io.specs.Growing.{Grows, GrowsByPrefix}
use Rattle.svga_io.specs.Rising.{Rises}
use Rattle.svga_model.specs.Closings.{Closed}

-- what a source tells: the bytes that it had left and has left now, if it tells them, and its counts of
-- faults
pub record SourceTells : Type 0 where
  pub before : Option (List ℕ)
  pub now : Option (List ℕ)
  pub faults_before : ℕ
  pub faults_now : ℕ

abbrev pub source_tells : {S : Type 0} → (S → Option (List ℕ)) → (S → ℕ) → S → S → SourceTells
source_tells left faults before now = record
    { before = left before; now = left now; faults_before = faults before; faults_now = faults now }

-- The next three say nothing of a source that doesn't tell its bytes.

-- the source gave these bytes and has none left
abbrev pub GivesAll : Option (List ℕ) → Option (List ℕ) → List ℕ → Type 0
GivesAll None now bytes = ⊤
GivesAll (Some left) now bytes = (bytes ≡ left) × (now ≡ Some [])

-- at most so many bytes were taken
abbrev pub TakesAtMost : ℕ → Option (List ℕ) → Option (List ℕ) → Type 0
TakesAtMost limit None now = ⊤
TakesAtMost limit (Some left) None = ⊥
TakesAtMost limit (Some left) (Some now) = length left ≤ limit + length now

-- more than so many bytes were taken
abbrev pub TakesMore : ℕ → Option (List ℕ) → Option (List ℕ) → Type 0
TakesMore limit None now = ⊤
TakesMore limit (Some left) None = ⊥
TakesMore limit (Some left) (Some now) = limit + length now < length left

-- the input was read to its end, and these are its bytes
pub record WasHad (s : SourceTells) (bytes : List ℕ) : Type 0 where
  pub all : GivesAll s.before s.now bytes
  pub few : length bytes ≤ MAX_INPUT_BYTES

-- The status and the text that are due, and the session that was run for it. Where a source tells its bytes,
-- one case alone fits, but that a source may fail and the input be read all the same.
pub data IsDue (does : Form → Bool) (words : List (String Global)) (s : SourceTells) (status : ℕ)
    (text : List ℕ) (race : Option Closed) : Type 0 where
  -- the words are no form that is done
  usage : (IsAsked does words → ⊥) → status ≡ 2 → text ≡ usage_text → race ≡ None
      → IsDue does words s status text race
  -- the input was read to its end: the text, the status and the session are those of its bytes
  had : (form : Form) → AsksFor does form words → (bytes : List ℕ) → WasHad s bytes
      → IsOfInput form bytes status text race
      → IsDue does words s status text race
  -- the source failed
  read_fault : IsAsked does words → Rises s.faults_before s.faults_now
      → TakesAtMost MAX_INPUT_BYTES s.before s.now
      → status ≡ 4 → text ≡ read_fault_text → race ≡ None → IsDue does words s status text race
  -- the input is too long
  too_long : IsAsked does words → TakesMore MAX_INPUT_BYTES s.before s.now
      → status ≡ 7 → text ≡ too_long_text → race ≡ None → IsDue does words s status text race

-- how a run of these forms ends with this status, and with this session, if one was run
pub record IsRun {K : Type 0} (does : Form → Bool) (words : List (String Global)) (s : SourceTells)
    (held : K → Option (List ℕ)) (faults : K → ℕ) (before now : K) (status : ℕ) (race : Option Closed) :
    Type 0 where
  -- at every status but 5 and 6: the text that is due with this status was written whole
  pub told : status ≢ 5 → status ≢ 6 → (text : List ℕ) × IsDue does words s status text race
      × Grows held faults before now text
  -- at status 5: the sink failed, and a prefix of a text that is due was written
  pub write_fault : status ≡ 5 → (status_due : ℕ) × (text : List ℕ)
      × IsDue does words s status_due text race × GrowsByPrefix held faults before now text
  -- at status 6: no memory was found, and nothing was written
  pub memory : status ≡ 6 → IsAsked does words × (now ≡ before) × (race ≡ None)

-- an input within the limit that is whole is told whole, unless the source or the sink fails or memory is
-- short
abbrev pub IsComplete : {K : Type 0} → (Form → Bool) → List (String Global) → SourceTells
    → (K → Option (List ℕ)) → (K → ℕ) → K → K → ℕ → Type 0
IsComplete does words s held faults before now status = (form : Form) (bytes text : List ℕ)
    → AsksFor does form words
    → s.before ≡ Some bytes → length bytes ≤ MAX_INPUT_BYTES → IsWholeInput form bytes text
    → (Rises s.faults_before s.faults_now → ⊥) → (Rises (faults before) (faults now) → ⊥)
    → ((status ≡ 0) × Grows held faults before now text) ⊎ (status ≡ 6)

-- how a run of these forms ends, of a source and a sink that are seen so
pub record IsEnded {S K : Type 0} (does : Form → Bool) (words : List (String Global))
    (left : S → Option (List ℕ)) (source_faults : S → ℕ)
    (source source_now : S) (held : K → Option (List ℕ)) (faults : K → ℕ) (sink sink_now : K) (status : ℕ)
    (race : Option Closed) : Type 0 where
  -- what is due, by the words and by what was read, is told
  pub run : IsRun does words (source_tells left source_faults source source_now) held faults sink sink_now
      status race
  -- nothing is read where the words are no form
  pub unread : (IsAsked does words → ⊥) → source_now ≡ source
  -- a whole input is told whole
  pub complete : IsComplete does words (source_tells left source_faults source source_now) held faults sink
      sink_now status
