-- Scripts: the session and the acts that bytes ask for, or what is wrong with them.
use Rattle.std.specs.Prelude.{ℕ, suc, List, [], ◌∷◌, ◌++◌, Bool, true, nat_lt, ◌==◌, if◌then◌else◌, is_some, Option, Some, None, option_map, Result, Ok, Err}
use Rattle.svga_cmd.specs.declared.constants.TheConstants.{MAX_SCRIPT_LINES}
use Rattle.svga_cmd.specs.declared.script_cause.ScriptCause.{ScriptCause}
use Rattle.svga_cmd.specs.declared.script_cause.ScriptCause.TheVariants.{Limit, Session}
use Rattle.svga_model.specs.Clients.{opening_client}
use Rattle.svga_model.specs.Meanings.{LineAct, Meaning, line_calls, meaning_from}
use Rattle.svga_model.specs.ScriptLines.{LineFlaw, SessionNumbers, act_of_line, flaw_at, line_flaw, session_in, words_behind}

-- a byte at the front of lines
abbrev pub byte_before : ℕ → List (List ℕ) → List (List ℕ)
byte_before byte [] = (byte ∷ []) ∷ []
byte_before byte (line ∷ lines) = (byte ∷ line) ∷ lines

-- the lines of bytes, each without the line feed that ends it; behind the last line feed
-- there is a line only where there are bytes
abbrev pub lines_of : List ℕ → List (List ℕ)
lines_of [] = []
lines_of (byte ∷ bytes) = if byte == 10 then [] ∷ lines_of bytes else byte_before byte (lines_of bytes)

-- an empty line, or one that begins with `#`
abbrev pub is_skipped : List ℕ → Bool
is_skipped [] = true
is_skipped (byte ∷ bytes) = byte == 35

pub record Script : Type 0 where
  pub session : SessionNumbers
  pub acts : List LineAct

-- the line, counted from 1, and what is wrong there
pub record ScriptFlaw : Type 0 where
  pub line : ℕ
  pub column : ℕ
  pub cause : ScriptCause

abbrev pub in_line : ℕ → LineFlaw → ScriptFlaw
in_line line f = record { line = line; column = f.column; cause = f.cause }

-- what lines so far say: how many they are, the session where one was opened, and the acts behind it
pub record Read : Type 0 where
  pub lines : ℕ
  pub session : Option SessionNumbers
  pub acts : List LineAct

abbrev pub nothing_read : Read
nothing_read = record { lines = 0; session = None; acts = [] }

-- what is wrong with one line more: it is one too many, or it isn't skipped and has a flaw
abbrev pub next_flaw : Read → List ℕ → Option ScriptFlaw
next_flaw r line =
    if nat_lt MAX_SCRIPT_LINES (suc r.lines) then Some (in_line (suc r.lines) (flaw_at 1 Limit)) else
    if is_skipped line then None else option_map (in_line (suc r.lines)) (line_flaw (is_some r.session) line)

-- the same with one line more, in which nothing is wrong
abbrev pub with_words : Option SessionNumbers → Read → List ℕ → Read
with_words None r line =
    record { lines = suc r.lines; session = Some (session_in (words_behind line)); acts = r.acts }
with_words (Some s) r line = record {
  lines = suc r.lines;
  session = Some s;
  acts = r.acts ++ record { line = suc r.lines; act = act_of_line line } ∷ [];
}

abbrev pub with_line : Read → List ℕ → Read
with_line r line = if is_skipped line then record r { lines = suc r.lines } else with_words r.session r line

-- behind the last line there is to have been a session
abbrev pub script_read : Option SessionNumbers → Read → Result Script ScriptFlaw
script_read None r = Err (in_line (suc r.lines) (flaw_at 1 Session))
script_read (Some s) r = Ok (record { session = s; acts = r.acts })

abbrev pub unless_flaw : {X : Type 0} → Option ScriptFlaw → Result X ScriptFlaw → Result X ScriptFlaw
unless_flaw None x = x
unless_flaw (Some f) x = Err f

-- the lines one after another, up to the first with which something is wrong
abbrev pub script_from : Read → List (List ℕ) → Result Script ScriptFlaw
script_from r [] = script_read r.session r
script_from r (line ∷ lines) = unless_flaw (next_flaw r line) (script_from (with_line r line) lines)

-- the script that bytes are, or what is wrong with them
unfoldable pub script_of : List ℕ → Result Script ScriptFlaw
script_of bytes = script_from nothing_read (lines_of bytes)

-- what a script means
unfoldable pub meaning_of : Script → Meaning
meaning_of s = meaning_from (opening_client s.session.limits s.session.first) (line_calls s.acts)
