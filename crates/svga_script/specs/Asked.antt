-- What is read of the words behind the first of a line.
use Rattle.std.specs.Prelude.{◌≡◌, ℕ, List, drop, false, true, unwrap_or, Option, Some, None, Result, Ok, Err, map as map_list, IfSome}
use Rattle.svga_model.specs.ClientActs
use Rattle.svga_model.specs.ScriptLines.{BlitLine, FenceLine, LineKind, SessionNumbers, act_by, at, blit_in, first_broken, kind_of, letters_of, rules_of, runs, session_in, session_rules, words_flaw}
use Rattle.svga_model.specs.ScriptWords.{Word, run_in}
use Rattle.svga_cmd.specs.declared.blit.Blit.{Blit}
use Rattle.svga_cmd.specs.declared.session.Session.{Session}
use Rattle.svga_script.specs.Acts.{act_of, run_of}
use Rattle.svga_script.specs.Faults.{flaw_of}
use Rattle.svga_script.specs.declared.act.ClientAct.{ClientAct}
use Rattle.svga_script.specs.declared.fault.LineFault.{LineFault}
use Rattle.svga_script.specs.declared.list.Run.{Run}

-- A line of this kind that has these words asks for this act, or has this flaw.
abbrev pub IsActOf : LineKind → ℕ → List Word → Result ClientAct LineFault → Type 0
IsActOf kind behind words (Ok a) = (first_broken behind (rules_of kind (letters_of words)) words ≡ None)
    × (act_of a ≡ act_by kind (letters_of words))
IsActOf kind behind words (Err f) = first_broken behind (rules_of kind (letters_of words)) words
    ≡ Some (flaw_of f)

-- the same, where memory for what the act holds may be wanting
abbrev pub IsActOrShort : LineKind → ℕ → List Word → Result (Option ClientAct) LineFault → Type 0
IsActOrShort kind behind words (Ok (Some a)) =
    (first_broken behind (rules_of kind (letters_of words)) words ≡ None)
    × (act_of a ≡ act_by kind (letters_of words))
IsActOrShort kind behind words (Ok None) = first_broken behind (rules_of kind (letters_of words)) words ≡ None
IsActOrShort kind behind words (Err f) = first_broken behind (rules_of kind (letters_of words)) words
    ≡ Some (flaw_of f)

-- the runs that a line ends with, where memory for them may be wanting
abbrev pub AreRuns : ℕ → List Word → Result (Option (List Run)) LineFault → Type 0
AreRuns behind words (Ok held) = (first_broken behind (runs (letters_of words)) words ≡ None) ×
    IfSome held (λ runs. map_list run_of runs ≡ map_list run_in (letters_of words))
AreRuns behind words (Err f) = first_broken behind (runs (letters_of words)) words ≡ Some (flaw_of f)

-- the numbers of a session
abbrev pub numbers_of : Session → SessionNumbers
numbers_of s = record { ring = s.ring; limits = s.limits; first = s.first; way = s.way }

-- A session's line that has these words opens this session, or has this flaw.
abbrev pub IsSessionOf : ℕ → List Word → Result Session LineFault → Type 0
IsSessionOf behind words (Ok s) = (first_broken behind session_rules words ≡ None)
    × (numbers_of s ≡ session_in (letters_of words))
IsSessionOf behind words (Err f) = first_broken behind session_rules words ≡ Some (flaw_of f)

-- the words of a blit
abbrev pub IsBlitOf : ℕ → List Word → Result Blit LineFault → Type 0
IsBlitOf behind words (Ok b) = (first_broken behind (rules_of BlitLine (letters_of words)) words ≡ None)
    × (b ≡ blit_in (letters_of words))
IsBlitOf behind words (Err f) = first_broken behind (rules_of BlitLine (letters_of words)) words
    ≡ Some (flaw_of f)

-- what all words of a line ask for
abbrev pub act_in_words : List Word → ClientActs.ClientAct
act_in_words words = act_by (unwrap_or (kind_of (at (letters_of words) 0)) FenceLine)
    (drop 1 (letters_of words))

-- The first line that isn't skipped opens this session, or has this flaw.
abbrev pub IsOpening : ℕ → List Word → Result Session LineFault → Type 0
IsOpening behind words (Ok s) = (words_flaw false behind words ≡ None)
    × (numbers_of s ≡ session_in (drop 1 (letters_of words)))
IsOpening behind words (Err f) = words_flaw false behind words ≡ Some (flaw_of f)

-- A line behind it asks for this act, or has this flaw. Memory for what the act holds may be wanting.
abbrev pub IsBehind : ℕ → List Word → Result (Option ClientAct) LineFault → Type 0
IsBehind behind words (Ok (Some a)) = (words_flaw true behind words ≡ None) × (act_of a ≡ act_in_words words)
IsBehind behind words (Ok None) = words_flaw true behind words ≡ None
IsBehind behind words (Err f) = words_flaw true behind words ≡ Some (flaw_of f)
