-- The words of a line, the first apart.
use Rattle.std.proofs.Common.{◌≡◌, ◌≢◌, ℕ, suc, ◌==◌, List, [], ◌∷◌, length, drop, codes, Bool, true, false, if◌then◌else◌, nat_le, refl, sym, ap, ◌∙◌, Option, Some, None, unwrap_or, Result, Ok, Err, arith}
use Rattle.std.proofs.lemmas.Bool.Decides.{nat_tests}
use Rattle.svga_cmd.specs.declared.script_cause.ScriptCause.TheVariants.{Session as NoSession, Word as OtherWord}
use Rattle.svga_cmd.specs.declared.session.Session.{Session}
use Rattle.svga_model.specs.ScriptLines.{FenceLine, act_by, first_broken, flaw_at, kind_flaw, kind_of, letters_of, rules_of, session_in, session_rules, words_flaw, words_of}
use Rattle.svga_model.specs.ScriptLines as model
use Rattle.svga_model.specs.ScriptWords.{Word, is_word, letter_before, words_from}
use Rattle.svga_script.proofs.RunLaws.{some_left}
use Rattle.svga_script.specs.Asked.{IsActOrShort, IsBehind, IsOpening, IsSessionOf, act_in_words}
use Rattle.svga_script.specs.Left.{words_left}
use Rattle.svga_script.specs.declared.act.ClientAct.{ClientAct}
use Rattle.svga_script.specs.declared.fault.LineFault.{LineFault}

-- all words are left from the start on
pub from_start : (line : List ℕ) → words_left line 0 ≡ words_of line
unfolding words_left
from_start line =
    let there : nat_le 0 (length line) ≡ true = grind (arith, nat_tests) in
    ap (λ b. if b then words_from 1 line else []) there

pub some_words : (line : List ℕ) → words_left line 0 ≢ []
some_words line = some_left line 0 (omega arith)

-- the first of them begins in column 1
first_column : (column : ℕ) (line : List ℕ) (w : Word) (rest : List Word) → words_from column line ≡ w ∷ rest → w.column ≡ column
first_column column [] w rest e = (let f = e in cc f)
first_column column (byte ∷ bytes) w rest e = go (byte == 32) refl where
  head : (words : List Word) → letter_before column byte words ≡ w ∷ rest → w.column ≡ column
  head [] f = absurd (cc f)
  head (v ∷ words) f = cc f

  go : (b : Bool) → (byte == 32) ≡ b → w.column ≡ column
  go true is = (let f = sym (ap (λ t. if t then record { column = column; letters = [] } ∷ words_from (suc column) bytes else letter_before column byte (words_from (suc column) bytes)) is) ∙ e in cc f)
  go false is = head (words_from (suc column) bytes) (sym (ap (λ t. if t then record { column = column; letters = [] } ∷ words_from (suc column) bytes else letter_before column byte (words_from (suc column) bytes)) is) ∙ e)

pub first_at : (line : List ℕ) (w : Word) (rest : List Word) → words_left line 0 ≡ w ∷ rest → w.column ≡ 1
first_at line w rest e = first_column 1 line w rest (sym (from_start line) ∙ e)

-- the first line that isn't skipped
opening_rules : ℕ → List Word → Bool → Option model.LineFlaw
opening_rules behind rest b = if b then first_broken behind session_rules rest else Some (flaw_at 1 NoSession)

pub opened : (behind : ℕ) (all rest : List Word) (w : Word) (r : Result Session LineFault) → all ≡ w ∷ rest → is_word (codes "session") w.letters ≡ true
    → IsSessionOf behind rest r → IsOpening behind all r
unfolding opening_rules
opened behind all rest w (Ok s) is first o =
    (ap (words_flaw false behind) is ∙ ap (opening_rules behind rest) first ∙ o.0, o.1 ∙ ap (λ ws. session_in (drop 1 (letters_of ws))) (sym is))
opened behind all rest w (Err f) is first o = ap (words_flaw false behind) is ∙ ap (opening_rules behind rest) first ∙ o

pub not_opened : (behind : ℕ) (all rest : List Word) (w : Word) → all ≡ w ∷ rest → is_word (codes "session") w.letters ≡ false
    → words_flaw false behind all ≡ Some (flaw_at 1 NoSession)
unfolding opening_rules
not_opened behind all rest w is first = ap (words_flaw false behind) is ∙ ap (opening_rules behind rest) first

-- a line behind it
later_rules : ℕ → Word → List Word → Bool → Option model.LineFlaw
later_rules behind w rest b = if b then Some (flaw_at 1 NoSession) else kind_flaw behind (kind_of w.letters) rest

pub opened_again : (behind : ℕ) (all rest : List Word) (w : Word) → all ≡ w ∷ rest → is_word (codes "session") w.letters ≡ true
    → words_flaw true behind all ≡ Some (flaw_at 1 NoSession)
unfolding later_rules
opened_again behind all rest w is first = ap (words_flaw true behind) is ∙ ap (later_rules behind w rest) first

pub no_kind : (behind : ℕ) (all rest : List Word) (w : Word) → all ≡ w ∷ rest → is_word (codes "session") w.letters ≡ false → kind_of w.letters ≡ None
    → words_flaw true behind all ≡ Some (flaw_at 1 OtherWord)
unfolding later_rules
no_kind behind all rest w is first none = ap (words_flaw true behind) is ∙ ap (later_rules behind w rest) first ∙ ap (λ k. kind_flaw behind k rest) none

pub of_kind : (behind : ℕ) (all rest : List Word) (w : Word) (kind : model.LineKind) (r : Result (Option ClientAct) LineFault)
    → all ≡ w ∷ rest → is_word (codes "session") w.letters ≡ false → kind_of w.letters ≡ Some kind → IsActOrShort kind behind rest r → IsBehind behind all r
unfolding later_rules
of_kind behind all rest w kind r is first known o = go r o where
  flaw : words_flaw true behind all ≡ first_broken behind (rules_of kind (letters_of rest)) rest
  flaw = ap (words_flaw true behind) is ∙ ap (later_rules behind w rest) first ∙ ap (λ k. kind_flaw behind k rest) known

  act : act_in_words all ≡ act_by kind (letters_of rest)
  act = ap act_in_words is ∙ ap (λ k. act_by (unwrap_or k FenceLine) (letters_of rest)) known

  go : (r : Result (Option ClientAct) LineFault) → IsActOrShort kind behind rest r → IsBehind behind all r
  go (Ok (Some a)) o = (flaw ∙ o.0, o.1 ∙ sym act)
  go (Ok None) o = flaw ∙ o
  go (Err f) o = flaw ∙ o
