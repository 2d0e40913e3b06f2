-- Runs at the end of a line.
use Rattle.std.proofs.Common.{◌≡◌, ◌≢◌, ℕ, suc, ◌+◌, ◌≤◌, List, [], ◌∷◌, ◌++◌, length, drop, Bool, true, false, if◌then◌else◌, ◌==◌, refl, sym, ap, ◌∙◌, Option, Some, None, arith, append_assoc, append-nil, map as map_list, nat_le, option_map}
use Rattle.std.proofs.lemmas.Bool.Decides.{nat_tests}
use Rattle.std.proofs.lemmas.List.{map-append}
use Rattle.std.specs.Option.{option_or}
use Rattle.svga_model.specs.ScriptLines.{LineFlaw, first_broken, flaw_at, front_flaw, letters_of, more_runs, run_behind, runs}
use Rattle.svga_model.specs.ScriptWords.{Word, count_in, letter_before, run_in, words_from}
use Rattle.svga_script.specs.Acts.{run_of, run_read}
use Rattle.svga_script.specs.Left.{words_left}
use Rattle.svga_script.specs.declared.list.Run.{Run}

-- what is wrong with runs that stand behind so many pages
abbrev pub runs_flaw : ℕ → ℕ → List Word → Option LineFlaw
runs_flaw behind pages words = first_broken behind (more_runs pages (letters_of words)) words

-- Of all the words these are left: the runs before them are good and have so many pages, and are held
-- unless memory is short.
pub record AreKept (behind : ℕ) (all left : List Word) (pages : ℕ) (short : Bool) (held : List Run) : Type 0 where
  pub few : pages ≤ 2048
  pub flaw : first_broken behind (runs (letters_of all)) all ≡ runs_flaw behind pages left
  pub runs : short ≡ false → map_list run_of held ++ map_list run_in (letters_of left) ≡ map_list run_in (letters_of all)

-- a line has a word wherever it hasn't ended
some_from : (column : ℕ) (line : List ℕ) → words_from column line ≢ []
some_from column [] e = cc e
some_from column (byte ∷ bytes) e = go (byte == 32) refl (some_from (suc column) bytes) where
  before : (words : List Word) → (words ≡ [] → ⊥) → letter_before column byte words ≡ [] → ⊥
  before [] some f = some refl
  before (w ∷ words) some f = cc f

  go : (b : Bool) → (byte == 32) ≡ b → words_from (suc column) bytes ≢ [] → ⊥
  go true is more =
      let f = sym (ap (λ t. if t then record { column = column; letters = [] } ∷ words_from (suc column) bytes else letter_before column byte (words_from (suc column) bytes)) is) ∙ e in
      cc f
  go false is more =
      let f = sym (ap (λ t. if t then record { column = column; letters = [] } ∷ words_from (suc column) bytes else letter_before column byte (words_from (suc column) bytes)) is) ∙ e in
      before (words_from (suc column) bytes) more f

pub some_left : (line : List ℕ) (at : ℕ) → at ≤ length line → words_left line at ≢ []
unfolding words_left
some_left line at low e =
    let there : nat_le at (length line) ≡ true = grind (arith, nat_tests, low) in
    some_from (at + 1) (drop at line) (sym (ap (λ b. if b then words_from (at + 1) (drop at line) else []) there) ∙ e)

-- none are read yet
pub none_kept : (behind : ℕ) (all : List Word) → all ≢ [] → AreKept behind all all 0 false []
none_kept behind [] some = absurd (some refl)
none_kept behind (w ∷ words) some = record { few = omega arith; flaw = refl; runs = λ _. refl }

-- a run that is wrong
pub runs_wrong : (behind pages : ℕ) (left : List Word) (f : LineFlaw) → left ≢ [] → front_flaw behind (run_behind pages) left ≡ Some f → runs_flaw behind pages left ≡ Some f
runs_wrong behind pages [] f some e = absurd (some refl)
runs_wrong behind pages (w ∷ left) f some e = ap (λ o. option_or o (runs_flaw behind (pages + count_in w.letters) left)) e

-- one run more
flaw_more : (behind pages : ℕ) (w : Word) (left : List Word) → run_behind pages w.letters ≡ None
    → runs_flaw behind pages (w ∷ left) ≡ runs_flaw behind (pages + count_in w.letters) left
flaw_more behind pages w left good = ap (λ o. option_or (option_map (flaw_at w.column) o) (runs_flaw behind (pages + count_in w.letters) left)) good

pub kept_more : (behind : ℕ) (all left : List Word) (pages : ℕ) (short : Bool) (held : List Run) (w : Word) (rest : List Word) (r : Run) (later : Bool) (kept : List Run)
    → AreKept behind all left pages short held → left ≡ w ∷ rest → run_behind pages w.letters ≡ None → r ≡ run_read w.letters → pages + r.count ≤ 2048
    → (later ≡ false → short ≡ false) → (later ≡ false → kept ≡ held ++ r ∷ []) → AreKept behind all rest (pages + r.count) later kept
kept_more behind all left pages short held w rest r later kept o is good read few before more = record {
  few = few;
  flaw = o.flaw ∙ ap (runs_flaw behind pages) is ∙ flaw_more behind pages w rest good ∙ ap (λ n. runs_flaw behind (pages + n) rest) (sym (ap (λ (x : Run). x.count) read));
  runs = λ ok.
      ap (λ k. map_list run_of k ++ map_list run_in (letters_of rest)) (more ok)
      ∙ ap (λ k. k ++ map_list run_in (letters_of rest)) (map-append run_of held (r ∷ []))
      ∙ append_assoc (map_list run_of held) (run_of r ∷ []) (map_list run_in (letters_of rest))
      ∙ ap (λ x. map_list run_of held ++ (run_of x ∷ map_list run_in (letters_of rest))) read
      ∙ sym (ap (λ ws. map_list run_of held ++ map_list run_in (letters_of ws)) is)
      ∙ o.runs (before ok);
}

-- all runs are read
pub all_kept : (behind : ℕ) (all left : List Word) (pages : ℕ) (short : Bool) (held : List Run) → AreKept behind all left pages short held → left ≡ []
    → first_broken behind (runs (letters_of all)) all ≡ None
all_kept behind all left pages short held o none = o.flaw ∙ ap (runs_flaw behind pages) none

pub all_held : (behind : ℕ) (all left : List Word) (pages : ℕ) (short : Bool) (held : List Run) → AreKept behind all left pages short held → left ≡ []
    → short ≡ false → map_list run_of held ≡ map_list run_in (letters_of all)
all_held behind all left pages short held o none ok =
    sym (append-nil (map_list run_of held)) ∙ sym (ap (λ ws. map_list run_of held ++ map_list run_in (letters_of ws)) none) ∙ o.runs ok
