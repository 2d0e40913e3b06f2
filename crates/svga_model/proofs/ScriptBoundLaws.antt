-- The acts of a script are within their bounds.
use Rattle.std.proofs.Common.{◌≡◌, ℕ, suc, ◌+◌, ◌*◌, ◌≤◌, List, [], ◌∷◌, length, drop, codes, Bool, true, false, nat_le, nat_lt, ◌&&◌, if◌then◌else◌, refl, sym, ap, subst, ◌∙◌, Option, Some, None, is_some, option_map, unwrap_or, Result, Ok, arith, length-append, map as map_list}
use Rattle.std.proofs.lemmas.Bool.Decides.{nat_tests}
use Rattle.std.proofs.lemmas.List.Folds.{list_all-append}
use Rattle.std.proofs.lemmas.List.Sums.{sum_by-cons}
use Rattle.std.specs.List.{list_all}
use Rattle.std.specs.Option.{option_or}
use Rattle.svga_cmd.specs.Pages.{number_in_kind}
use Rattle.svga_cmd.specs.declared.script_cause.ScriptCause.{ScriptCause}
use Rattle.svga_cmd.specs.declared.script_cause.ScriptCause.TheVariants.{Limit, Session}
use Rattle.svga_model.specs.ClientActs.{ClientAct, PageRun}
use Rattle.svga_model.specs.Meanings.{LineAct}
use Rattle.svga_model.specs.ScriptBounds.{AreBounded, is_bounded, pages_in, run_ends}
use Rattle.svga_model.specs.ScriptLines.{BackLine, BlitLine, DescribeLine, DropLine, FenceLine, FillLine, GmrfbLine, LendLine, LineKind, MapLine, RegionLine, Rule, SameLine, ScreenLine, SessionNumbers, ShowLine, TakeLine, UpdateLine, WriteLine, act_by, act_of_line, at, ends_within, first_broken, first_empty, first_strange, flaw_at, front_flaw, key, keys, kind_flaw, kind_of, letters_of, limited, line_flaw, more_runs, number, number_up_to, rules_of, run_behind, runs, spelled, unless, words_flaw, words_of}
use Rattle.svga_model.specs.ScriptWords.{Word, are_keys, before_plus, count_in, hex_in, is_hex, is_number, is_run_word, is_word, key_in, number_in, run_in}
use Rattle.svga_model.specs.Scripts.{Read, Script, ScriptFlaw, in_line, is_skipped, lines_of, next_flaw, nothing_read, script_from, script_of, script_read, unless_flaw, with_line, with_words}

both : (a b : Bool) → (a && b) ≡ true → (a ≡ true) × (b ≡ true)
both true b e = (refl, e)
both false b e = absurd (cc e)

neither : {X : Type 0} (a b : Option X) → option_or a b ≡ None → (a ≡ None) × (b ≡ None)
neither None b e = (refl, e)
neither (Some x) b e = absurd (cc e)

no_flaw : {X Y : Type 0} (f : X → Y) (o : Option X) → option_map f o ≡ None → o ≡ None
no_flaw f None e = refl
no_flaw f (Some x) e = absurd (cc e)

-- a rule that is kept
spelled_good : (test : Bool) (cause : ScriptCause) → unless test cause ≡ None → test ≡ true
spelled_good true cause e = refl
spelled_good false cause e = absurd (cc e)

limited_good : (test : List ℕ → Bool) (cause : ScriptCause) (within : List ℕ → Bool) (letters : List ℕ) → limited test cause within letters ≡ None → (test letters ≡ true) × (within letters ≡ true)
limited_good test cause within letters e = go (test letters) refl where
  go : (b : Bool) → test letters ≡ b → (test letters ≡ true) × (within letters ≡ true)
  go true is = (is, spelled_good (within letters) Limit (sym (ap (λ b. if b then unless (within letters) Limit else Some cause) is) ∙ e))
  go false is = absurd (let f = sym (ap (λ b. if b then unless (within letters) Limit else Some cause) is) ∙ e in cc f)

-- the first of the words keeps its rule, and the others keep theirs
record IsGood (behind : ℕ) (rule : Rule) (rules : List Rule) (words : List Word) : Type 0 where
  first : Word
  rest : List Word
  is : words ≡ first ∷ rest
  good : rule first.letters ≡ None
  others : first_broken behind rules rest ≡ None

first_good : (behind : ℕ) (rule : Rule) (rules : List Rule) (words : List Word) → first_broken behind (rule ∷ rules) words ≡ None → IsGood behind rule rules words
first_good behind rule rules [] e = absurd (let f = (neither (front_flaw behind rule []) (first_broken behind rules []) e).0 in cc f)
first_good behind rule rules (w ∷ words) e =
    let parts = neither (front_flaw behind rule (w ∷ words)) (first_broken behind rules words) e in
    record { first = w; rest = words; is = refl; good = no_flaw (flaw_at w.column) (rule w.letters) parts.0; others = parts.1 }

-- runs
more_bounded : (behind pages : ℕ) (words : List Word) → pages ≤ 2048 → first_broken behind (more_runs pages (letters_of words)) words ≡ None
    → (list_all run_ends (map_list run_in (letters_of words)) ≡ true) × (pages + pages_in (map_list run_in (letters_of words)) ≤ 2048)
more_bounded behind pages [] few e = (refl, omega (arith, few))
more_bounded behind pages (w ∷ words) few e =
    let parts = neither (front_flaw behind (run_behind pages) (w ∷ words)) (first_broken behind (more_runs (pages + count_in w.letters) (letters_of words)) words) e in
    let good = no_flaw (flaw_at w.column) (run_behind pages w.letters) parts.0 in
    let limits = limited_good is_run_word _ (λ letters. ends_within (run_in letters).first (run_in letters).count && nat_le (pages + (run_in letters).count) 2048) w.letters good in
    let each = both (run_ends (run_in w.letters)) (nat_le (pages + count_in w.letters) 2048) limits.1 in
    let low : pages + count_in w.letters ≤ 2048 = (let test = each.1 in grind (arith, nat_tests, test)) in
    let more = more_bounded behind (pages + count_in w.letters) words low parts.1 in
    let sum : pages_in (map_list run_in (letters_of (w ∷ words))) ≡ count_in w.letters + pages_in (map_list run_in (letters_of words)) = sum_by-cons (λ (r : PageRun). r.count) (run_in w.letters) (map_list run_in (letters_of words)) in
    (ap (λ b. b && list_all run_ends (map_list run_in (letters_of words))) each.0 ∙ more.0, omega (arith, more.1, sum))

runs_bounded : (behind : ℕ) (words : List Word) → first_broken behind (runs (letters_of words)) words ≡ None
    → (list_all run_ends (map_list run_in (letters_of words)) && nat_le (pages_in (map_list run_in (letters_of words))) 2048) ≡ true
runs_bounded behind [] e = refl
runs_bounded behind (w ∷ words) e =
    let more = more_bounded behind 0 (w ∷ words) (omega arith) e in
    let low : nat_le (pages_in (map_list run_in (letters_of (w ∷ words)))) 2048 ≡ true = (let sum = more.1 in grind (arith, nat_tests, sum)) in
    ap (λ b. b && nat_le (pages_in (map_list run_in (letters_of (w ∷ words)))) 2048) more.0 ∙ low

-- bytes
half_many : (letters : List ℕ) → 2 * length (hex_in letters) ≤ length letters
half_many [] = omega arith
half_many (high ∷ []) = omega arith
half_many (high ∷ low ∷ letters) = let more = half_many letters in omega (arith, more)

-- a line whose words keep their rules asks for an act within its bounds
abbrev AsksWithin : LineKind → List Word → Type 0
AsksWithin kind words = is_bounded (act_by kind (letters_of words)) ≡ true

same_bounded : (behind : ℕ) (words : List Word) → first_broken behind (rules_of SameLine (letters_of words)) words ≡ None → AsksWithin SameLine words
same_bounded behind words e =
    let id = first_good behind number (number ∷ number_up_to (λ n. nat_le n 65536) ∷ number ∷ []) words e in
    let offset = first_good behind number (number_up_to (λ n. nat_le n 65536) ∷ number ∷ []) id.rest id.others in
    let count = first_good behind (number_up_to (λ n. nat_le n 65536)) (number ∷ []) offset.rest offset.others in
    let all : words ≡ id.first ∷ offset.first ∷ count.first ∷ count.rest = id.is ∙ ap (λ ws. id.first ∷ ws) (offset.is ∙ ap (λ ws. offset.first ∷ ws) count.is) in
    subst (AsksWithin SameLine) (sym all) (limited_good is_number _ (λ letters. nat_le (number_in letters) 65536) count.first.letters count.good).1

map_bounded : (behind : ℕ) (words : List Word) → first_broken behind (rules_of MapLine (letters_of words)) words ≡ None → AsksWithin MapLine words
map_bounded behind words e =
    let id = first_good behind number (number ∷ runs (drop 2 (letters_of words))) words e in
    let offset = first_good behind number (runs (drop 2 (letters_of words))) id.rest id.others in
    let all : words ≡ id.first ∷ offset.first ∷ offset.rest = id.is ∙ ap (λ ws. id.first ∷ ws) offset.is in
    let others : first_broken behind (runs (letters_of offset.rest)) offset.rest ≡ None = sym (ap (λ ws. first_broken behind (runs (drop 2 (letters_of ws))) offset.rest) all) ∙ offset.others in
    subst (AsksWithin MapLine) (sym all) (runs_bounded behind offset.rest others)

write_bounded : (behind : ℕ) (words : List Word) → first_broken behind (rules_of WriteLine (letters_of words)) words ≡ None → AsksWithin WriteLine words
write_bounded behind words e =
    let page = first_good behind key (number ∷ spelled is_hex _ ∷ []) words e in
    let offset = first_good behind number (spelled is_hex _ ∷ []) page.rest page.others in
    let bytes = first_good behind (spelled is_hex _) [] offset.rest offset.others in
    let all : words ≡ page.first ∷ offset.first ∷ bytes.first ∷ bytes.rest = page.is ∙ ap (λ ws. page.first ∷ ws) (offset.is ∙ ap (λ ws. offset.first ∷ ws) bytes.is) in
    let letters = bytes.first.letters in
    let few = (both _ (nat_le (length letters) 8192) (spelled_good (is_hex letters) _ bytes.good)).1 in
    let half = half_many letters in
    subst (AsksWithin WriteLine) (sym all) (grind (arith, nat_tests, few, half))

keys_bounded : (behind : ℕ) (words : List Word) → first_broken behind (keys ∷ []) words ≡ None → ends_within (number_in_kind (key_in (before_plus (at (letters_of words) 0)))) (count_in (at (letters_of words) 0)) ≡ true
keys_bounded behind words e =
    let page = first_good behind keys [] words e in
    subst (λ ws. ends_within (number_in_kind (key_in (before_plus (at (letters_of ws) 0)))) (count_in (at (letters_of ws) 0)) ≡ true) (sym page.is)
    (limited_good are_keys _ (λ letters. ends_within (number_in_kind (key_in (before_plus letters))) (count_in letters)) page.first.letters page.good).1

kind_bounded : (kind : LineKind) (behind : ℕ) (words : List Word) → first_broken behind (rules_of kind (letters_of words)) words ≡ None → AsksWithin kind words
kind_bounded ScreenLine behind words e = refl
kind_bounded DropLine behind words e = refl
kind_bounded RegionLine behind words e = refl
kind_bounded MapLine behind words e = map_bounded behind words e
kind_bounded SameLine behind words e = same_bounded behind words e
kind_bounded GmrfbLine behind words e = refl
kind_bounded BlitLine behind words e = refl
kind_bounded BackLine behind words e = refl
kind_bounded UpdateLine behind words e = refl
kind_bounded FenceLine behind words e = refl
kind_bounded WriteLine behind words e = write_bounded behind words e
kind_bounded FillLine behind words e = refl
kind_bounded LendLine behind words e = keys_bounded behind words e
kind_bounded TakeLine behind words e = keys_bounded behind words e
kind_bounded ShowLine behind words e = refl
kind_bounded DescribeLine behind words e = refl

-- a line in which nothing is wrong
act_in : List Word → ClientAct
act_in words = act_by (unwrap_or (kind_of (at (letters_of words) 0)) FenceLine) (drop 1 (letters_of words))

words_bounded : (behind : ℕ) (words : List Word) → words_flaw true behind words ≡ None → is_bounded (act_in words) ≡ true
unfolding act_in
words_bounded behind [] e = refl
words_bounded behind (w ∷ words) e = go (is_word (codes "session") w.letters) refl where
  known : (kind : Option LineKind) → kind_of w.letters ≡ kind → kind_flaw behind kind words ≡ None → is_bounded (act_by (unwrap_or kind FenceLine) (letters_of words)) ≡ true
  known None is f = refl
  known (Some kind) is f = kind_bounded kind behind words f

  go : (b : Bool) → is_word (codes "session") w.letters ≡ b → is_bounded (act_in (w ∷ words)) ≡ true
  go true is = absurd (let f = sym (ap (λ t. if t then Some (flaw_at 1 Session) else kind_flaw behind (kind_of w.letters) words) is) ∙ e in cc f)
  go false is = known (kind_of w.letters) refl (sym (ap (λ t. if t then Some (flaw_at 1 Session) else kind_flaw behind (kind_of w.letters) words) is) ∙ e)

line_bounded : (line : List ℕ) → line_flaw true line ≡ None → is_bounded (act_of_line line) ≡ true
unfolding act_in
line_bounded line e =
    let later = (neither (first_strange 1 line) _ e).1 in
    words_bounded (suc (length line)) (words_of line) (neither (first_empty (words_of line)) _ later).1

-- lines so far whose acts are within their bounds
record IsSmall (r : Read) : Type 0 where
  lines : r.lines ≤ 1048576
  few : length r.acts ≤ r.lines
  each : list_all (λ (a : LineAct). is_bounded a.act) r.acts ≡ true

of_ok : {X E : Type 0} {x y : X} → ◌≡◌ {A = Result X E} (Ok x) (Ok y) → x ≡ y
of_ok e = cc e

-- a line more
small_more : (r : Read) (line : List ℕ) → IsSmall r → next_flaw r line ≡ None → IsSmall (with_line r line)
small_more r line o e = within (nat_lt 1048576 (suc r.lines)) refl where
  words : (session : Option SessionNumbers) → r.session ≡ session → suc r.lines ≤ 1048576 → line_flaw (is_some session) line ≡ None → IsSmall (with_words session r line)
  words None is low good = record { lines = low; few = (let few = o.few in omega (arith, few)); each = o.each }
  words (Some s) is low good = record {
    lines = low;
    few = (let few = o.few in let more = length-append r.acts (record { line = suc r.lines; act = act_of_line line } ∷ []) in omega (arith, few, more));
    each =
        list_all-append (λ (a : LineAct). is_bounded a.act) r.acts (record { line = suc r.lines; act = act_of_line line } ∷ [])
        ∙ ap (λ b. b && (is_bounded (act_of_line line) && true)) o.each
        ∙ ap (λ b. b && true) (line_bounded line good);
  }

  skipped : (b : Bool) → is_skipped line ≡ b → suc r.lines ≤ 1048576 → (if b then None else option_map (in_line (suc r.lines)) (line_flaw (is_some r.session) line)) ≡ None
      → IsSmall (if b then record r { lines = suc r.lines } else with_words r.session r line)
  skipped true is low f = record { lines = low; few = (let few = o.few in omega (arith, few)); each = o.each }
  skipped false is low f = words r.session refl low (no_flaw (in_line (suc r.lines)) (line_flaw (is_some r.session) line) f)

  judged : Option ScriptFlaw
  judged = if is_skipped line then None else option_map (in_line (suc r.lines)) (line_flaw (is_some r.session) line)

  within : (b : Bool) → nat_lt 1048576 (suc r.lines) ≡ b → IsSmall (with_line r line)
  within true is = absurd (let f = sym (ap (λ t. if t then Some (in_line (suc r.lines) (flaw_at 1 Limit)) else judged) is) ∙ e in cc f)
  within false is = skipped (is_skipped line) refl (let test = is in grind (arith, nat_tests, test)) (sym (ap (λ t. if t then Some (in_line (suc r.lines) (flaw_at 1 Limit)) else judged) is) ∙ e)

-- all lines
lines_bounded : (r : Read) (lines : List (List ℕ)) (s : Script) → IsSmall r → script_from r lines ≡ Ok s → AreBounded s.acts
lines_bounded r [] s o e = go r.session refl where
  go : (session : Option SessionNumbers) → r.session ≡ session → AreBounded s.acts
  go None is = absurd (let f = sym (ap (λ x. script_read x r) is) ∙ e in cc f)
  go (Some n) is =
      let acts : r.acts ≡ s.acts = (let f = sym (ap (λ x. script_read x r) is) ∙ e in ap (λ (x : Script). x.acts) (of_ok f)) in
      subst AreBounded acts (record { few = (let few = o.few in let lines = o.lines in omega (arith, few, lines)); each = o.each })
lines_bounded r (line ∷ lines) s o e = go (next_flaw r line) refl (λ small. lines_bounded (with_line r line) lines s small) where
  go : (f : Option ScriptFlaw) → next_flaw r line ≡ f → (IsSmall (with_line r line) → script_from (with_line r line) lines ≡ Ok s → AreBounded s.acts) → AreBounded s.acts
  go (Some f) is more = absurd (let g = sym (ap (λ x. unless_flaw x (script_from (with_line r line) lines)) is) ∙ e in cc g)
  go None is more = more (small_more r line o is) (sym (ap (λ x. unless_flaw x (script_from (with_line r line) lines)) is) ∙ e)

pub script_bounded : (bytes : List ℕ) (s : Script) → script_of bytes ≡ Ok s → AreBounded s.acts
unfolding script_of
script_bounded bytes s e = lines_bounded nothing_read (lines_of bytes) s (record { lines = omega arith; few = omega arith; each = refl }) e
