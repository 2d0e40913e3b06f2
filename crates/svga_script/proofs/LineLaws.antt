-- Lines of bytes.
use Rattle.std.proofs.Common.{◌≡◌, ◌≢◌, ℕ, zero, suc, ◌+◌, ◌-◌, ◌<◌, ◌≤◌, List, [], ◌∷◌, length, take, drop, slice_index, true, false, if◌then◌else◌, ◌==◌, Some, sym, ap, subst, ◌∙◌, arith, length-drop, drop_of_length-le}
use Rattle.std.proofs.lemmas.Bool.Decides.{nat_tests}
use Rattle.std.proofs.lemmas.List.{drop_more, get_or-drop}
use Rattle.svga_cmd.specs.declared.script_cause.ScriptCause.TheVariants.{Character}
use Rattle.svga_model.specs.ScriptLines.{first_strange, flaw_at, is_character}
use Rattle.svga_model.specs.Scripts.{byte_before, lines_of}
use Rattle.svga_script.proofs.WordLaws.{drop_twice}
use Rattle.svga_script.specs.Left.{lines_left}

pub record EndsLine (bytes : List ℕ) (n : ℕ) : Type 0 where
  pub within : n ≤ length bytes
  pub others : (k : ℕ) → k < n → slice_index bytes k ≢ 10
  pub feed : n < length bytes → slice_index bytes n ≡ 10

pub first_line : (byte : ℕ) (bytes : List ℕ) (n : ℕ) → EndsLine (byte ∷ bytes) n
    → lines_of (byte ∷ bytes) ≡ take n (byte ∷ bytes) ∷ lines_of (drop (suc n) (byte ∷ bytes))
first_line byte bytes zero o =
    let is : byte ≡ 10 = o.feed (omega arith) in
    let test : (byte == 10) ≡ true = grind (arith, nat_tests) in
    ap (λ b. if b then [] ∷ lines_of bytes else byte_before byte (lines_of bytes)) test
first_line byte [] (suc n) o =
    let other : (byte == 10) ≡ false = (let ne : byte ≢ 10 = o.others 0 (omega arith) in grind (arith, nat_tests, ne)) in
    let none : n ≡ 0 = let within = o.within in omega (arith, within) in
    ap (λ b. if b then [] ∷ lines_of [] else byte_before byte (lines_of [])) other
    ∙ ap (λ m. (byte ∷ take m []) ∷ lines_of (drop (suc m) [])) (sym none)
first_line byte (next ∷ bytes) (suc n) o =
    let other : (byte == 10) ≡ false = (let ne : byte ≢ 10 = o.others 0 (omega arith) in grind (arith, nat_tests, ne)) in
    let rest = first_line next bytes n (record { within = (let within = o.within in omega (arith, within)); others = λ k low. o.others (suc k) (omega (arith, low)); feed = λ low. o.feed (omega (arith, low)) }) in
    ap (λ b. if b then [] ∷ lines_of (next ∷ bytes) else byte_before byte (lines_of (next ∷ bytes))) other
    ∙ ap (byte_before byte) rest

some_line : (bytes : List ℕ) (n : ℕ) → 0 < length bytes → EndsLine bytes n → lines_of bytes ≡ take n bytes ∷ lines_of (drop (suc n) bytes)
some_line [] n some o = absurd (omega (arith, some))
some_line (byte ∷ bytes) n some o = first_line byte bytes n o

pub line_at_place : (bytes : List ℕ) (at end : ℕ) → at < length bytes → at ≤ end → end ≤ length bytes
    → ((k : ℕ) → at ≤ k → k < end → slice_index bytes k ≢ 10) → (end < length bytes → slice_index bytes end ≡ 10)
    → lines_left bytes at ≡ take (end - at) (drop at bytes) ∷ lines_left bytes (end + 1)
line_at_place bytes at end low first high others feed =
    let parts : at + (end - at) ≡ end = omega (arith, first) in
    let long : length (drop at bytes) ≡ length bytes - at = length-drop at bytes in
    let o : EndsLine (drop at bytes) (end - at) = record {
      within = omega (arith, long, high, first);
      others = λ k less. subst (λ b. b ≢ 10) (sym (get_or-drop at bytes k 0)) (others (at + k) (omega arith) (omega (arith, less, parts)));
      feed = λ less. get_or-drop at bytes (end - at) 0 ∙ ap (slice_index bytes) parts ∙ feed (omega (arith, less, long, parts));
    } in
    some_line (drop at bytes) (end - at) (omega (arith, long, low)) o
    ∙ ap (λ r. take (end - at) (drop at bytes) ∷ lines_of r)
    (drop_twice at (suc (end - at)) bytes ∙ ap (λ n. drop n bytes) (let e : at + suc (end - at) ≡ end + 1 = omega (arith, parts) in e))

pub no_line : (bytes : List ℕ) (at : ℕ) → length bytes ≤ at → lines_left bytes at ≡ []
no_line bytes at past = ap lines_of (drop_of_length-le bytes past)

-- a byte that is no character, and one that is
pub is_strange : (line : List ℕ) (i : ℕ) → i < length line → is_character (slice_index line i) ≡ false → first_strange (i + 1) (drop i line) ≡ Some (flaw_at (i + 1) Character)
is_strange line i low bad =
    let more : drop i line ≡ slice_index line i ∷ drop (i + 1) line = drop_more line i 0 low in
    ap (first_strange (i + 1)) more ∙ ap (λ b. if b then first_strange (suc (i + 1)) (drop (i + 1) line) else Some (flaw_at (i + 1) Character)) bad

pub not_strange : (line : List ℕ) (i : ℕ) → i < length line → is_character (slice_index line i) ≡ true → first_strange (i + 1) (drop i line) ≡ first_strange (i + 1 + 1) (drop (i + 1) line)
not_strange line i low good =
    let more : drop i line ≡ slice_index line i ∷ drop (i + 1) line = drop_more line i 0 low in
    let next : suc (i + 1) ≡ i + 1 + 1 = omega arith in
    ap (first_strange (i + 1)) more ∙ ap (λ b. if b then first_strange (suc (i + 1)) (drop (i + 1) line) else Some (flaw_at (i + 1) Character)) good
    ∙ ap (λ n. first_strange n (drop (i + 1) line)) next
