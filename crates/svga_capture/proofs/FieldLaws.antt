-- The first flaw of some fields, and what fields say in which there is none.
use Rattle.std.proofs.Common.{◌≡◌, ℕ, zero, suc, ◌+◌, inl, inr, ◌<◌, ◌≤◌, refl, sym, ap, ◌∙◌, Result, Ok, Err, IsErrAnd, List, [], ◌∷◌, ◌++◌, length, map, Bool, true, false, cond, nat_lt, nat_le, Option, Some, None, option_map, arith}
use Rattle.std.proofs.lemmas.Bool.{cases_lt}
use Rattle.std.proofs.lemmas.Bool.Decides.{nat_tests}
use Rattle.std.specs.List.{flat_map, range_with_len}
use Rattle.std.specs.Option.{option_or}
use Rattle.std.specs.Result.{result_err}
use Rattle.svga_model.proofs.ValidRules.{at_most}
use Rattle.svga_cmd.specs.declared.capture_cause.CaptureCause.{CaptureCause}
use Rattle.svga_cmd.specs.declared.capture_cause.CaptureCause.TheVariants.{Number, Order, Short}
use Rattle.svga_model.specs.CaptureFields.{Field, capture_fields, fifo_fields, first_flaw, flaw_of, flaw_unless, header_fields, is_above, ordered_field, page_fields, region_fields, region_records, word_field}
use Rattle.svga_model.specs.Captures.{flaw_in}
use Rattle.svga_model.specs.Walks.{little_word}

-- where the first of two is nothing, neither is
both_none : {X : Type 0} (a b : Option X) → option_or a b ≡ None → (a ≡ None) × (b ≡ None)
both_none None b e = (refl, e)
both_none (Some x) b e = absurd cc

none_both : {X : Type 0} (a b : Option X) → a ≡ None → b ≡ None → option_or a b ≡ None
none_both a b e f = λ i. option_or (e i) (f i)

unmade : {X Y : Type 0} (f : X → Y) (o : Option X) → option_map f o ≡ None → o ≡ None
unmade f None e = refl
unmade f (Some x) e = absurd cc

-- the first of two is told where it is there
pub first_told : {X : Type 0} (x : X) (a b : Option X) → Some x ≡ a → Some x ≡ option_or a b
first_told x None b e = absurd cc
first_told x (Some y) b e = e

-- and else the second
pub second_told : {X : Type 0} (a b : Option X) → None ≡ a → option_or a b ≡ b
second_told None b e = refl
second_told (Some y) b e = absurd cc

pub or_assoc : {X : Type 0} (a b c : Option X) → option_or (option_or a b) c ≡ option_or a (option_or b c)
or_assoc None b c = refl
or_assoc (Some x) b c = refl

-- fields one behind another
pub flaw_append : (bytes : List ℕ) (xs ys : List Field)
    → first_flaw bytes (xs ++ ys) ≡ option_or (first_flaw bytes xs) (first_flaw bytes ys)
flaw_append bytes [] ys = refl
flaw_append bytes (x ∷ xs) ys =
    ap (option_or (flaw_of bytes x)) (flaw_append bytes xs ys)
    ∙ sym (or_assoc (flaw_of bytes x) (first_flaw bytes xs) (first_flaw bytes ys))

-- what `?` hands on is what was told
pub passed_on : {A E : Type 0} (r : Result A E) (w : E) (o : Option E) → IsErrAnd r (λ e. e ≡ w) → Some w ≡ o → result_err r ≡ o
passed_on (Ok x) w o given is = absurd given
passed_on (Err e) w o given is = ap Some given ∙ is

-- no field of two lists is wrong, so that none of each is
pub lists_good : (bytes : List ℕ) (xs ys : List Field) → first_flaw bytes (xs ++ ys) ≡ None
    → (first_flaw bytes xs ≡ None) × (first_flaw bytes ys ≡ None)
lists_good bytes [] ys e = (refl, e)
lists_good bytes (f ∷ fs) ys e =
    let first = both_none (flaw_of bytes f) (first_flaw bytes (fs ++ ys)) e in
    let rest = lists_good bytes fs ys first.1 in
    (none_both (flaw_of bytes f) (first_flaw bytes fs) first.0 rest.0, rest.1)

-- the first field, and the others
pub first_good : (bytes : List ℕ) (f : Field) (fs : List Field) → first_flaw bytes (f ∷ fs) ≡ None
    → (flaw_of bytes f ≡ None) × (first_flaw bytes fs ≡ None)
first_good bytes f fs e = both_none (flaw_of bytes f) (first_flaw bytes fs) e

-- each of the fields that a function makes
pub made_good : (bytes : List ℕ) (f : ℕ → Field) (a n j : ℕ) → first_flaw bytes (map f (range_with_len a n)) ≡ None
    → a ≤ j → j < a + n → flaw_of bytes (f j) ≡ None
made_good bytes f a zero j e low high = absurd (omega arith)
made_good bytes f a (suc n) j e low high =
    let parts = first_good bytes (f a) (map f (range_with_len (a + 1) n)) e in
    elim (cases_lt a j) as (λ _. flaw_of bytes (f j) ≡ None) [
      | inl less ↦ made_good bytes f (a + 1) n j parts.1 (omega arith) (omega arith)
      | inr here ↦ (let is : j ≡ a = omega arith in (λ i. flaw_of bytes (f (is i))) ∙ parts.0)
    ]

-- each of the lists of fields that a function makes
pub flat_good : (bytes : List ℕ) (f : ℕ → List Field) (a n j : ℕ) → first_flaw bytes (flat_map f (range_with_len a n)) ≡ None
    → a ≤ j → j < a + n → first_flaw bytes (f j) ≡ None
flat_good bytes f a zero j e low high = absurd (omega arith)
flat_good bytes f a (suc n) j e low high =
    let parts = lists_good bytes (f a) (flat_map f (range_with_len (a + 1) n)) e in
    elim (cases_lt a j) as (λ _. first_flaw bytes (f j) ≡ None) [
      | inl less ↦ flat_good bytes f (a + 1) n j parts.1 (omega arith) (omega arith)
      | inr here ↦ (let is : j ≡ a = omega arith in (λ i. first_flaw bytes (f (is i))) ∙ parts.0)
    ]

-- all bytes of a field are there, and it keeps its rule
pub field_good : (bytes : List ℕ) (f : Field) → flaw_of bytes f ≡ None → (f.at + f.size ≤ length bytes) × (f.breaks ≡ None)
field_good bytes f e = go (nat_lt (length bytes) (f.at + f.size)) refl e where
  go : (t : Bool) → nat_lt (length bytes) (f.at + f.size) ≡ t
      → cond {A = Option (ℕ × CaptureCause)} t (Some (length bytes, Short)) (option_map (λ flaw. (f.at, flaw)) f.breaks) ≡ None
      → (f.at + f.size ≤ length bytes) × (f.breaks ≡ None)
  go true is e = absurd cc
  go false is e = (at_most (f.at + f.size) (length bytes) is, unmade (λ flaw. (f.at, flaw)) f.breaks e)

kept : (t : Bool) (w : CaptureCause) → flaw_unless t w ≡ None → t ≡ true
kept true w e = refl
kept false w e = absurd cc

kept_both : (rule above : Bool) (v w : CaptureCause) → cond rule (flaw_unless above w) (Some v) ≡ None → (rule ≡ true) × (above ≡ true)
kept_both true above v w e = (refl, kept above w e)
kept_both false above v w e = absurd cc

-- a word with a rule on its number
pub word_good : (bytes : List ℕ) (at : ℕ) (rule : ℕ → Bool) → flaw_of bytes (word_field bytes at rule) ≡ None
    → (at + 4 ≤ length bytes) × (rule (little_word bytes at) ≡ true)
word_good bytes at rule e =
    let is = field_good bytes (word_field bytes at rule) e in
    (is.0, kept (rule (little_word bytes at)) Number is.1)

-- an id or a key
pub ordered_good : (bytes : List ℕ) (at : ℕ) (last : Option ℕ) (rule : ℕ → Bool)
    → flaw_of bytes (ordered_field bytes at last rule) ≡ None
    → (at + 4 ≤ length bytes) × ((rule (little_word bytes at) ≡ true) × (is_above last (little_word bytes at) ≡ true))
ordered_good bytes at last rule e =
    let is = field_good bytes (ordered_field bytes at last rule) e in
    (is.0, kept_both (rule (little_word bytes at)) (is_above last (little_word bytes at)) Number Order is.1)

-- The records of a capture without a flaw.
pub record AreGood (bytes : List ℕ) : Type 0 where
  pub regions : first_flaw bytes (region_fields bytes 0 None (region_records bytes)) ≡ None
  pub pages : first_flaw bytes (page_fields bytes) ≡ None

pub parts_good : (bytes : List ℕ) → flaw_in bytes ≡ None → AreGood bytes
parts_good bytes e =
    let regions = region_fields bytes 0 None (region_records bytes) in
    let all = both_none (first_flaw bytes (capture_fields bytes)) _ e in
    let behind = lists_good bytes (header_fields bytes) (fifo_fields bytes ++ regions ++ page_fields bytes) all.0 in
    let later = lists_good bytes (fifo_fields bytes) (regions ++ page_fields bytes) behind.1 in
    let last = lists_good bytes regions (page_fields bytes) later.1 in
    record { regions = last.0; pages = last.1 }

-- what a test of an order tells
pub reached : (a b : ℕ) → nat_le a b ≡ true → a ≤ b
reached a b e = grind (arith, nat_tests)
