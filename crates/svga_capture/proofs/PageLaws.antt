-- Going through the pages' records: what is wrong with all of them is what is wrong with those that are left.
use Rattle.std.proofs.Common.{◌≡◌, ◌+◌, ◌-◌, ◌<◌, ◌≤◌, ◌∙◌, ℕ, suc, List, [], ◌∷◌, refl, sym, ap, add-one, arith, length, Option, Some, None}
use Rattle.std.proofs.Math.Nat.{sub-zero}
use Rattle.std.specs.List.{flat_map, range_with_len}
use Rattle.std.specs.Option.{option_or}
use Rattle.svga_capture.proofs.FieldLaws.{first_told, second_told}
use Rattle.svga_cmd.specs.Pages.{is_key}
use Rattle.svga_cmd.specs.declared.capture_cause.CaptureCause.{CaptureCause}
use Rattle.svga_cmd.specs.declared.constants.TheConstants.{PAGE_SIZE}
use Rattle.svga_cmd.specs.declared.limits.Limits.{Limits}
use Rattle.svga_model.specs.CaptureFields.{Field, first_flaw, flaw_of, key_before, key_of_word, limits_in, ordered_field, page_count, page_fields, page_record_at, pages_at}
use Rattle.svga_model.specs.Walks.{little_word}

-- the fields of a record at a byte, and of record j
abbrev pub record_fields : Limits → List ℕ → ℕ → Option ℕ → List Field
record_fields l bytes at last =
    ordered_field bytes at last (λ w. is_key l (key_of_word w))
    ∷ record { at = at + 4; size = PAGE_SIZE; breaks = None } ∷ []

abbrev pub fields_of : List ℕ → ℕ → List Field
fields_of bytes j = record_fields (limits_in bytes) bytes (page_record_at bytes j) (key_before bytes j)

-- those of the records from i on
abbrev pub fields_from : List ℕ → ℕ → List Field
fields_from bytes i = flat_map (fields_of bytes) (range_with_len i (page_count bytes - i))

-- a first of three is a first of two and a third
first_of_three : {X : Type 0} (a b c : Option X)
    → option_or a (option_or b c) ≡ option_or (option_or a (option_or b None)) c
first_of_three None None c = refl
first_of_three None (Some y) c = refl
first_of_three (Some x) b c = refl

-- the flaws of the records from i on are those of record i, and then of those behind it
one_more : (bytes : List ℕ) (i : ℕ) → i < page_count bytes
    → first_flaw bytes (fields_from bytes i)
    ≡ option_or (first_flaw bytes (fields_of bytes i)) (first_flaw bytes (fields_from bytes (i + 1)))
one_more bytes i below =
    ap (λ n. first_flaw bytes (flat_map (fields_of bytes) (range_with_len i n))) count
    ∙ first_of_three (flaw_of bytes key)
    (flaw_of bytes (record { at = page_record_at bytes i + 4; size = PAGE_SIZE; breaks = None }))
    (first_flaw bytes (fields_from bytes (i + 1)))
  where
    key : Field
    key = ordered_field bytes (page_record_at bytes i) (key_before bytes i)
        (λ w. is_key (limits_in bytes) (key_of_word w))

    count : page_count bytes - i ≡ suc (page_count bytes - (i + 1))
    count = omega (arith, below)

-- the first i records have no flaw, and the next follows this key
pub record IsPassed (bytes : List ℕ) (i : ℕ) (last : Option ℕ) : Type 0 where
  pub key : last ≡ key_before bytes i
  pub within : page_record_at bytes i ≤ length bytes
  pub left : first_flaw bytes (page_fields bytes) ≡ first_flaw bytes (fields_from bytes i)

pub none_passed : (bytes : List ℕ) → pages_at bytes ≤ length bytes → IsPassed bytes 0 None
none_passed bytes within = record {
  key = refl;
  within = omega (arith, within);
  left = sym (ap (λ n. first_flaw bytes (flat_map (fields_of bytes) (range_with_len 0 n))) (sub-zero (page_count bytes)));
}

key_there : (bytes : List ℕ) (i : ℕ) → Some (little_word bytes (page_record_at bytes i)) ≡ key_before bytes (i + 1)
key_there bytes i = ap (key_before bytes) (sym (add-one i))

-- record i, which stands at this byte
module _ (bytes : List ℕ) (l : Limits) (i at : ℕ) (last : Option ℕ) (said : l ≡ limits_in bytes)
    (here : at ≡ page_record_at bytes i) (below : i < page_count bytes) (passed : IsPassed bytes i last) where
  split : first_flaw bytes (page_fields bytes)
      ≡ option_or (first_flaw bytes (record_fields l bytes at last)) (first_flaw bytes (fields_from bytes (i + 1)))
  split =
      passed.left ∙ one_more bytes i below
      ∙ (λ k. option_or (first_flaw bytes (record_fields (sym said k) bytes (sym here k) (sym passed.key k)))
      (first_flaw bytes (fields_from bytes (i + 1))))

  -- it is passed where it has no flaw
  pub one_passed : (key : ℕ) → None ≡ first_flaw bytes (record_fields l bytes at last) → key ≡ little_word bytes at
      → at + 4100 ≤ length bytes → IsPassed bytes (i + 1) (Some key)
  one_passed key good named after = record {
    key = ap Some named ∙ ap (λ p. Some (little_word bytes p)) here ∙ key_there bytes i;
    within = omega (arith, here, after);
    left = split ∙ second_told (first_flaw bytes (record_fields l bytes at last)) (first_flaw bytes (fields_from bytes (i + 1))) good;
  }

  -- its flaw is the first of all
  pub one_fails : (w : ℕ × CaptureCause) → Some w ≡ first_flaw bytes (record_fields l bytes at last)
      → Some w ≡ first_flaw bytes (page_fields bytes)
  one_fails w bad =
      first_told w (first_flaw bytes (record_fields l bytes at last)) (first_flaw bytes (fields_from bytes (i + 1))) bad ∙ sym split

-- no record is left
pub all_passed : (bytes : List ℕ) (i : ℕ) (last : Option ℕ) → i ≡ page_count bytes → IsPassed bytes i last
    → None ≡ first_flaw bytes (page_fields bytes)
all_passed bytes i last done passed =
    sym (passed.left ∙ ap (λ n. first_flaw bytes (flat_map (fields_of bytes) (range_with_len i n))) nothing)
  where
    nothing : page_count bytes - i ≡ 0
    nothing = omega (arith, done)
