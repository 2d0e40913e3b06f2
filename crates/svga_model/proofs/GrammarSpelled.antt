-- The words of a spelling are accepted and complete, and the words that begin one are accepted and a part.
use Rattle.std.proofs.Common.{◌≡◌, ◌≢◌, ℕ, ◌+◌, ◌≤◌, ◌<◌, List, [], ◌∷◌, ◌++◌, length, slice_index, refl, ap, sym, subst, ◌∙◌, Option, Some, None, arith, ◌⊎◌, inl, inr, length-append, append-nil}
use Rattle.std.proofs.lemmas.List.{get_or_append_left}
use Rattle.svga_cmd.specs.Spelling.{Spells, spelling}
use Rattle.svga_cmd.specs.WellFormed.{IsWellFormed}
use Rattle.svga_cmd.specs.Words.{struct_size, format_word, flags_of}
use Rattle.svga_cmd.specs.declared.cause.Cause.{Cause}
use Rattle.svga_cmd.specs.declared.command.Command.{Command}
use Rattle.svga_cmd.specs.declared.command.Command.TheVariants.{Update, Fence, DefineScreen, DestroyScreen, DefineGmrfb, BlitToScreen, BlitToGmrfb, DefineGmr2, RemapGmr2}
use Rattle.svga_cmd.specs.declared.constants.TheConstants.{BGR24_WORD, BGRX32_WORD, MAX_REMAP_PAGES, RGB555_WORD, RGB565_WORD}
use Rattle.svga_cmd.specs.declared.format.Format.{Format}
use Rattle.svga_cmd.specs.declared.format.Format.TheVariants.{Bgrx32, Bgr24, Rgb565, Rgb555}
use Rattle.svga_cmd.specs.declared.remap.RemapData.{RemapData}
use Rattle.svga_cmd.specs.declared.remap.RemapData.TheVariants.{Ppn32, Ppn64, SinglePpn32, SinglePpn64, ViaGmr32, ViaGmr64}
use Rattle.svga_cmd.specs.declared.screen.Backing.{Backing}
use Rattle.svga_model.specs.Accepted.{AreAccepted, IsCommandPart, IsCommandWhole}
use Rattle.svga_model.specs.Lengths.{count_by_id, whole_length}
use Rattle.svga_model.specs.RefusedWords.{refusal, refusal_of_id}
use Rattle.svga_model.specs.Sentences.{Begins, IsCommandBegun}
use Rattle.svga_model.proofs.GrammarLengths.{one_at_least, one_more, whole_length-spelling}
use Rattle.svga_model.proofs.GrammarTable.{known, le_or_lt, is_or_not, accepted_elsewhere, accepted_34, accepted_36, accepted_42}

by_place : (i : ℕ) (ws : List ℕ) → refusal_of_id (slice_index ws 0) ≡ None → (i ≢ 0 → refusal i (slice_index ws 0) (slice_index ws i) ≡ None) → refusal i (slice_index ws 0) (slice_index ws i) ≡ None
by_place i ws first rest = elim (is_or_not i 0) as (λ _. refusal i (slice_index ws 0) (slice_index ws i) ≡ None) [
  | inl e ↦ ap (λ k. refusal k (slice_index ws 0) (slice_index ws k)) e ∙ first
  | inr n ↦ rest n
]

size_word : (backing : Option Backing) → (struct_size backing ≡ 28) ⊎ (struct_size backing ≡ 44)
size_word None = inl refl
size_word (Some b) = inr refl

format_known : (f : Format) → (format_word f ≡ BGRX32_WORD) ⊎ ((format_word f ≡ BGR24_WORD) ⊎ ((format_word f ≡ RGB565_WORD) ⊎ (format_word f ≡ RGB555_WORD)))
format_known Bgrx32 = inl refl
format_known Bgr24 = inr (inl refl)
format_known Rgb565 = inr (inr (inl refl))
format_known Rgb555 = inr (inr (inr refl))

flags_known : (entries : RemapData) → (flags_of entries ≤ 4) ⊎ (flags_of entries ≡ 6)
flags_known (Ppn32 list) = inl (omega arith)
flags_known (Ppn64 list) = inl (omega arith)
flags_known (SinglePpn32 page) = inl (omega arith)
flags_known (SinglePpn64 low high) = inr refl
flags_known (ViaGmr32 pointer) = inl (omega arith)
flags_known (ViaGmr64 pointer) = inl (omega arith)

-- a command whose id is the only word that could be refused
plain : (i : ℕ) (ws : List ℕ) → refusal_of_id (slice_index ws 0) ≡ None → slice_index ws 0 ≢ 34 → slice_index ws 0 ≢ 36 → slice_index ws 0 ≢ 42 → refusal i (slice_index ws 0) (slice_index ws i) ≡ None
plain i ws first a b c = by_place i ws first (λ p. accepted_elsewhere i (slice_index ws 0) (slice_index ws i) p a b c)

-- no word of a command's spelling is refused
pub spelling_accepted : (c : Command) → IsWellFormed c → (i : ℕ) → refusal i (slice_index (spelling c) 0) (slice_index (spelling c) i) ≡ None
spelling_accepted (Update x y width height) h i = plain i (spelling (Update x y width height)) refl (λ e. absurd (omega arith)) (λ e. absurd (omega arith)) (λ e. absurd (omega arith))
spelling_accepted (Fence value) h i = plain i (spelling (Fence value)) refl (λ e. absurd (omega arith)) (λ e. absurd (omega arith)) (λ e. absurd (omega arith))
spelling_accepted (DefineScreen d) h i = by_place i (spelling (DefineScreen d)) refl (λ p. accepted_34 i (slice_index (spelling (DefineScreen d)) i) p (λ e. subst (λ k. (slice_index (spelling (DefineScreen d)) k ≡ 28) ⊎ (slice_index (spelling (DefineScreen d)) k ≡ 44)) (sym e) (size_word d.backing)))
spelling_accepted (DestroyScreen id) h i = plain i (spelling (DestroyScreen id)) refl (λ e. absurd (omega arith)) (λ e. absurd (omega arith)) (λ e. absurd (omega arith))
spelling_accepted (DefineGmrfb g) h i = by_place i (spelling (DefineGmrfb g)) refl (λ p. accepted_36 i (slice_index (spelling (DefineGmrfb g)) i) p (λ e. subst (λ k. let w = slice_index (spelling (DefineGmrfb g)) k in (w ≡ BGRX32_WORD) ⊎ ((w ≡ BGR24_WORD) ⊎ ((w ≡ RGB565_WORD) ⊎ (w ≡ RGB555_WORD)))) (sym e) (format_known g.format)))
spelling_accepted (BlitToScreen b) h i = plain i (spelling (BlitToScreen b)) refl (λ e. absurd (omega arith)) (λ e. absurd (omega arith)) (λ e. absurd (omega arith))
spelling_accepted (BlitToGmrfb b) h i = plain i (spelling (BlitToGmrfb b)) refl (λ e. absurd (omega arith)) (λ e. absurd (omega arith)) (λ e. absurd (omega arith))
spelling_accepted (DefineGmr2 region pages) h i = plain i (spelling (DefineGmr2 region pages)) refl (λ e. absurd (omega arith)) (λ e. absurd (omega arith)) (λ e. absurd (omega arith))
spelling_accepted (RemapGmr2 region offset pages entries) h i = by_place i (spelling (RemapGmr2 region offset pages entries)) refl (λ p. accepted_42 i (slice_index (spelling (RemapGmr2 region offset pages entries)) i) p
    (λ e. subst (λ k. let w = slice_index (spelling (RemapGmr2 region offset pages entries)) k in (w ≤ 4) ⊎ (w ≡ 6)) (sym e) (flags_known entries))
    (λ e. subst (λ k. slice_index (spelling (RemapGmr2 region offset pages entries)) k ≤ MAX_REMAP_PAGES) (sym e) h.0))

-- words with which a spelling begins are its words
same_word : (c : Command) (ws rest : List ℕ) → Spells c (ws ++ rest) → (i : ℕ) → i < length ws → slice_index ws i ≡ slice_index (spelling c) i
same_word c ws rest s i l = sym (get_or_append_left ws rest 0 i l) ∙ ap (λ t. slice_index t i) s.words

pub begins_accepted : (ws : List ℕ) → Begins ws → AreAccepted ws
begins_accepted ws b i l = (λ t. refusal i (same_word b.0 ws b.1 b.2 0 (omega arith) t) (same_word b.0 ws b.1 b.2 i l t)) ∙ spelling_accepted b.0 b.2.well_formed i

-- a refused word begins none
pub refused_begins_none : (n : ℕ) (ws : List ℕ) (why : Cause) → length ws ≡ n + 1 → refusal n (slice_index ws 0) (slice_index ws n) ≡ Some why → Begins ws → ⊥
refused_begins_none n ws why e r b = let none = begins_accepted ws b n (omega arith) in cc (r, none)

pub begun_begins : (ws : List ℕ) → IsCommandBegun ws → Begins ws
begun_begins ws b = (b.0, b.1 ∷ b.2, b.3)

pub spelled_begins : (c : Command) (ws : List ℕ) → Spells c ws → Begins ws
spelled_begins c ws s = (c, [], subst (λ t. Spells c t) (sym (append-nil ws)) s)

pub whole_length-spelled : (c : Command) (ws rest : List ℕ) → Spells c ws → whole_length (ws ++ rest) ≡ length ws
whole_length-spelled c ws rest s = ap (λ t. whole_length (t ++ rest)) s.words ∙ whole_length-spelling c s.well_formed rest ∙ sym (ap length s.words)

pub spelled_some : (c : Command) (ws : List ℕ) → Spells c ws → 0 < length ws
spelled_some c ws s = omega (arith, one_at_least (ws ++ []), whole_length-spelled c ws [] s)

pub spelled_complete : (c : Command) (ws : List ℕ) → Spells c ws → IsCommandWhole ws
spelled_complete c ws s = record {
  accepted = begins_accepted ws (spelled_begins c ws s);
  some = spelled_some c ws s;
  full = sym (whole_length-spelled c ws [] s) ∙ ap whole_length (append-nil ws);
}

pub begun_part : (ws : List ℕ) → IsCommandBegun ws → IsCommandPart ws
begun_part ws b = record { accepted = accepted; short = short } where
  accepted : AreAccepted ws
  accepted = begins_accepted ws (begun_begins ws b)

  front : (i : ℕ) → i < length ws → slice_index (ws ++ b.1 ∷ b.2) i ≡ slice_index ws i
  front i l = get_or_append_left ws (b.1 ∷ b.2) 0 i l

  longer : 0 < length ws → length ws < count_by_id (slice_index ws 0) (slice_index (ws ++ b.1 ∷ b.2) 1) (slice_index (ws ++ b.1 ∷ b.2) 2) (slice_index (ws ++ b.1 ∷ b.2) 4)
  longer some =
      let full = (spelled_complete b.0 (ws ++ b.1 ∷ b.2) b.3).full in
      let l : length ws < whole_length (ws ++ b.1 ∷ b.2) = omega (arith, full, length-append ws (b.1 ∷ b.2)) in
      rw (front 0 some) at l

  short : length ws < whole_length ws
  short = elim (le_or_lt (length ws) 0) as (λ _. length ws < whole_length ws) [
    | inl none ↦ omega (arith, one_at_least ws)
    | inr some ↦ omega (
      arith,
      one_more (length ws) (slice_index ws 0)
          (slice_index (ws ++ b.1 ∷ b.2) 1) (slice_index (ws ++ b.1 ∷ b.2) 2) (slice_index (ws ++ b.1 ∷ b.2) 4) (slice_index ws 1) (slice_index ws 2) (slice_index ws 4)
          (λ m. sym (front 1 m)) (λ m. sym (front 2 m)) (λ m. sym (front 4 m)) (known (slice_index ws 0) (accepted 0 some)) some (longer some),
    )
  ]
