-- Complete words are a command's spelling: that of the command that reading finds in them.
use Rattle.std.proofs.Common.{◌≡◌, ℕ, zero, suc, ◌+◌, ◌*◌, ◌≤◌, ◌<◌, ◌==◌, List, [], ◌∷◌, length, drop, slice_index, refl, ap, sym, subst, ◌∙◌, Option, Some, None, arith, if◌then◌else◌, ◌⊎◌, inl, inr, add-one, w32, ◌^◌}
use Rattle.std.proofs.lemmas.Bool.Decides.{nat_tests}
use Rattle.std.proofs.lemmas.Int.{of_z-to_z}
use Rattle.std.proofs.lemmas.List.{drop_more, drop_all, length-drop}
use Rattle.std.specs.Int.{cast_signed}
use borrow.Author.Gap.{read_sfits}
use Rattle.svga_cmd.specs.Spelled.{backing_in, blit_in, command_in, entries_in, screen_in, signed_at}
use Rattle.svga_cmd.specs.Spelling.{Spells}
use Rattle.svga_cmd.specs.WellFormed.{HasEntries, HasSignedNumbers}
use Rattle.svga_cmd.specs.Words.{word_of, blit_words, struct_size, backing_words, flags_of, entry_words}
use Rattle.svga_cmd.specs.declared.command.Command.TheVariants.{DefineScreen}
use Rattle.svga_cmd.specs.declared.screen.Backing.{Backing}
use Rattle.svga_model.specs.Accepted.{AreWords, IsCommandWhole}
use Rattle.svga_model.specs.Lengths.{entry_count}
use Rattle.svga_model.specs.RefusedWords.{refusal}
use Rattle.svga_model.proofs.GrammarTable.{IsKnown, update, fence, define_screen, destroy_screen, define_gmrfb, to_screen, to_gmrfb, define_gmr2, remap_gmr2, known, IsFlags, ppn32, via32, ppn64, via64, single32, single64, known_flags, few_pages, format_word-format_of}

-- n words from place i on, and the rest
abbrev cells : ℕ → ℕ → List ℕ → List ℕ
cells zero i ws = drop i ws
cells (suc n) i ws = slice_index ws i ∷ cells n (suc i) ws

drop-cells : (n i : ℕ) (ws : List ℕ) → i + n ≤ length ws → drop i ws ≡ cells n i ws
drop-cells zero i ws e = refl
drop-cells (suc n) i ws e = drop_more ws i 0 (omega arith) ∙ ap (λ t. slice_index ws i ∷ t) (ap (λ k. drop k ws) (add-one i) ∙ drop-cells n (suc i) ws (omega arith))

-- a word is that of the signed number that is read there
word_of-signed : (n : ℕ) → n < 2 ^ 32 → word_of (cast_signed w32 n) ≡ n
word_of-signed n h = of_z-to_z w32 n h

nothing_behind : (n : ℕ) (ws : List ℕ) → length ws ≡ n → drop n ws ≡ []
nothing_behind n ws e = drop_all n ws (omega arith)

blit_words-blit_in : (ws : List ℕ) → AreWords ws → length ws ≡ 8 → ws ≡ slice_index ws 0 ∷ blit_words (blit_in ws)
blit_words-blit_in ws w e = drop-cells 8 0 ws (omega arith) ∙ (λ i. slice_index ws 0 ∷ same i 1 ∷ same i 2 ∷ same i 3 ∷ same i 4 ∷ same i 5 ∷ same i 6 ∷ slice_index ws 7 ∷ nothing_behind 8 ws e i) where
  same : (i : 𝕀) (k : ℕ) → ℕ
  same i k = sym (word_of-signed (slice_index ws k) (w k)) i

signed_blit : (ws : List ℕ) → HasSignedNumbers (blit_in ws)
signed_blit ws = record { x = read_sfits w32 _; y = read_sfits w32 _; left = read_sfits w32 _; top = read_sfits w32 _; right = read_sfits w32 _; bottom = read_sfits w32 _ }

screen_size : (w n : ℕ) → refusal 1 34 w ≡ None → n ≡ (if w == 28 then 8 else 12) → ((w ≡ 28) × (n ≡ 8)) ⊎ ((w ≡ 44) × (n ≡ 12))
screen_size w n h e = grind (arith, nat_tests)

screen_long : (w n : ℕ) → n ≡ (if w == 28 then 8 else 12) → 8 ≤ n
screen_long w n e = grind (arith, nat_tests)

plain_screen : (ws : List ℕ) → AreWords ws → slice_index ws 0 ≡ 34 → slice_index ws 1 ≡ 28 → length ws ≡ 8 → Spells (DefineScreen (screen_in ws)) ws
plain_screen ws w d s l = record {
  well_formed = record { x = read_sfits w32 _; y = read_sfits w32 _ };
  words = drop-cells 8 0 ws (omega arith) ∙ (λ i. d i ∷ s i ∷ slice_index ws 2 ∷ slice_index ws 3 ∷ slice_index ws 4 ∷ slice_index ws 5 ∷ sym (word_of-signed (slice_index ws 6) (w 6)) i ∷ sym (word_of-signed (slice_index ws 7) (w 7)) i ∷ nothing_behind 8 ws l i)
      ∙ sym (ap (λ (o : Option Backing). 34 ∷ struct_size o ∷ slice_index ws 2 ∷ slice_index ws 3 ∷ slice_index ws 4 ∷ slice_index ws 5 ∷ word_of (signed_at ws 6) ∷ word_of (signed_at ws 7) ∷ backing_words o) none);
}
  where
    none : backing_in ws ≡ None
    none = rw s

backed_screen : (ws : List ℕ) → AreWords ws → slice_index ws 0 ≡ 34 → slice_index ws 1 ≡ 44 → length ws ≡ 12 → Spells (DefineScreen (screen_in ws)) ws
backed_screen ws w d s l = record {
  well_formed = record { x = read_sfits w32 _; y = read_sfits w32 _ };
  words = drop-cells 12 0 ws (omega arith) ∙ (λ i. d i ∷ s i ∷ slice_index ws 2 ∷ slice_index ws 3 ∷ slice_index ws 4 ∷ slice_index ws 5 ∷ sym (word_of-signed (slice_index ws 6) (w 6)) i ∷ sym (word_of-signed (slice_index ws 7) (w 7)) i ∷ slice_index ws 8 ∷ slice_index ws 9 ∷ slice_index ws 10 ∷ slice_index ws 11 ∷ nothing_behind 12 ws l i)
      ∙ sym (ap (λ (o : Option Backing). 34 ∷ struct_size o ∷ slice_index ws 2 ∷ slice_index ws 3 ∷ slice_index ws 4 ∷ slice_index ws 5 ∷ word_of (signed_at ws 6) ∷ word_of (signed_at ws 7) ∷ backing_words o) some);
}
  where
    some : backing_in ws ≡ Some (record { region = slice_index ws 8; offset = slice_index ws 9; pitch = slice_index ws 10; clones = slice_index ws 11 })
    some = rw s

-- the entries of a remap: their words, their flag word and their number
entry_words-entries_in : (ws : List ℕ) (pages : ℕ) → IsFlags (slice_index ws 2) → length ws ≡ 5 + entry_count (slice_index ws 2) pages → (drop 5 ws ≡ entry_words (entries_in ws)) × (slice_index ws 2 ≡ flags_of (entries_in ws)) × HasEntries (entries_in ws) pages
entry_words-entries_in ws pages (ppn32 f) e = let l : length ws ≡ 5 + pages = rw f at e in rw f (refl, refl, omega (arith, length-drop 5 ws))
entry_words-entries_in ws pages (via32 f) e = let l : length ws ≡ 7 = rw f at e in rw f (drop-cells 2 5 ws (omega arith) ∙ (λ i. slice_index ws 5 ∷ slice_index ws 6 ∷ nothing_behind 7 ws l i), refl, tt)
entry_words-entries_in ws pages (ppn64 f) e = let l : length ws ≡ 5 + 2 * pages = rw f at e in rw f (refl, refl, omega (arith, length-drop 5 ws))
entry_words-entries_in ws pages (via64 f) e = let l : length ws ≡ 7 = rw f at e in rw f (drop-cells 2 5 ws (omega arith) ∙ (λ i. slice_index ws 5 ∷ slice_index ws 6 ∷ nothing_behind 7 ws l i), refl, tt)
entry_words-entries_in ws pages (single32 f) e = let l : length ws ≡ 6 = rw f at e in rw f (drop-cells 1 5 ws (omega arith) ∙ (λ i. slice_index ws 5 ∷ nothing_behind 6 ws l i), refl, tt)
entry_words-entries_in ws pages (single64 f) e = let l : length ws ≡ 7 = rw f at e in rw f (drop-cells 2 5 ws (omega arith) ∙ (λ i. slice_index ws 5 ∷ slice_index ws 6 ∷ nothing_behind 7 ws l i), refl, tt)

pub complete_spells : (ws : List ℕ) → AreWords ws → IsCommandWhole ws → Spells (command_in ws) ws
complete_spells ws w complete = at_id (known _ (complete.accepted 0 complete.some)) where
  -- word k isn't refused
  taken : (k id : ℕ) → slice_index ws 0 ≡ id → k < length ws → refusal k id (slice_index ws k) ≡ None
  taken k id d l = subst (λ id. refusal k id (slice_index ws k) ≡ None) d (complete.accepted k l)

  at_id : IsKnown (slice_index ws 0) → Spells (command_in ws) ws
  at_id (update d) = let l : length ws ≡ 5 = rw d at complete.full in rw d (record { well_formed = tt; words = drop-cells 5 0 ws (omega arith) ∙ (λ i. d i ∷ slice_index ws 1 ∷ slice_index ws 2 ∷ slice_index ws 3 ∷ slice_index ws 4 ∷ nothing_behind 5 ws l i) })
  at_id (fence d) = let l : length ws ≡ 2 = rw d at complete.full in rw d (record { well_formed = tt; words = drop-cells 2 0 ws (omega arith) ∙ (λ i. d i ∷ slice_index ws 1 ∷ nothing_behind 2 ws l i) })
  at_id (define_screen d) =
      let l : length ws ≡ (if slice_index ws 1 == 28 then 8 else 12) = rw d at complete.full in
      let long = screen_long (slice_index ws 1) (length ws) l in
      rw d (elim (screen_size (slice_index ws 1) (length ws) (taken 1 34 d (omega arith)) l) as (λ _. Spells (DefineScreen (screen_in ws)) ws) [
        | inl a ↦ plain_screen ws w d a.0 a.1
        | inr a ↦ backed_screen ws w d a.0 a.1
      ])
  at_id (destroy_screen d) = let l : length ws ≡ 2 = rw d at complete.full in rw d (record { well_formed = tt; words = drop-cells 2 0 ws (omega arith) ∙ (λ i. d i ∷ slice_index ws 1 ∷ nothing_behind 2 ws l i) })
  at_id (define_gmrfb d) = let l : length ws ≡ 5 = rw d at complete.full in
      rw d (record { well_formed = tt; words = drop-cells 5 0 ws (omega arith) ∙ (λ i. d i ∷ slice_index ws 1 ∷ slice_index ws 2 ∷ slice_index ws 3 ∷ sym (format_word-format_of (slice_index ws 4) (taken 4 36 d (omega arith))) i ∷ nothing_behind 5 ws l i) })
  at_id (to_screen d) = let l : length ws ≡ 8 = rw d at complete.full in rw d (record { well_formed = signed_blit ws; words = blit_words-blit_in ws w l ∙ ap (λ id. id ∷ blit_words (blit_in ws)) d })
  at_id (to_gmrfb d) = let l : length ws ≡ 8 = rw d at complete.full in rw d (record { well_formed = signed_blit ws; words = blit_words-blit_in ws w l ∙ ap (λ id. id ∷ blit_words (blit_in ws)) d })
  at_id (define_gmr2 d) = let l : length ws ≡ 3 = rw d at complete.full in rw d (record { well_formed = tt; words = drop-cells 3 0 ws (omega arith) ∙ (λ i. d i ∷ slice_index ws 1 ∷ slice_index ws 2 ∷ nothing_behind 3 ws l i) })
  at_id (remap_gmr2 d) = let l : length ws ≡ 5 + entry_count (slice_index ws 2) (slice_index ws 4) = rw d at complete.full in
      let long : 5 ≤ length ws = omega arith in
      let spelled = entry_words-entries_in ws (slice_index ws 4) (known_flags (slice_index ws 2) (taken 2 42 d (omega arith))) l in
      rw d (record {
        well_formed = (few_pages (slice_index ws 4) (taken 4 42 d (omega arith)), spelled.2);
        words = drop-cells 5 0 ws (omega arith) ∙ (λ i. d i ∷ slice_index ws 1 ∷ spelled.1 i ∷ slice_index ws 3 ∷ slice_index ws 4 ∷ spelled.0 i);
      })
