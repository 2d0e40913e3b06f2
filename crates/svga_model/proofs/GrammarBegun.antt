-- Accepted words that are fewer than their command has begin a spelling.
use Rattle.std.proofs.Common.{◌≡◌, ◌≢◌, ℕ, zero, suc, ◌+◌, ◌-◌, ◌≤◌, ◌<◌, List, ◌∷◌, ◌++◌, length, take, drop, replicate, slice_index, refl, ap, sym, subst, ◌∙◌, None, arith, inl, inr, length-take, length-append, w32, ◌^◌}
use Rattle.std.proofs.lemmas.Grind.{same_number_lists}
use Rattle.std.proofs.lemmas.List.{drop_more, get_or-take, get_or_append_left, get_or-append_right, get_or_past, get_or-replicate, length-replicate, take-append-drop}
use Rattle.std.specs.Int.{cast_signed}
use borrow.Author.Gap.{read_sfits}
use Rattle.svga_cmd.specs.Spelled.{command_in}
use Rattle.svga_cmd.specs.Spelling.{spelling}
use Rattle.svga_cmd.specs.WellFormed.{IsWellFormed}
use Rattle.svga_cmd.specs.declared.command.Command.{Command}
use Rattle.svga_cmd.specs.declared.command.Command.TheVariants.{Fence, DefineScreen, DefineGmrfb}
use Rattle.svga_cmd.specs.declared.format.Format.TheVariants.{Bgrx32}
use Rattle.svga_model.specs.Accepted.{AreWords, AreAccepted, IsCommandPart}
use Rattle.svga_model.specs.Lengths.{count_by_id, whole_length}
use Rattle.svga_model.specs.RefusedWords.{refusal}
use Rattle.svga_model.specs.Sentences.{IsCommandBegun}
use Rattle.svga_model.proofs.GrammarComplete.{complete_spells}
use Rattle.svga_model.proofs.GrammarTable.{le_or_lt, is_or_not, zero_accepted}

-- words that agree with a spelling as far as they go, and are fewer
agrees : (ws : List ℕ) (c : Command) → IsWellFormed c → length ws < length (spelling c) → ((i : ℕ) → i < length ws → slice_index ws i ≡ slice_index (spelling c) i) → IsCommandBegun ws
agrees ws c h l same = (
  c,
  slice_index (spelling c) (length ws),
  drop (length ws + 1) (spelling c),
  record {
    well_formed = h;
    words = ap (λ t. t ++ slice_index (spelling c) (length ws) ∷ drop (length ws + 1) (spelling c)) front ∙ ap (λ t. take (length ws) (spelling c) ++ t) (sym (drop_more (spelling c) (length ws) 0 l)) ∙ take-append-drop (length ws) (spelling c);
  },
)
  where
    front : ws ≡ take (length ws) (spelling c)
    front = same_number_lists ws (take (length ws) (spelling c)) (omega (arith, length-take (length ws) (spelling c)))
        (λ i k. same i k ∙ sym (get_or-take (length ws) (spelling c) i 0 k))

-- zeros behind words change nothing that is read
at_zeros : (ws : List ℕ) (n i : ℕ) → slice_index (ws ++ replicate n 0) i ≡ slice_index ws i
at_zeros ws n i = elim (le_or_lt (length ws) i) as (λ _. slice_index (ws ++ replicate n 0) i ≡ slice_index ws i) [
  | inl past ↦ get_or-append_right ws (replicate n 0) (length ws) i 0 refl past ∙ zero_at n (i - length ws) ∙ sym (get_or_past ws i 0 past)
  | inr l ↦ get_or_append_left ws (replicate n 0) 0 i l
]
  where
    zero_at : (n i : ℕ) → slice_index (replicate n 0) i ≡ 0
    zero_at n i = elim (le_or_lt n i) as (λ _. slice_index (replicate n 0) i ≡ 0) [
      | inl past ↦ get_or_past (replicate n 0) i 0 (let z : ℕ = 0 in omega (arith, length-replicate n z))
      | inr l ↦ get_or-replicate n i 0 0 l
    ]

zeros_accepted : (ws : List ℕ) (n : ℕ) → AreAccepted ws → 0 < length ws → slice_index ws 0 ≢ 36 → (slice_index ws 0 ≡ 34 → 1 < length ws) → AreAccepted (ws ++ replicate n 0)
zeros_accepted ws n h some no36 no34 i l = (λ t. refusal i (at_zeros ws n 0 t) (at_zeros ws n i t)) ∙ elim (le_or_lt (length ws) i) as (λ _. refusal i (slice_index ws 0) (slice_index ws i) ≡ None) [
  | inl past ↦ ap (refusal i (slice_index ws 0)) (get_or_past ws i 0 past) ∙ zero_accepted i (slice_index ws 0) (λ e. absurd (omega arith)) (λ e f. let m = no34 e in absurd (omega arith)) no36
  | inr short ↦ h i short
]

-- the words go on with zeros, up to their command's length
begun_by_zeros : (ws : List ℕ) (n : ℕ) → AreWords ws → AreAccepted ws → 0 < length ws → slice_index ws 0 ≢ 36 → (slice_index ws 0 ≡ 34 → 1 < length ws) → length ws + suc n ≡ whole_length ws → IsCommandBegun ws
begun_by_zeros ws n w h some no36 no34 e = (command_in padded, 0, replicate n 0, complete_spells padded words (record { accepted = zeros_accepted ws (suc n) h some no36 no34; some = omega (arith, count); full = count ∙ e ∙ sym same })) where
  padded : List ℕ
  padded = ws ++ replicate (suc n) 0

  words : AreWords (ws ++ replicate (suc n) 0)
  words i = subst (λ k. k < 2 ^ 32) (sym (at_zeros ws (suc n) i)) (w i)

  count : length (ws ++ replicate (suc n) 0) ≡ length ws + suc n
  count = length-append ws (replicate (suc n) 0) ∙ (let z : ℕ = 0 in ap (λ k. length ws + k) (length-replicate (suc n) z))

  same : whole_length (ws ++ replicate (suc n) 0) ≡ whole_length ws
  same = λ t. count_by_id (at_zeros ws (suc n) 0 t) (at_zeros ws (suc n) 1 t) (at_zeros ws (suc n) 2 t) (at_zeros ws (suc n) 4 t)

pub part_begun : (ws : List ℕ) → AreWords ws → IsCommandPart ws → IsCommandBegun ws
part_begun ws w part = elim (le_or_lt (length ws) 0) as (λ _. IsCommandBegun ws) [
  | inl none ↦ agrees ws (Fence 0) tt (omega arith) (λ i k. absurd (omega arith))
  | inr some ↦ elim (is_or_not (slice_index ws 0) 36) as (λ _. IsCommandBegun ws) [
    | inl e ↦ agrees ws (gmrfb ws) tt (let m : length ws < 5 = rw e at part.short in m) (λ i k. gmrfb_same e i (let m : length ws < 5 = rw e at part.short in omega arith))
    | inr no36 ↦ elim (le_or_lt (length ws) 1) as (λ _. IsCommandBegun ws) [
      | inl one ↦ elim (is_or_not (slice_index ws 0) 34) as (λ _. IsCommandBegun ws) [
        | inl e ↦ agrees ws screen (record { x = read_sfits w32 0; y = read_sfits w32 0 }) (omega arith) (λ i k. ap (slice_index ws) (zero_is i k one) ∙ e ∙ ap (slice_index (spelling screen)) (sym (zero_is i k one)))
        | inr no34 ↦ zeros some no36 (λ e. absurd (no34 e))
      ]
      | inr more ↦ zeros some no36 (λ e. more)
    ]
  ]
]
  where
    -- a zero is no format, so the words of DEFINE_GMRFB go on with one
    gmrfb : List ℕ → Command
    gmrfb xs = DefineGmrfb (record { region = slice_index xs 1; offset = slice_index xs 2; pitch = slice_index xs 3; format = Bgrx32 })

    gmrfb_same : slice_index ws 0 ≡ 36 → (i : ℕ) → i < 4 → slice_index ws i ≡ slice_index (spelling (gmrfb ws)) i
    gmrfb_same e zero k = e
    gmrfb_same e (suc zero) k = refl
    gmrfb_same e (suc (suc zero)) k = refl
    gmrfb_same e (suc (suc (suc zero))) k = refl
    gmrfb_same e (suc (suc (suc (suc i)))) k = absurd (omega arith)

    -- a zero is no size, so the id of DEFINE_SCREEN goes on with one
    screen : Command
    screen = DefineScreen (record { id = 0; flags = 0; width = 0; height = 0; x = cast_signed w32 0; y = cast_signed w32 0; backing = None })

    zero_is : (i : ℕ) → i < length ws → length ws ≤ 1 → i ≡ 0
    zero_is i k one = omega arith

    missing : (a b : ℕ) → a < b → a + suc (b - a - 1) ≡ b
    missing a b l = omega arith

    zeros : 0 < length ws → slice_index ws 0 ≢ 36 → (slice_index ws 0 ≡ 34 → 1 < length ws) → IsCommandBegun ws
    zeros some no36 no34 = begun_by_zeros ws (whole_length ws - length ws - 1) w part.accepted some no36 no34 (missing (length ws) (whole_length ws) part.short)
