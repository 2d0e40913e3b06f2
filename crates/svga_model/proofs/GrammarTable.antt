-- The table of refused words, read at one command or at one word.
use Rattle.std.proofs.Common.{◌≡◌, ◌≢◌, ℕ, ◌≤◌, ◌<◌, ap, ◌∙◌, None, arith, ◌⊎◌, inl, inr}
use Rattle.std.proofs.lemmas.Bool.Decides.{nat_tests}
use Rattle.svga_cmd.specs.Spelled.{format_of}
use Rattle.svga_cmd.specs.Words.{format_word}
use Rattle.svga_cmd.specs.declared.constants.TheConstants.{BGR24_WORD, BGRX32_WORD, MAX_REMAP_PAGES, RGB555_WORD, RGB565_WORD}
use Rattle.svga_model.specs.RefusedWords.{refusal, refusal_of_id}

pub le_or_lt : (n k : ℕ) → (n ≤ k) ⊎ (k < n)
le_or_lt n k = grind arith

pub is_or_not : (i k : ℕ) → (i ≡ k) ⊎ (i ≢ k)
is_or_not i k = go (le_or_lt i k) (le_or_lt k i) where
  go : (i ≤ k) ⊎ (k < i) → (k ≤ i) ⊎ (i < k) → (i ≡ k) ⊎ (i ≢ k)
  go (inl a) (inl b) = inl (omega arith)
  go (inl a) (inr b) = inr (λ e. absurd (omega arith))
  go (inr a) b = inr (λ e. absurd (omega arith))

-- the ids of the nine commands
pub data IsKnown (id : ℕ) : Type 0 where
  update : id ≡ 1 → IsKnown id
  fence : id ≡ 30 → IsKnown id
  define_screen : id ≡ 34 → IsKnown id
  destroy_screen : id ≡ 35 → IsKnown id
  define_gmrfb : id ≡ 36 → IsKnown id
  to_screen : id ≡ 37 → IsKnown id
  to_gmrfb : id ≡ 38 → IsKnown id
  define_gmr2 : id ≡ 41 → IsKnown id
  remap_gmr2 : id ≡ 42 → IsKnown id

pub known : (id : ℕ) → refusal_of_id id ≡ None → IsKnown id
known id h = grind (arith, nat_tests, update, fence, define_screen, destroy_screen, define_gmrfb, to_screen, to_gmrfb, define_gmr2, remap_gmr2)

-- the flag words of remaps
pub data IsFlags (flags : ℕ) : Type 0 where
  ppn32 : flags ≡ 0 → IsFlags flags
  via32 : flags ≡ 1 → IsFlags flags
  ppn64 : flags ≡ 2 → IsFlags flags
  via64 : flags ≡ 3 → IsFlags flags
  single32 : flags ≡ 4 → IsFlags flags
  single64 : flags ≡ 6 → IsFlags flags

pub known_flags : (flags : ℕ) → refusal 2 42 flags ≡ None → IsFlags flags
known_flags flags h = grind (arith, nat_tests, ppn32, via32, ppn64, via64, single32, single64)

pub few_pages : (pages : ℕ) → refusal 4 42 pages ≡ None → pages ≤ MAX_REMAP_PAGES
few_pages pages h = grind (arith, nat_tests)

pub format_word-format_of : (w : ℕ) → refusal 4 36 w ≡ None → format_word (format_of w) ≡ w
format_word-format_of w h = grind (arith, nat_tests)

-- an id at which no word but the id itself can be refused
pub accepted_elsewhere : (i id w : ℕ) → i ≢ 0 → id ≢ 34 → id ≢ 36 → id ≢ 42 → refusal i id w ≡ None
accepted_elsewhere i id w a b c d = grind (arith, nat_tests)

size_accepted : (w : ℕ) → (w ≡ 28) ⊎ (w ≡ 44) → refusal 1 34 w ≡ None
size_accepted w (inl e) = rw e
size_accepted w (inr e) = rw e

flags_accepted : (w : ℕ) → (w ≤ 4) ⊎ (w ≡ 6) → refusal 2 42 w ≡ None
flags_accepted w (inl l) = grind (arith, nat_tests)
flags_accepted w (inr e) = rw e

pages_accepted : (w : ℕ) → w ≤ MAX_REMAP_PAGES → refusal 4 42 w ≡ None
pages_accepted w l = grind (arith, nat_tests)

elsewhere_34 : (i w : ℕ) → i ≢ 0 → i ≢ 1 → refusal i 34 w ≡ None
elsewhere_34 i w a b = grind (arith, nat_tests)

elsewhere_42 : (i w : ℕ) → i ≢ 0 → i ≢ 2 → i ≢ 4 → refusal i 42 w ≡ None
elsewhere_42 i w a b c = grind (arith, nat_tests)

-- a word of DEFINE_SCREEN
pub accepted_34 : (i w : ℕ) → i ≢ 0 → (i ≡ 1 → (w ≡ 28) ⊎ (w ≡ 44)) → refusal i 34 w ≡ None
accepted_34 i w a b = elim (is_or_not i 1) as (λ _. refusal i 34 w ≡ None) [
  | inl e ↦ ap (λ k. refusal k 34 w) e ∙ size_accepted w (b e)
  | inr n ↦ elsewhere_34 i w a n
]

-- a word of DEFINE_GMRFB
pub accepted_36 : (i w : ℕ) → i ≢ 0 → (i ≡ 4 → (w ≡ BGRX32_WORD) ⊎ ((w ≡ BGR24_WORD) ⊎ ((w ≡ RGB565_WORD) ⊎ (w ≡ RGB555_WORD)))) → refusal i 36 w ≡ None
accepted_36 i w a b = grind (arith, nat_tests)

-- a word of REMAP_GMR2
pub accepted_42 : (i w : ℕ) → i ≢ 0 → (i ≡ 2 → (w ≤ 4) ⊎ (w ≡ 6)) → (i ≡ 4 → w ≤ MAX_REMAP_PAGES) → refusal i 42 w ≡ None
accepted_42 i w a b c = elim (is_or_not i 2) as (λ _. refusal i 42 w ≡ None) [
  | inl e ↦ ap (λ k. refusal k 42 w) e ∙ flags_accepted w (b e)
  | inr n ↦ elim (is_or_not i 4) as (λ _. refusal i 42 w ≡ None) [
    | inl e ↦ ap (λ k. refusal k 42 w) e ∙ pages_accepted w (c e)
    | inr m ↦ elsewhere_42 i w a n m
  ]
]

-- a zero is accepted where no size and no format is wanted
pub zero_accepted : (i id : ℕ) → i ≢ 0 → (id ≡ 34 → i ≢ 1) → id ≢ 36 → refusal i id 0 ≡ None
zero_accepted i id a b c = elim (is_or_not id 34) as (λ _. refusal i id 0 ≡ None) [
  | inl e ↦ ap (λ k. refusal i k 0) e ∙ elsewhere_34 i 0 a (b e)
  | inr n ↦ elim (is_or_not id 42) as (λ _. refusal i id 0 ≡ None) [
    | inl e ↦ ap (λ k. refusal i k 0) e ∙ accepted_42 i 0 a (λ _. inl (omega arith)) (λ _. omega arith)
    | inr m ↦ accepted_elsewhere i id 0 a n c m
  ]
]
