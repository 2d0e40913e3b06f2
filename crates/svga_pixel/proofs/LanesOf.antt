-- Lanes one by one, and the words that are made of bytes.
use Rattle.std.proofs.Common.{◌≡◌, ℕ, ◌+◌, ◌*◌, ◌<◌, ◌≤◌, List, ◌∷◌, [], length, take, slice_index, get_or, arith, ◌^◌, refl}
use Rattle.std.proofs.lemmas.Simd.{get_or_wider}
use lib.Lanes.{chunk, digits_l, number_l, Each1}

pub same_four : (a b c d s t u v : ℕ) → a ≡ s → b ≡ t → c ≡ u → d ≡ v → ◌≡◌ {A = List ℕ} (a ∷ b ∷ c ∷ d ∷ []) (s ∷ t ∷ u ∷ v ∷ [])
same_four a b c d s t u v p q r e = rw (p, q, r, e) refl

pub same_eight : (a b c d e f g h s t u v w x y z : ℕ) → a ≡ s → b ≡ t → c ≡ u → d ≡ v → e ≡ w → f ≡ x → g ≡ y → h ≡ z → ◌≡◌ {A = List ℕ} (a ∷ b ∷ c ∷ d ∷ e ∷ f ∷ g ∷ h ∷ []) (s ∷ t ∷ u ∷ v ∷ w ∷ x ∷ y ∷ z ∷ [])
same_eight a b c d e f g h s t u v w x y z i j k l m n o p = rw (i, j, k, l, m, n, o, p) refl

-- a vector of eight lanes is the list of them
pub eight_lanes : (ws : List ℕ) → length ws ≡ 8 → ws ≡ slice_index ws 0 ∷ slice_index ws 1 ∷ slice_index ws 2 ∷ slice_index ws 3 ∷ slice_index ws 4 ∷ slice_index ws 5 ∷ slice_index ws 6 ∷ slice_index ws 7 ∷ []
eight_lanes [] long = absurd (omega arith)
eight_lanes (a ∷ []) long = absurd (omega arith)
eight_lanes (a ∷ b ∷ []) long = absurd (omega arith)
eight_lanes (a ∷ b ∷ c ∷ []) long = absurd (omega arith)
eight_lanes (a ∷ b ∷ c ∷ d ∷ []) long = absurd (omega arith)
eight_lanes (a ∷ b ∷ c ∷ d ∷ e ∷ []) long = absurd (omega arith)
eight_lanes (a ∷ b ∷ c ∷ d ∷ e ∷ f ∷ []) long = absurd (omega arith)
eight_lanes (a ∷ b ∷ c ∷ d ∷ e ∷ f ∷ g ∷ []) long = absurd (omega arith)
eight_lanes (a ∷ b ∷ c ∷ d ∷ e ∷ f ∷ g ∷ h ∷ []) long = refl
eight_lanes (a ∷ b ∷ c ∷ d ∷ e ∷ f ∷ g ∷ h ∷ i ∷ ws) long = absurd (omega arith)

-- four words of 32 bits, from the sixteen bytes that they have
pub words_of_bytes : (parts : List ℕ) → Each1 (λ x. x < 256) parts → digits_l (2 ^ 32) 4 (number_l 256 parts) ≡ number_l 256 (chunk 0 4 parts) ∷ number_l 256 (chunk 4 4 parts) ∷ number_l 256 (chunk 8 4 parts) ∷ number_l 256 (chunk 12 4 parts) ∷ []
words_of_bytes parts small =
    let words = digits_l (2 ^ 32) 4 (number_l 256 parts) in
    let at : (j : ℕ) → j < 4 → get_or words j 0 ≡ number_l 256 (chunk (4 * j) 4 parts) = λ j few. get_or_wider 256 4 (2 ^ 32) 4 parts j refl small few in
    same_four _ _ _ _ _ _ _ _ (at 0 (omega arith)) (at 1 (omega arith)) (at 2 (omega arith)) (at 3 (omega arith))

-- eight words of 16 bits
pub short_words : (parts : List ℕ) → Each1 (λ x. x < 256) parts → digits_l (2 ^ 16) 8 (number_l 256 parts) ≡ number_l 256 (chunk 0 2 parts) ∷ number_l 256 (chunk 2 2 parts) ∷ number_l 256 (chunk 4 2 parts) ∷ number_l 256 (chunk 6 2 parts) ∷ number_l 256 (chunk 8 2 parts) ∷ number_l 256 (chunk 10 2 parts) ∷ number_l 256 (chunk 12 2 parts) ∷ number_l 256 (chunk 14 2 parts) ∷ []
short_words parts small =
    let words = digits_l (2 ^ 16) 8 (number_l 256 parts) in
    let at : (j : ℕ) → j < 8 → get_or words j 0 ≡ number_l 256 (chunk (2 * j) 2 parts) = λ j few. get_or_wider 256 2 (2 ^ 16) 8 parts j refl small few in
    same_eight _ _ _ _ _ _ _ _ _ _ _ _ _ _ _ _ (at 0 (omega arith)) (at 1 (omega arith)) (at 2 (omega arith)) (at 3 (omega arith)) (at 4 (omega arith)) (at 5 (omega arith)) (at 6 (omega arith)) (at 7 (omega arith))

-- the word that two bytes make
pub two_bytes : (bytes : List ℕ) → 2 ≤ length bytes → number_l 256 (take 2 bytes) ≡ slice_index bytes 0 + 256 * slice_index bytes 1
two_bytes [] some = absurd (omega arith)
two_bytes (x ∷ []) some = absurd (omega arith)
two_bytes (x ∷ y ∷ bytes) some = omega arith
