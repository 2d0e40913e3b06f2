-- The words that a capture holds: how many, and each of them.
use Rattle.std.proofs.Common.{◌≡◌, ℕ, ◌+◌, ◌/◌, ◌<◌, ◌∙◌, sym, ap, subst, arith, List, length, slice_index}
use Rattle.std.proofs.lemmas.List.FromFn.{get_or-map-range_with_len, length-map-range_with_len}
use Rattle.svga_capture.specs.Fields.{fields_in, ring_in}
use Rattle.svga_capture.specs.declared.fields.Fields.{Fields}
use Rattle.svga_capture.specs.declared.ring.Ring.{Ring}
use Rattle.svga_model.specs.Addresses.{address, dwords_between}
use Rattle.svga_model.specs.Captures.{Capture, held, waiting, waiting_words}
use Rattle.svga_model.specs.Walks.{little_word}

-- how many wait in a ring, and the offset of word k of them
abbrev pub count_in : Ring → ℕ
count_in r = waiting r.min r.max r.next r.stop / 4

abbrev pub offset_in : Ring → ℕ → ℕ
offset_in r k = address r.min (dwords_between r.min r.max) (dwords_between r.min r.stop + k)

-- word k
abbrev word_in : List ℕ → Ring → ℕ → ℕ
word_in bytes r k = little_word bytes (36 + offset_in r k)

word_total : (bytes : List ℕ) → length (waiting_words bytes) ≡ count_in (ring_in bytes)
word_total bytes = length-map-range_with_len (word_in bytes (ring_in bytes)) 0 (count_in (ring_in bytes))

word_there : (bytes : List ℕ) (i : ℕ) → i < count_in (ring_in bytes) → slice_index (waiting_words bytes) i ≡ word_in bytes (ring_in bytes) i
word_there bytes i waits =
    get_or-map-range_with_len (word_in bytes (ring_in bytes)) 0 (count_in (ring_in bytes)) i i 0 waits (omega arith)

-- the words of what is seen of a capture
module _ (view : Capture) (bytes : List ℕ) (f : Fields) (seen : held bytes ≡ view) (said : f ≡ fields_in bytes) where
  words_same : view.words ≡ waiting_words bytes
  words_same = sym (ap (λ (v : Capture). v.words) seen)

  pub total_seen : count_in f.ring ≡ length view.words
  total_seen = ap (λ (f : Fields). count_in f.ring) said ∙ sym (ap length words_same ∙ word_total bytes)

  pub within_seen : (i : ℕ) → i < length view.words → i < count_in f.ring
  within_seen i within = subst (λ n. i < n) (sym total_seen) within

  pub word_seen : (i : ℕ) → i < length view.words → little_word bytes (36 + offset_in f.ring i) ≡ slice_index view.words i
  word_seen i within =
      let waits : i < count_in (ring_in bytes) = subst (λ (f : Fields). i < count_in f.ring) said (within_seen i within) in
      ap (λ (f : Fields). word_in bytes f.ring i) said ∙ sym (ap (λ ws. slice_index ws i) words_same ∙ word_there bytes i waits)
