-- A loop that replaces the items of a list one after another.
use Rattle.std.proofs.Common.{◌≡◌, ℕ, ◌+◌, ◌-◌, ◌<◌, List, [], ◌∷◌, ◌++◌, arith, sym, ap, ◌∙◌, subst, drop, length, suc, take, slice_index_or, slice_set}
use Rattle.std.specs.List.{AllZip}
use Rattle.std.proofs.lemmas.List.{get_or-append_right, get_or-drop, length-append, length-drop, length-take-le, set_split, take_at}
use Rattle.std.proofs.lemmas.List.Elements.{length_all_zip}
use Rattle.std.proofs.lemmas.Slice.{drop-append-drop}
use Rattle.std.proofs.Math.Seq.{append_snoc}

-- as many items were replaced as were gone through
pub told_count : {X : Type 0} (R : X → X → Type 0) (xs done : List X) (k : ℕ) → AllZip R (take k xs) done → k < length xs → length done ≡ k
told_count R xs done k h within = sym (length_all_zip R (take k xs) done h) ∙ length-take-le k xs (omega arith)

module _ {X : Type 0} (xs done ys : List X) (k : ℕ) (whole : ys ≡ done ++ drop k xs) (count : length done ≡ k) (within : k < length xs) where
  -- what is read at k is what stood there
  pub read_there : (x : X) → x ≡ slice_index_or ys k x → x ≡ slice_index_or xs k x
  read_there x e = e ∙ (ap (λ l. slice_index_or l k x) whole ∙ (get_or-append_right done (drop k xs) k k x count (omega arith) ∙ (get_or-drop k xs (k - k) x ∙ ap (λ i. slice_index_or xs i x) (omega arith))))

  -- and another item is put there
  pub whole_more : (y : X) → slice_set ys k y ≡ (done ++ y ∷ []) ++ drop (k + 1) xs
  whole_more y =
      ap (λ l. slice_set l k y) whole
      ∙ (set_split (done ++ drop k xs) k y (subst (λ n. k < n) (sym (length-append done (drop k xs))) (omega (arith, count, length-drop k xs)))
      ∙ (ap (λ n. take k (done ++ drop k xs) ++ y ∷ drop n (done ++ drop k xs)) (let e : suc k ≡ k + 1 = omega arith in e)
      ∙ (ap (λ l. l ++ y ∷ drop (k + 1) (done ++ drop k xs)) (take_at done (drop k xs) k count)
      ∙ (ap (λ l. done ++ y ∷ l) (drop-append-drop k xs done (k + 1) (omega arith) count)
      ∙ sym (append_snoc done y (drop (k + 1) xs))))))
