-- The numbers of runs of pages, run by run.
use Rattle.std.proofs.Common.{◌≡◌, ℕ, zero, suc, ◌+◌, ◌<◌, ◌≤◌, List, [], ◌∷◌, ◌++◌, length, take, Bool, true, false, ◌&&◌, refl, sym, ap, ◌∙◌, append-nil, append_assoc, slice_index_or, map as map_list, arith}
use Rattle.std.proofs.lemmas.List.Sums.{sum_by-cons}
use Rattle.std.specs.List.{list_all, range_with_len}
use Rattle.svga_model.specs.ClientActs.{PageRun, run_numbers, runs_numbers}
use Rattle.svga_model.specs.ScriptBounds.{pages_in, run_ends}
use Rattle.svga_script.specs.Acts.{run_of}
use Rattle.svga_script.specs.declared.list.Run.{Run}

range_suc : (a n : ℕ) → range_with_len a (suc n) ≡ range_with_len a n ++ (a + n) ∷ []
range_suc a zero = ap (λ j. j ∷ []) (let e : a ≡ a + 0 = omega arith in e)
range_suc a (suc n) = ap (λ l. a ∷ l) (range_suc (a + 1) n
    ∙ ap (λ j. range_with_len (a + 1) n ++ j ∷ []) (let e : a + 1 + n ≡ a + suc n = omega arith in e))

-- a number more of a run
pub range_more : (before items more : List ℕ) (a n : ℕ) → items ≡ before ++ range_with_len a n
    → more ≡ items ++ (a + n) ∷ [] → more ≡ before ++ range_with_len a (n + 1)
range_more before items more a n is new =
    new ∙ ap (λ l. l ++ (a + n) ∷ []) is ∙ append_assoc before (range_with_len a n) ((a + n) ∷ [])
    ∙ ap (λ l. before ++ l) (sym (range_suc a n)
    ∙ ap (range_with_len a) (let e : suc n ≡ n + 1 = omega arith in e))

abbrev first_runs : List Run → ℕ → List PageRun
first_runs runs i = map_list run_of (take i runs)

-- the numbers of a run more, and how many they are
numbers_suc : (runs : List Run) (i : ℕ) (d : Run) → i < length runs
    → runs_numbers (first_runs runs (suc i))
    ≡ runs_numbers (first_runs runs i) ++ run_numbers (run_of (slice_index_or runs i d))
numbers_suc [] i d low = absurd (omega arith)
numbers_suc (r ∷ runs) zero d low = append-nil (run_numbers (run_of r))
numbers_suc (r ∷ runs) (suc i) d low =
    ap (λ l. run_numbers (run_of r) ++ l) (numbers_suc runs i d (omega arith))
    ∙ sym (append_assoc (run_numbers (run_of r)) (runs_numbers (first_runs runs i))
    (run_numbers (run_of (slice_index_or runs i d))))

pages-cons : (r : Run) (runs : List Run)
    → pages_in (map_list run_of (r ∷ runs)) ≡ r.count + pages_in (map_list run_of runs)
pages-cons r runs = sum_by-cons (λ (r : PageRun). r.count) (run_of r) (map_list run_of runs)

pages_suc : (runs : List Run) (i : ℕ) (d : Run) → i < length runs
    → pages_in (first_runs runs (suc i)) ≡ pages_in (first_runs runs i) + (slice_index_or runs i d).count
pages_suc [] i d low = absurd (omega arith)
pages_suc (r ∷ runs) zero d low = omega (arith, pages-cons r [])
pages_suc (r ∷ runs) (suc i) d low =
    let rest = pages_suc runs i d (omega arith) in
    pages-cons r (take (suc i) runs) ∙ ap (λ n. r.count + n) rest
    ∙ (let e : r.count + (pages_in (first_runs runs i) + (slice_index_or runs i d).count)
    ≡ r.count + pages_in (first_runs runs i) + (slice_index_or runs i d).count = omega arith in e)
    ∙ ap (λ n. n + (slice_index_or runs i d).count) (sym (pages-cons r (take i runs)))

pub numbers_more : (runs : List Run) (i : ℕ) (d : Run) (items more : List ℕ) → i < length runs
    → items ≡ runs_numbers (first_runs runs i)
    → more ≡ items ++ run_numbers (run_of (slice_index_or runs i d))
    → more ≡ runs_numbers (first_runs runs (i + 1))
numbers_more runs i d items more low is new =
    new ∙ ap (λ l. l ++ run_numbers (run_of (slice_index_or runs i d))) is ∙ sym (numbers_suc runs i d low)
    ∙ ap (λ n. runs_numbers (first_runs runs n)) (let e : suc i ≡ i + 1 = omega arith in e)

pub pages_more : (runs : List Run) (i : ℕ) (d : Run) (count : ℕ) → i < length runs
    → count ≡ pages_in (first_runs runs i)
    → count + (slice_index_or runs i d).count ≡ pages_in (first_runs runs (i + 1))
pages_more runs i d count low is =
    ap (λ n. n + (slice_index_or runs i d).count) is ∙ sym (pages_suc runs i d low)
    ∙ ap (λ n. pages_in (first_runs runs n)) (let e : suc i ≡ i + 1 = omega arith in e)

-- each run of those that are within bounds is
pub pages_low : (runs : List Run) (i : ℕ) (d : Run) → i < length runs
    → pages_in (first_runs runs i) + (slice_index_or runs i d).count ≤ pages_in (map_list run_of runs)
pages_low runs i d low =
    omega (arith, pages_suc runs i d low, first_low runs (suc i))
  where
    first_low : (runs : List Run) (n : ℕ) → pages_in (first_runs runs n) ≤ pages_in (map_list run_of runs)
    first_low runs zero = omega arith
    first_low [] (suc n) = omega arith
    first_low (r ∷ runs) (suc n) =
        omega (arith, pages-cons r (take n runs), pages-cons r runs, first_low runs n)

both_true : (a b : Bool) → (a && b) ≡ true → (a ≡ true) × (b ≡ true)
both_true true b is = (refl, is)
both_true false b is = absurd (cc is)

pub run_within : (runs : List Run) (i : ℕ) (d : Run) → i < length runs
    → list_all run_ends (map_list run_of runs) ≡ true → run_ends (run_of (slice_index_or runs i d)) ≡ true
run_within [] i d low all = absurd (omega arith)
run_within (r ∷ runs) zero d low all = (both_true (run_ends (run_of r)) _ all).0
run_within (r ∷ runs) (suc i) d low all =
    run_within runs i d (omega arith) (both_true (run_ends (run_of r)) _ all).1
