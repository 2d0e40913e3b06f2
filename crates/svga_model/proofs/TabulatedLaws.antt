-- What a map from numbers below a bound has at a number.
use Rattle.std.proofs.Common.{◌≡◌, ◌≢◌, ℕ, zero, suc, ◌<◌, ◌≤◌, refl, sym, subst, ◌∙◌, Option, Some, None, arith}
use Rattle.std.specs.Cmp.{nat_cmp_total}
use Rattle.std.specs.FinMap as map
use Rattle.std.specs.FinMap.{FinMap, nat_cmp-IsAntisymmetric, get-empty}
use Rattle.std.specs.Ordering.{nat_cmp}
use Rattle.svga_cmd.proofs.Maps.{get_same, get_other, by_key}
use Rattle.svga_model.specs.Tabulated.{tabulated, with_optional}

-- the optional value at its number
slot_same : {X : Type 0} (m : FinMap nat_cmp X) (n : ℕ) (o : Option X) → map.get m n ≡ None → map.get (with_optional m n o) n ≡ o
slot_same m n None none = none
slot_same m n (Some x) none = get_same nat_cmp_total nat_cmp-IsAntisymmetric m n x

-- the optional value at another number
slot_other : {X : Type 0} (m : FinMap nat_cmp X) (n q : ℕ) (o : Option X) → q ≢ n → map.get (with_optional m n o) q ≡ map.get m q
slot_other m n q None ne = refl
slot_other m n q (Some x) ne = get_other nat_cmp_total nat_cmp-IsAntisymmetric m n q x ne

-- nothing stands past the bound
past : {X : Type 0} (n : ℕ) (f : ℕ → Option X) (q : ℕ) → n ≤ q → map.get (tabulated n f) q ≡ None
unfolding tabulated
past zero f q l = get-empty nat_cmp q
past (suc n) f q l = slot_other (tabulated n f) n q (f n) (λ e. absurd (omega arith)) ∙ past n f q (omega arith)

-- what the map has below its bound
pub get-tabulated : {X : Type 0} (n : ℕ) (f : ℕ → Option X) (q : ℕ) → q < n → map.get (tabulated n f) q ≡ f q
unfolding tabulated
get-tabulated zero f q l = absurd (omega arith)
get-tabulated (suc n) f q l = by_key nat_cmp_total nat_cmp-IsAntisymmetric q n (map.get (with_optional (tabulated n f) n (f n)) q ≡ f q)
    (λ is. subst (λ k. map.get (with_optional (tabulated n f) n (f n)) k ≡ f k) (sym is) (slot_same (tabulated n f) n (f n) (past n f n (omega arith))))
    (λ ne. slot_other (tabulated n f) n q (f n) ne ∙ get-tabulated n f q (omega arith))

-- what it has from the bound on
pub get-tabulated_past : {X : Type 0} (n : ℕ) (f : ℕ → Option X) (q : ℕ) → n ≤ q → map.get (tabulated n f) q ≡ None
get-tabulated_past = past
