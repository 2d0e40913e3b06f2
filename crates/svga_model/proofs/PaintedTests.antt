-- What tests tell that are joined by &&, and a value that stands under a test.
use Rattle.std.proofs.Common.{◌≡◌, refl, Some, None, Bool, true, false, ◌&&◌, cond}

-- a value under a test is there where the test holds
pub chosen : {X : Type 0} (t : Bool) (a b : X) → cond t (Some a) None ≡ Some b → (t ≡ true) × (a ≡ b)
chosen true a b e = (refl, cc)
chosen false a b e = absurd (cc)

-- each of two tests
pub both : (a b : Bool) → (a && b) ≡ true → (a ≡ true) × (b ≡ true)
both true true h = (refl, refl)
both true false h = absurd (cc)
both false b h = absurd (cc)

-- each of four tests
pub all_four : (a b c d : Bool) → (a && b && c && d) ≡ true → (a ≡ true) × (b ≡ true) × (c ≡ true) × (d ≡ true)
all_four a b c d h =
    let front = both (a && b && c) d h in
    let middle = both (a && b) c front.0 in
    let first = both a b middle.0 in
    (first.0, first.1, middle.1, front.1)
