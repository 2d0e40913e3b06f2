-- Counts modulo the dwords of a ring, less than one turn apart, and the addresses that they have.
use Rattle.std.proofs.Common.{◌≡◌, ℕ, ◌+◌, ◌-◌, ◌*◌, ◌%◌, ◌<◌, ◌≤◌, ◌⊎◌, inl, inr, sym, ◌∙◌, arith, ap, subst}
use Rattle.std.proofs.Math.Nat.{mod-add-mod, mod-eq_of_lt, mod-eq-sub-mod, mod-lt, add-mod_right}
use Rattle.std.proofs.lemmas.Bool.{cases_lt}
use Rattle.svga_model.specs.Addresses.{address}

-- a remainder moves by d, and back by r where that would reach r
pub add-mod_turn : (r n d : ℕ) → d < r → ((n + d) % r ≡ n % r + d) ⊎ ((n + d) % r + r ≡ n % r + d)
add-mod_turn r n d near =
    let moved : (n % r + d) % r ≡ (n + d) % r = mod-add-mod n r d in
    elim (cases_lt (n % r + d) r) [
      | inl below ↦ inl (sym moved ∙ mod-eq_of_lt below)
      | inr past ↦
          let back : n % r + d - r < r = omega arith in
          let same : (n + d) % r ≡ n % r + d - r = sym moved ∙ (mod-eq-sub-mod past ∙ mod-eq_of_lt back) in
          inr (omega arith)
    ]

-- the same, from the count t to the count s
pub mod_turn : (r s t : ℕ) → t ≤ s → s < t + r → (s % r ≡ t % r + (s - t)) ⊎ (s % r + r ≡ t % r + (s - t))
mod_turn r s t behind room =
    let there : t + (s - t) ≡ s = omega arith in
    subst (λ (n : ℕ). (n % r ≡ t % r + (s - t)) ⊎ (n % r + r ≡ t % r + (s - t))) there (add-mod_turn r t (s - t) (omega arith))

-- words that do not reach the ring's end stand one behind another
pub address_within : (low r n count i : ℕ) → n % r + count ≤ r → i < count → address low r (n + i) ≡ address low r n + 4 * i
address_within low r n count i room within =
    let turn = add-mod_turn r n i (omega arith) in
    let below : (n + i) % r < r = mod-lt (n + i) {m = r} (omega arith) in
    omega (arith, turn)

-- behind words up to the ring's end the next ones stand from its start on
pub address_beyond : (low r n count i : ℕ) → n % r + count ≡ r → count + i < r → address low r (n + count + i) ≡ low + 4 * i
address_beyond low r n count i end near =
    let assoc : n + (count + i) ≡ n + count + i = omega arith in
    let turn = add-mod_turn r n (count + i) near in
    let here : (n + (count + i)) % r ≡ i = omega (arith, turn, mod-lt (n + (count + i)) {m = r} (omega arith)) in
    subst (λ (m : ℕ). low + 4 * (m % r) ≡ low + 4 * i) assoc (ap (λ (m : ℕ). low + 4 * m) here)

-- a full ring further the address is the same
pub address_turn : (low r n : ℕ) → address low r (n + r) ≡ address low r n
address_turn low r n = ap (λ (m : ℕ). low + 4 * m) (add-mod_right n r)
