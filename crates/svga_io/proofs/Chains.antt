-- Calls on one sink in a row: what they did together.
use Rattle.std.proofs.Common.{Result, Ok, Err, OnErr, ◌≡◌, ℕ, ◌+◌, ◌≤◌, List, [], ◌++◌, length, take, sym, subst, arith, length-append}
use Rattle.std.proofs.Math.Seq.{take-append-add}
use Rattle.std.proofs.lemmas.List.{take-append-le}
use Rattle.std.proofs.KnownBytes.{Appends-nil, Appends-trans}
use Rattle.std.specs.Prelude.{Option}
use Rattle.std.specs.Io.KnownBytes.{Appends}
use Rattle.svga_io.specs.Rising.{Rises}
use Rattle.svga_io.specs.Growing.{AppendsPrefix, Grows, GrowsByPrefix}

-- a count that rose goes on as one that rose
pub Rises-first : (before between now : ℕ) → Rises before between → between ≤ now → Rises before now
Rises-first before between now rose steady = omega arith

-- what a count that didn't fall did before doesn't hide that it rose
pub Rises-then : (before between now : ℕ) → before ≤ between → Rises between now → Rises before now
Rises-then before between now steady rose = omega arith

-- a prefix of the first bytes is a prefix of both
pub AppendsPrefix-first : (before now : Option (List ℕ)) (xs ys : List ℕ) → AppendsPrefix before now xs → AppendsPrefix before now (xs ++ ys)
AppendsPrefix-first before now xs ys (n, within, appended) = (
  n,
  omega (arith, length-append xs ys),
  subst (Appends before now) (sym (take-append-le n xs ys within)) appended,
)

-- all of the first bytes and then a prefix of the second are a prefix of both
pub AppendsPrefix-then : (before between now : Option (List ℕ)) (xs ys : List ℕ) → Appends before between xs → AppendsPrefix between now ys → AppendsPrefix before now (xs ++ ys)
AppendsPrefix-then before between now xs ys whole (n, within, appended) = (
  length xs + n,
  omega (arith, length-append xs ys),
  subst (Appends before now) (sym (take-append-add xs ys n)) (Appends-trans before between now xs (take n ys) whole appended),
)

module _ {K : Type 0} {held : K → Option (List ℕ)} {faults : K → ℕ} where
  -- no call yet
  pub Grows-nil : (sink : K) → Grows held faults sink sink []
  Grows-nil sink = record { appended = Appends-nil (held sink); steady = omega arith }

  -- two writes that ended well
  pub Grows-then : {before between now : K} {xs ys : List ℕ} → Grows held faults before between xs → Grows held faults between now ys → Grows held faults before now (xs ++ ys)
  Grows-then {before} {between} {now} {xs} {ys} first second = record {
    appended = Appends-trans (held before) (held between) (held now) xs ys first.appended second.appended;
    steady = omega (arith, first.steady, second.steady);
  }

  -- a write that gave up, with more bytes still to come
  pub GrowsByPrefix-first : {before now : K} {xs : List ℕ} (ys : List ℕ) → GrowsByPrefix held faults before now xs → GrowsByPrefix held faults before now (xs ++ ys)
  GrowsByPrefix-first {before} {now} {xs} ys first = record {
    appended = AppendsPrefix-first (held before) (held now) xs ys first.appended;
    cause = first.cause;
  }

  -- a write that ended well, and then one that gave up
  pub GrowsByPrefix-then : {before between now : K} {xs ys : List ℕ} → Grows held faults before between xs → GrowsByPrefix held faults between now ys → GrowsByPrefix held faults before now (xs ++ ys)
  GrowsByPrefix-then {before} {between} {now} {xs} {ys} first second = record {
    appended = AppendsPrefix-then (held before) (held between) (held now) xs ys first.appended second.appended;
    cause = Rises-then (faults before) (faults between) (faults now) first.steady second.cause;
  }

  -- the answer of a call that hands a fault on
  pub on_fault : {T E : Type 0} {before now : K} {xs : List ℕ} (result : Result T E) → GrowsByPrefix held faults before now xs → OnErr result (GrowsByPrefix held faults before now xs)
  on_fault (Ok t) fault = tt
  on_fault (Err e) fault = fault

  -- a write that ended well, and then one whose answer is handed on as it is
  pub on_fault_then : {T E : Type 0} {before between : K} {xs : List ℕ} (result : Result T E) → Grows held faults before between xs → (now : K) (ys : List ℕ) → OnErr result (GrowsByPrefix held faults between now ys)
      → OnErr result (GrowsByPrefix held faults before now (xs ++ ys))
  on_fault_then (Ok t) first now ys last = tt
  on_fault_then (Err e) first now ys last = GrowsByPrefix-then first last

  -- one that gave up in the middle of what was to be written: xs was written, and zs was still to come
  pub GrowsByPrefix-within : {before between now : K} {all xs ys : List ℕ} (zs : List ℕ) → all ≡ xs ++ ys ++ zs → Grows held faults before between xs → GrowsByPrefix held faults between now ys
      → GrowsByPrefix held faults before now all
  GrowsByPrefix-within {before} {between} {now} zs whole first second =
      subst (GrowsByPrefix held faults before now) (sym whole) (GrowsByPrefix-first zs (GrowsByPrefix-then first second))

-- for `search` and `grind`: calls on one sink in a row
pub ruleset chains = (Grows-nil, Grows-then, GrowsByPrefix-first, GrowsByPrefix-then, on_fault, on_fault_then, Rises-first, Rises-then)
