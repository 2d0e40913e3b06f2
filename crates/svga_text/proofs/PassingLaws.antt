-- Texts that go on their way one after another.
use Rattle.std.proofs.Common.{◌≡◌, ◌<◌, ◌+◌, ℕ, List, [], ◌∷◌, ◌++◌, length, take, drop, slice_index_or, map, Ok, Err, IsErr, arith, refl, sym, ap, subst, ◌∙◌, append_assoc, append-nil}
use Rattle.std.proofs.lemmas.Grind.{flat_map-append}
use Rattle.std.proofs.lemmas.List.{get_or-map, length-map, take_more, take-append-drop}
use Rattle.std.specs.Prelude.{Option, Result, MatchResult, OnOk, OnErr}
use Rattle.svga_io.proofs.Chains.{Grows-nil, Grows-then, GrowsByPrefix-first, GrowsByPrefix-then}
use Rattle.svga_io.specs.Growing.{Grows, GrowsByPrefix}
use Rattle.svga_io.specs.declared.fault.WriteFault.{WriteFault}
use Rattle.svga_text.specs.Lines.{line, spaced}
use Rattle.svga_text.specs.Passing.{Passes, PassesOn, Writes}

-- what is so in both cases, and what is so where a call failed
pub by_result : {T E : Type 0} (P Q : Type 0) (r : Result T E) → OnOk r P → OnErr r Q → MatchResult r (λ _. P) (λ _. Q)
by_result P Q (Ok x) ok fault = ok
by_result P Q (Err e) ok fault = fault

pub at_err : {T E Q : Type 0} (P : T → Type 0) (r : Result T E) → IsErr r → Q → MatchResult r P (λ _. Q)
at_err P (Ok x) failed fault = absurd (cc failed)
at_err P (Err e) failed fault = fault

pub on_err : {T E : Type 0} (P : Type 0) (r : Result T E) → P → OnErr r P
on_err P (Ok x) fault = tt
on_err P (Err e) fault = fault

-- one word more, of words that f gives
pub spaced-take : {X : Type 0} (f : X → List ℕ) (xs : List X) (i : ℕ) (d : X) → i < length xs → spaced (take (i + 1) (map f xs)) ≡ spaced (take i (map f xs)) ++ 32 ∷ f (slice_index_or xs i d)
spaced-take f xs i d less = ap spaced (take_more (map f xs) i (f d) (omega (arith, length-map xs f))) ∙ flat_map-append (λ word. 32 ∷ word) (take i (map f xs)) (slice_index_or (map f xs) i (f d) ∷ [])
    ∙ ap (λ t. spaced (take i (map f xs)) ++ t) (append-nil (32 ∷ slice_index_or (map f xs) i (f d)) ∙ ap (λ word. 32 ∷ word) (get_or-map f xs i d (f d) less))

-- some words and then others
pub spaced-append : (words others : List (List ℕ)) → spaced (words ++ others) ≡ spaced words ++ spaced others
spaced-append words others = flat_map-append (λ word. 32 ∷ word) words others

-- a line in two parts
pub line-append : (begin : List ℕ) (words others : List (List ℕ)) → ((begin ++ spaced words) ++ spaced others) ++ 10 ∷ [] ≡ line begin (words ++ others)
line-append begin words others = ap (λ t. t ++ 10 ∷ []) (append_assoc begin (spaced words) (spaced others) ∙ ap (λ t. begin ++ t) (sym (spaced-append words others)))

-- the first words and then the others
pub spaced-split : (words : List (List ℕ)) (i : ℕ) → spaced words ≡ spaced (take i words) ++ spaced (drop i words)
spaced-split words i = ap spaced (sym (take-append-drop i words)) ∙ flat_map-append (λ word. 32 ∷ word) (take i words) (drop i words)

module _ {K : Type 0} {held : K → Option (List ℕ)} {faults : K → ℕ} where
  -- the same, said of what is the same
  pub Passes-same : {before now : K} {pending others left xs ys : List ℕ} → pending ≡ others → xs ≡ ys → Passes held faults before now pending left xs → Passes held faults before now others left ys
  Passes-same {before} {now} {pending} {others} {left} {xs} {ys} pendings texts passes =
      subst (λ t. Passes held faults before now t left ys) pendings (subst (λ t. Passes held faults before now pending left t) texts passes)

  pub fault-same : {before now : K} {texts others : List ℕ} → texts ≡ others → GrowsByPrefix held faults before now texts → GrowsByPrefix held faults before now others
  fault-same {before} {now} is = subst (GrowsByPrefix held faults before now) is

  -- nothing was written yet
  pub Passes-nil : (sink : K) (pending : List ℕ) → Passes held faults sink sink pending pending []
  Passes-nil sink pending = record { sent = []; arrived = Grows-nil sink; rest = append-nil pending }

  -- the bytes were kept
  pub Passes-kept : (sink : K) (pending bytes : List ℕ) → Passes held faults sink sink pending (pending ++ bytes) bytes
  Passes-kept sink pending bytes = record { sent = []; arrived = Grows-nil sink; rest = refl }

  -- what was pending arrived, and the bytes were kept
  pub Passes-sent : {before now : K} {pending : List ℕ} (bytes : List ℕ) → Grows held faults before now pending → Passes held faults before now pending bytes bytes
  Passes-sent {before} {now} {pending} bytes arrived = record { sent = pending; arrived = arrived; rest = refl }

  -- two texts in a row
  pub Passes-then : {before between now : K} {first second third xs ys : List ℕ} → Passes held faults before between first second xs → Passes held faults between now second third ys → Passes held faults before now first third (xs ++ ys)
  Passes-then {before} {between} {now} {first} {second} {third} {xs} {ys} one two = record {
    sent = one.sent ++ two.sent;
    arrived = Grows-then one.arrived two.arrived;
    rest = sym (append_assoc first xs ys) ∙ ap (λ t. t ++ ys) one.rest ∙ append_assoc one.sent second ys ∙ ap (λ t. one.sent ++ t) two.rest ∙ sym (append_assoc one.sent two.sent third);
  }

  -- the first text failed
  pub fault-first : {before now : K} (first xs ys : List ℕ) → GrowsByPrefix held faults before now (first ++ xs) → GrowsByPrefix held faults before now (first ++ (xs ++ ys))
  fault-first {before} {now} first xs ys fault = subst (GrowsByPrefix held faults before now) (append_assoc first xs ys) (GrowsByPrefix-first ys fault)

  -- the first text was taken on, and the second failed
  pub fault-then : {before between now : K} {first second xs : List ℕ} (ys : List ℕ) → Passes held faults before between first second xs → GrowsByPrefix held faults between now (second ++ ys) → GrowsByPrefix held faults before now (first ++ (xs ++ ys))
  fault-then {before} {between} {now} {first} {second} {xs} ys one fault = subst (GrowsByPrefix held faults before now)
      (sym (append_assoc one.sent second ys) ∙ ap (λ t. t ++ ys) (sym one.rest) ∙ append_assoc first xs ys)
      (GrowsByPrefix-then one.arrived fault)

  -- all that was pending arrived in the end
  pub Passes-arrived : {before between now : K} {first second xs : List ℕ} → Passes held faults before between first second xs → Grows held faults between now second → Grows held faults before now (first ++ xs)
  Passes-arrived {before} {between} {now} {first} {second} {xs} one last = subst (Grows held faults before now) (sym one.rest) (Grows-then one.arrived last)

  -- or not all of it
  pub Passes-stopped : {before between now : K} {first second xs : List ℕ} → Passes held faults before between first second xs → GrowsByPrefix held faults between now second → GrowsByPrefix held faults before now (first ++ xs)
  Passes-stopped {before} {between} {now} {first} {second} {xs} one last = subst (GrowsByPrefix held faults before now) (sym one.rest) (GrowsByPrefix-then one.arrived last)

  -- a text behind one that was taken on
  pub PassesOn-then : {before between : K} {first second xs : List ℕ} (now : K) (third ys : List ℕ) (r : Result (Unit {0}) WriteFault) → Passes held faults before between first second xs → PassesOn held faults between now second third ys r → PassesOn held faults before now first third (xs ++ ys) r
  PassesOn-then now third ys (Ok x) one two = Passes-then one two
  PassesOn-then now third ys (Err e) one two = fault-then ys one two

  -- what was pending arrived, and the bytes were put behind it
  pub PassesOn-put : {before between : K} {pending left : List ℕ} (now : K) (bytes : List ℕ) (r : Result (Unit {0}) WriteFault) → Grows held faults before between pending → left ≡ [] → Writes held faults between now bytes r → PassesOn held faults before now pending left bytes r
  PassesOn-put {before} {between} {pending} {left} now bytes (Ok x) arrived none put = record {
    sent = pending ++ bytes;
    arrived = Grows-then arrived put;
    rest = sym (append-nil (pending ++ bytes)) ∙ ap (λ t. (pending ++ bytes) ++ t) (sym none);
  }
  PassesOn-put now bytes (Err e) arrived none put = GrowsByPrefix-then arrived put

  -- what was taken on arrived in the end, or only a prefix of it
  pub Writes-last : {before between : K} {first second xs : List ℕ} (now : K) (r : Result (Unit {0}) WriteFault) → Passes held faults before between first second xs → Writes held faults between now second r → Writes held faults before now (first ++ xs) r
  Writes-last now (Ok x) one last = Passes-arrived one last
  Writes-last now (Err e) one last = Passes-stopped one last

  -- and more bytes arrived with it
  pub Writes-end : {before between : K} {first second xs : List ℕ} (now : K) (ys : List ℕ) (r : Result (Unit {0}) WriteFault) → Passes held faults before between first second xs → Writes held faults between now (second ++ ys) r → Writes held faults before now (first ++ (xs ++ ys)) r
  Writes-end {before} {between} {first} {second} {xs} now ys (Ok x) one last = subst (Grows held faults before now)
      (sym (append_assoc one.sent second ys) ∙ ap (λ t. t ++ ys) (sym one.rest) ∙ append_assoc first xs ys) (Grows-then one.arrived last)
  Writes-end now ys (Err e) one last = fault-then ys one last

module _ {K : Type 0} (held : K → Option (List ℕ)) (faults : K → ℕ) where
  -- the same, said of the same text
  pub PassesOn-same : {xs ys : List ℕ} (before now : K) (pending left : List ℕ) (r : Result (Unit {0}) WriteFault) → xs ≡ ys → PassesOn held faults before now pending left xs r → PassesOn held faults before now pending left ys r
  PassesOn-same before now pending left r is = subst (λ t. PassesOn held faults before now pending left t r) is

  -- the two cases of a text written, as contracts tell them
  pub Writes-ok : {texts others : List ℕ} (before now : K) (r : Result (Unit {0}) WriteFault) → texts ≡ others → Writes held faults before now texts r → OnOk r (Grows held faults before now others)
  Writes-ok before now (Ok x) is writes = subst (Grows held faults before now) is writes
  Writes-ok before now (Err e) is writes = tt

  pub Writes-fault : {texts others : List ℕ} (before now : K) (r : Result (Unit {0}) WriteFault) → texts ≡ others → Writes held faults before now texts r → OnErr r (GrowsByPrefix held faults before now others)
  Writes-fault before now (Ok x) is writes = tt
  Writes-fault before now (Err e) is writes = subst (GrowsByPrefix held faults before now) is writes

  pub Writes-same : {texts others : List ℕ} (before now : K) (r : Result (Unit {0}) WriteFault) → texts ≡ others → Writes held faults before now texts r → Writes held faults before now others r
  Writes-same before now r is = subst (λ t. Writes held faults before now t r) is

  -- a text arrived, and another was written behind it
  pub Writes-behind : {before between : K} {xs : List ℕ} (now : K) (ys : List ℕ) (r : Result (Unit {0}) WriteFault) → Grows held faults before between xs → Writes held faults between now ys r → Writes held faults before now (xs ++ ys) r
  Writes-behind now ys (Ok x) one two = Grows-then one two
  Writes-behind now ys (Err e) one two = GrowsByPrefix-then one two

-- words that f gives, one after another
module _ {K X : Type 0} {held : K → Option (List ℕ)} {faults : K → ℕ} (f : X → List ℕ) (xs : List X) (i : ℕ) (d : X) (less : i < length xs) where
  -- one word more was taken on
  pub Passes-next : {before between now : K} {first second third : List ℕ} → Passes held faults before between first second (spaced (take i (map f xs))) → Passes held faults between now second third (32 ∷ f (slice_index_or xs i d)) → Passes held faults before now first third (spaced (take (i + 1) (map f xs)))
  Passes-next {before} {between} {now} {first} {second} {third} so_far next = subst (Passes held faults before now first third) (sym (spaced-take f xs i d less)) (Passes-then so_far next)

  -- a word failed, so that only a prefix of all of them arrived
  pub fault-next : {before between : K} {first second : List ℕ} (now : K) → Passes held faults before between first second (spaced (take i (map f xs))) → GrowsByPrefix held faults between now (second ++ 32 ∷ f (slice_index_or xs i d)) → GrowsByPrefix held faults before now (first ++ spaced (map f xs))
  fault-next {before} {between} {first} {second} now so_far fault = at (sym (spaced-split (map f xs) (i + 1)))
      (fault-first first (spaced (take (i + 1) (map f xs))) (spaced (drop (i + 1) (map f xs))) (at (sym (spaced-take f xs i d less)) (fault-then (32 ∷ f (slice_index_or xs i d)) so_far fault)))
    where
      at : {xs ys : List ℕ} → xs ≡ ys → GrowsByPrefix held faults before now (first ++ xs) → GrowsByPrefix held faults before now (first ++ ys)
      at is = subst (λ t. GrowsByPrefix held faults before now (first ++ t)) is
