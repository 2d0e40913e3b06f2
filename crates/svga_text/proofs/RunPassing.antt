-- The texts of runs, one after another.
use Rattle.std.proofs.Common.{◌≡◌, ◌+◌, ℕ, List, [], ◌∷◌, ◌++◌, refl, sym, ap, subst, ◌∙◌, append_assoc, append-nil}
use Rattle.std.specs.Prelude.{Option}
use Rattle.svga_io.specs.Growing.{GrowsByPrefix}
use Rattle.svga_text.proofs.PassingLaws.{fault-first, fault-then, Passes-nil, Passes-then}
use Rattle.svga_text.specs.Passing.{Passes}
use Rattle.svga_text.specs.Runs.{Run, runs_text}

-- The runs before this place were taken on, and these are left.
pub record RunsPass {K A : Type 0} (held : K → Option (List ℕ)) (faults : K
    → ℕ) (before now : K) (pending left : List ℕ) (text : ℕ → Run A
    → List ℕ) (runs : List (Run A)) (first : ℕ) (rest : List (Run A)) : Type 0 where
  pub front : List ℕ
  pub passes : Passes held faults before now pending left front
  pub whole : runs_text text 0 runs ≡ front ++ runs_text text first rest

module _ {K A : Type 0} {held : K → Option (List ℕ)} {faults : K → ℕ} where
  pub RunsPass-none : (sink : K) (pending : List ℕ) (text : ℕ → Run A → List ℕ) (runs : List (Run A))
      → RunsPass held faults sink sink pending pending text runs 0 runs
  RunsPass-none sink pending text runs = record { front = []; passes = Passes-nil sink pending; whole = refl }

  -- one run more was taken on
  pub RunsPass-next : {before between now : K} {pending second third : List ℕ} {text : ℕ → Run A
      → List ℕ} {runs rest others : List (Run A)} {first : ℕ} (r : Run A) → rest ≡ r ∷ others
      → RunsPass held faults before between pending second text runs first rest
      → Passes held faults between now second third (text first r)
      → RunsPass held faults before now pending third text runs (first + r.0) others
  RunsPass-next {text = text} {others = others} {first = first} r next so_far passes = record {
    front = so_far.front ++ text first r;
    passes = Passes-then so_far.passes passes;
    whole = so_far.whole ∙ ap (λ t. so_far.front ++ runs_text text first t) next
        ∙ sym (append_assoc so_far.front (text first r) (runs_text text (first + r.0) others));
  }

  -- a run failed, so that only a prefix of all of them arrived
  pub RunsPass-fault : {before between now : K} {pending second : List ℕ} {text : ℕ → Run A
      → List ℕ} {runs rest others : List (Run A)} {first : ℕ} (r : Run A) → rest ≡ r ∷ others
      → RunsPass held faults before between pending second text runs first rest
      → GrowsByPrefix held faults between now (second ++ text first r)
      → GrowsByPrefix held faults before now (pending ++ runs_text text 0 runs)
  RunsPass-fault {before = before} {now = now} {pending = pending} {text = text} {others = others} {first = first} r
      next so_far fault = subst (λ t. GrowsByPrefix held faults before now (pending ++ t))
      (append_assoc so_far.front (text first r) (runs_text text (first + r.0) others)
      ∙ ap (λ t. so_far.front ++ runs_text text first t) (sym next) ∙ sym so_far.whole)
      (fault-first pending (so_far.front ++ text first r) (runs_text text (first + r.0) others)
      (fault-then (text first r) so_far.passes fault))

  -- no run is left
  pub RunsPass-all : {before now : K} {pending left : List ℕ} {text : ℕ → Run A
      → List ℕ} {runs rest : List (Run A)} {first : ℕ} → rest ≡ []
      → RunsPass held faults before now pending left text runs first rest
      → Passes held faults before now pending left (runs_text text 0 runs)
  RunsPass-all {before = before} {now = now} {pending = pending} {left = left} {text = text} {first = first} none
      so_far = subst (Passes held faults before now pending left)
      (sym (so_far.whole ∙ ap (λ t. so_far.front ++ runs_text text first t) none
      ∙ append-nil so_far.front)) so_far.passes
