-- Runs of acts: where all are run, the first ones are, and what is settled is; and what a run leaves.
use Rattle.std.proofs.Common.{◌≡◌, inl, inr, ℕ, ◌≤◌, List, [], ◌∷◌, ◌++◌, length, All, Bool, true, false, refl, sym, ap, subst, ◌∙◌, arith, length-append}
use Rattle.std.proofs.lemmas.Bool.{cases_lt}
use Rattle.std.proofs.lemmas.Option.{slice_get-get_or}
use Rattle.svga_cmd.specs.Pages.{HasPage, IsKey}
use Rattle.svga_cmd.specs.declared.command.Command.TheVariants.{Fence}
use Rattle.svga_cmd.specs.declared.limits.Limits.{Limits}
use Rattle.svga_cmd.specs.declared.page.PageKey.{PageKey}
use Rattle.svga_model.proofs.RunLaws.{done-first, done_most, run-first, run_ended, run_whole}
use Rattle.svga_model.proofs.ValidMemory.{opening_has}
use Rattle.svga_model.proofs.ValidStateLaws.{step_keys}
use Rattle.svga_model.specs.Acts.{Act, Chain}
use Rattle.svga_model.specs.Faults.{is_admissible}
use Rattle.svga_model.specs.Runs.{done, run}
use Rattle.svga_model.specs.States.{State, opening_state}
use Rattle.svga_model.specs.Steps.{step}
use Rattle.svga_model.specs.Touches.{IsPut}
use Rattle.svga_ring.proofs.Acts.PutsBehind.{puts_done}
use Rattle.svga_ring.proofs.Acts.Settled.{AreChainsDone, act_at, no_chain_behind, puts_are, settled_all, settled_at, settled_chain}
use Rattle.svga_ring.specs.Committed.{before, behind, commands, puts_of, settled}
use Rattle.svga_ring.specs.Requests.{Request}
use Rattle.svga_ring.specs.SoundPages.{IsLastChain}

-- the first of acts that are all run is admissible, and the others are run behind it
pub record IsFirstOf (t : State) (act : Act) (acts : List Act) : Type 0 where
  pub admits : is_admissible t act ≡ true
  pub rest : done (step t act) acts ≡ length acts

pub first_of_all : (t : State) (act : Act) (acts : List Act) → done t (act ∷ acts) ≡ length (act ∷ acts)
    → IsFirstOf t act acts
first_of_all t act acts all = go (is_admissible t act) refl where
  go : (b : Bool) → is_admissible t act ≡ b → IsFirstOf t act acts
  go true e = let first = done-first t act acts true e in
      record { admits = e; rest = omega (arith, first, all) }
  go false e = let first = done-first t act acts false e in absurd (omega (arith, first, all))

-- the first acts of those that are all run are all run
pub front_done : (s : State) (xs ys : List Act) → done s (xs ++ ys) ≡ length (xs ++ ys)
    → done s xs ≡ length xs
front_done s xs ys all = elim (cases_lt (done s xs) (length xs)) as (λ _. done s xs ≡ length xs) [
  | inl less ↦ absurd (let ended = (run_ended s xs ys less).1 in
      omega (arith, ended, all, less, length-append xs ys))
  | inr past ↦ omega (arith, past, done_most s xs)
]

-- and so are Puts behind them
puts_more : (s : State) (xs ps : List Act) → All IsPut ps → done s xs ≡ length xs
    → done s (xs ++ ps) ≡ length (xs ++ ps)
puts_more s xs ps puts all =
    let whole = (run_whole s xs ps all).1 in
    omega (arith, whole, all, puts_done (run s xs) ps puts, length-append xs ps)

-- the acts before one that is left out, and Puts of those behind
without_one : (s : State) (acts front rest settled_acts : List Act) (x : Act) → done s acts ≡ length acts
    → acts ≡ front ++ x ∷ rest → settled_acts ≡ front ++ puts_of rest
    → done s settled_acts ≡ length settled_acts
without_one s acts front rest settled_acts x all acts_are are =
    subst (λ l. done s l ≡ length l) (sym are)
    (puts_more s front (puts_of rest) (puts_are rest)
    (front_done s front (x ∷ rest) (subst (λ l. done s l ≡ length l) acts_are all)))

-- what is settled is admissible in its turn, as all acts are
pub settled_done : (s : State) (acts : List Act) (n : ℕ) (r : Request) (out : Bool)
    → done s acts ≡ length acts
    → AreChainsDone n acts
    → (out ≡ true → IsLastChain r acts) → done s (settled n out acts) ≡ length (settled n out acts)
settled_done s acts n r true all chains last =
    let chain = last refl in
    let low : length (commands chain.front) ≤ n = chains chain.front chain.rest r.id r.descriptor
    chain.acts_are in
    without_one s acts chain.front chain.rest (settled n true acts) (Chain r.id r.descriptor) all
    chain.acts_are
    (ap (λ l. settled n true l) chain.acts_are
    ∙ settled_chain chain.front chain.rest r.id r.descriptor n chain.puts_behind low)
settled_done s acts n r false all chains last =
    elim (cases_lt n (length (commands acts))) as
    (λ _. done s (settled n false acts) ≡ length (settled n false acts)) [
      | inl low ↦
          let at = slice_get-get_or (commands acts) n (Fence 0) low in
          without_one s acts (before n acts) (behind n acts) (settled n false acts) _ all (act_at acts n _ at)
          (settled_at acts n _ at (no_chain_behind acts n n _ chains (omega arith) at))
      | inr past ↦ subst (λ l. done s l ≡ length l) (sym (settled_all acts n past)) all
    ]

-- What each act leaves so a run does.
pub run_keeps : (P : State → Type 0) → ((t : State) (act : Act) → P t → P (step t act))
    → (s : State) (acts : List Act)
    → P s → P (run s acts)
run_keeps P keeps s [] is = is
run_keeps P keeps s (act ∷ acts) is =
    go (is_admissible s act) refl (run_keeps P keeps (step s act) acts (keeps s act is))
  where
    go : (b : Bool) → is_admissible s act ≡ b → P (run (step s act) acts) → P (run s (act ∷ acts))
    go true e rest = subst P (sym (run-first s act acts true e)) rest
    go false e rest = subst P (sym (run-first s act acts false e)) is

-- All pages of the device are there at all times.
pub page_there : (l : Limits) (first : ℕ) (acts : List Act) (key : PageKey) → IsKey l key
    → HasPage (run (opening_state l first) acts).memory key
page_there l first acts key is =
    run_keeps (λ (t : State). HasPage t.memory key) (λ t act has. (step_keys t act key).0 has)
    (opening_state l first)
    acts (opening_has l key is)
