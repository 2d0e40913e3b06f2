-- A page that no command past those that are done touches.
use Rattle.std.proofs.Common.{◌≡◌, ℕ, zero, suc, ◌≤◌, List, [], ◌∷◌, ◌++◌, length, false, true, is_none, refl, sym, ap, subst, ◌∙◌, arith}
use Rattle.std.specs.List.{slice_get}
use Rattle.svga_cmd.specs.Pages.{page_at}
use Rattle.svga_cmd.specs.declared.command.Command.{Command}
use Rattle.svga_cmd.specs.declared.page.PageKey.{PageKey}
use Rattle.svga_model.proofs.PutLaws.{put_admissible, with_page_agree}
use Rattle.svga_model.proofs.RunLaws.{run-first}
use Rattle.svga_model.proofs.TouchLaws.{other_pages}
use Rattle.svga_model.specs.Acts.{Act, Do, Put, Chain}
use Rattle.svga_model.specs.Faults.{is_admissible}
use Rattle.svga_model.specs.Runs.{done, run}
use Rattle.svga_model.specs.States.{State}
use Rattle.svga_model.specs.Steps.{step}
use Rattle.svga_model.specs.Touches.{Touches}
use Rattle.svga_ring.proofs.Acts.Runs.{first_of_all}
use Rattle.svga_ring.proofs.Acts.Settled.{AreChainsDone}
use Rattle.svga_ring.specs.Committed.{before, commands, puts_of, settled}
use Rattle.svga_ring.specs.SoundPages.{TouchesAt, reached}

-- a page of a run, by that of the run of the rest
from_rest : (t : State) (act : Act) (acts : List Act) (key : PageKey) → is_admissible t act ≡ true
    → page_at (run t (act ∷ acts)).memory key ≡ page_at (run (step t act) acts).memory key
from_rest t act acts key admits = ap (λ (r : State). page_at r.memory key) (run-first t act acts true admits)

-- what a command touches, by the run of the rest
touches_behind : (t : State) (act : Act) (acts : List Act) (c : Command) (key : PageKey)
    → is_admissible t act ≡ true
    → Touches (run (step t act) acts) (Do c) key → Touches (run t (act ∷ acts)) (Do c) key
touches_behind t act acts c key admits touched =
    subst (λ (r : State). Touches r (Do c) key) (sym (run-first t act acts true admits)) touched

-- and in its turn among the rest
touches_further : (t : State) (act : Act) (acts : List Act) (n m : ℕ) (key : PageKey)
    → is_admissible t act ≡ true
    → slice_get (commands (act ∷ acts)) m ≡ slice_get (commands acts) n
    → before m (act ∷ acts) ≡ act ∷ before n acts
    → TouchesAt (step t act) acts n key → TouchesAt t (act ∷ acts) m key
touches_further t act acts n m key admits at first touched = (
  touched.0,
  at ∙ touched.1,
  subst (λ l. Touches (run t l) (Do touched.0) key) (sym first)
      (touches_behind t act (before n acts) touched.0 key admits touched.2),
)

abbrev HasNoChain : List Act → Type 0
HasNoChain acts = (front rest : List Act) (id first : ℕ) → acts ≡ front ++ Chain id first ∷ rest → ⊥

no_chain_in_rest : (act : Act) (acts : List Act) → HasNoChain (act ∷ acts) → HasNoChain acts
no_chain_in_rest act acts none front rest id first e = none (act ∷ front) rest id first (ap (λ l. act ∷ l) e)

-- a page that no command touches is what the Puts alone make of it
by_puts : (t u : State) (acts : List Act) (key : PageKey) → done t acts ≡ length acts → HasNoChain acts
    → ((m : ℕ) → TouchesAt t acts m key → ⊥) → page_at t.memory key ≡ page_at u.memory key
    → page_at (run t acts).memory key ≡ page_at (run u (puts_of acts)).memory key
by_puts t u [] key all none untouched same = same
by_puts t u (Do c ∷ acts) key all none untouched same =
    let one = first_of_all t (Do c) acts all in
    let here = other_pages t (Do c) key (λ put. put) (λ touched. untouched zero (c, refl, touched)) in
    from_rest t (Do c) acts key one.admits
    ∙ by_puts (step t (Do c)) u acts key one.rest (no_chain_in_rest (Do c) acts none)
    (λ m touched. untouched (suc m) (touches_further t (Do c) acts m (suc m) key one.admits refl refl
    touched))
    (here ∙ same)
by_puts t u (Put other bytes ∷ acts) key all none untouched same =
    let put : Act = Put other bytes in
    let one = first_of_all t put acts all in
    from_rest t put acts key one.admits
    ∙ by_puts (step t put) (step u put) acts key one.rest (no_chain_in_rest put acts none)
    (λ m touched. untouched m (touches_further t put acts m m key one.admits refl refl touched))
    (with_page_agree t.memory u.memory other key bytes bytes refl same)
    ∙ sym (from_rest u put (puts_of acts) key (ap is_none (put_admissible u other bytes)))
by_puts t u (Chain id first ∷ acts) key all none untouched same = absurd (none [] acts id first refl)

-- no chain stands behind the first command, where none is done
no_chain_left : (c : Command) (acts : List Act) → AreChainsDone zero (Do c ∷ acts) → HasNoChain acts
no_chain_left c acts chains front rest id first e =
    let low = chains (Do c ∷ front) rest id first (ap (λ l. Do c ∷ l) e) in absurd (omega (arith, low))

chains_behind : (n : ℕ) (c : Command) (acts : List Act) → AreChainsDone (suc n) (Do c ∷ acts)
    → AreChainsDone n acts
chains_behind n c acts chains front rest id first e =
    let low = chains (Do c ∷ front) rest id first (ap (λ l. Do c ∷ l) e) in omega (arith, low)

-- it is what is settled leaves, though the others have still to run
pub taken_page : (s : State) (acts : List Act) (n : ℕ) (key : PageKey) → done s acts ≡ length acts
    → AreChainsDone n acts
    → ((m : ℕ) → n ≤ m → TouchesAt s acts m key → ⊥)
    → page_at (run s acts).memory key ≡ page_at (reached s n false acts).memory key
taken_page s [] n key all chains untouched = refl
taken_page s (Do c ∷ acts) zero key all chains untouched =
    let one = first_of_all s (Do c) acts all in
    let here = other_pages s (Do c) key (λ put. put)
    (λ touched. untouched zero (omega arith) (c, refl, touched)) in
    from_rest s (Do c) acts key one.admits
    ∙ by_puts (step s (Do c)) s acts key one.rest (no_chain_left c acts chains)
    (λ m touched. untouched (suc m) (omega arith)
    (touches_further s (Do c) acts m (suc m) key one.admits refl refl touched)) here
taken_page s (Do c ∷ acts) (suc n) key all chains untouched =
    let one = first_of_all s (Do c) acts all in
    from_rest s (Do c) acts key one.admits
    ∙ taken_page (step s (Do c)) acts n key one.rest (chains_behind n c acts chains)
    (λ m low touched. untouched (suc m) (omega (arith, low))
    (touches_further s (Do c) acts m (suc m) key one.admits refl refl touched))
    ∙ sym (from_rest s (Do c) (settled n false acts) key one.admits)
taken_page s (act ∷ acts) n key all chains untouched =
    let one = first_of_all s act acts all in
    from_rest s act acts key one.admits
    ∙ taken_page (step s act) acts n key one.rest
    (λ front rest id first e. chains (act ∷ front) rest id first (ap (λ l. act ∷ l) e))
    (λ m low touched. untouched m low (touches_further s act acts m m key one.admits refl refl touched))
    ∙ sym (from_rest s act (settled n false acts) key one.admits)
