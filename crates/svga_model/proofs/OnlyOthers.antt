-- A page that a run doesn't meet changes by its Puts alone.
use Rattle.std.proofs.Common.{◌≡◌, refl, sym, ap, ◌∙◌, List, [], ◌∷◌, take, Bool, true, false}
use Rattle.svga_cmd.specs.declared.page.PageKey.{PageKey}
use Rattle.svga_cmd.specs.Pages.{Memory, page_at}
use Rattle.svga_model.specs.Acts.{Act, Do, Put, Chain}
use Rattle.svga_model.specs.Faults.{is_admissible}
use Rattle.svga_model.specs.Runs.{done, is_met, puts, run}
use Rattle.svga_model.specs.States.{State}
use Rattle.svga_model.specs.Steps.{step}
use Rattle.svga_model.specs.Touches.{Touches}
use Rattle.svga_model.proofs.OnlyPlaces.{rest_met, touched_met}
use Rattle.svga_model.proofs.PutLaws.{with_page_agree}
use Rattle.svga_model.proofs.RunLaws.{done-first, run-first}
use Rattle.svga_model.proofs.TouchLaws.{other_pages}

-- the first act of a run doesn't touch a page that the run doesn't meet
unmet_first : (s : State) (act : Act) (acts : List Act) (key : PageKey)
    → is_met s (act ∷ acts) key ≡ false → Touches s act key → ⊥
unmet_first s act acts key unmet has = let met = touched_met s act acts key has in cc (unmet, met)

-- nor does the rest meet it
unmet_rest : (s : State) (act : Act) (acts : List Act) (key : PageKey)
    → is_admissible s act ≡ true → is_met s (act ∷ acts) key ≡ false → is_met (step s act) acts key ≡ false
unmet_rest s act acts key admits unmet = go (is_met (step s act) acts key) refl where
  go : (b : Bool) → is_met (step s act) acts key ≡ b → b ≡ false
  go true e = let met = rest_met s act acts key admits e in cc (unmet, met)
  go false e = refl

-- an act changes a page that it doesn't touch as its Put alone would
step_puts : (s : State) (n : Memory) (act : Act) (key : PageKey)
    → (Touches s act key → ⊥) → page_at s.memory key ≡ page_at n key
    → page_at (step s act).memory key ≡ page_at (puts n (act ∷ [])) key
step_puts s n (Do c) key off same = other_pages s (Do c) key (λ put. put) off ∙ same
step_puts s n (Put other bytes) key off same = with_page_agree s.memory n other key bytes bytes refl same
step_puts s n (Chain id first) key off same = other_pages s (Chain id first) key (λ put. put) off ∙ same

-- the Puts of a first act, and of the rest
puts-first : (n : Memory) (act : Act) (acts : List Act) → puts n (act ∷ acts) ≡ puts (puts n (act ∷ [])) acts
puts-first n (Do c) acts = refl
puts-first n (Put other bytes) acts = refl
puts-first n (Chain id first) acts = refl

-- the page is after the run what it is after the run's Puts to this memory
abbrev EndsByPuts : State → List Act → PageKey → Memory → Type 0
EndsByPuts s acts key n = page_at (run s acts).memory key ≡ page_at (puts n (take (done s acts) acts)) key

-- so it is after a first act and the rest, where it is after the rest
first_by_puts : (s : State) (act : Act) (acts : List Act) (key : PageKey) (n : Memory) (b : Bool)
    → is_admissible s act ≡ b → is_met s (act ∷ acts) key ≡ false → page_at s.memory key ≡ page_at n key
    → (is_met (step s act) acts key ≡ false → (m : Memory) → page_at (step s act).memory key ≡ page_at m key
    → EndsByPuts (step s act) acts key m)
    → EndsByPuts s (act ∷ acts) key n
first_by_puts s act acts key n true e unmet same rest =
    let here = step_puts s n act key (unmet_first s act acts key unmet) same in
    ap (λ r. page_at r.memory key) (run-first s act acts true e)
    ∙ (rest (unmet_rest s act acts key e unmet) (puts n (act ∷ [])) here
    ∙ (ap (λ m. page_at m key) (sym (puts-first n act (take (done (step s act) acts) acts)))
    ∙ ap (λ k. page_at (puts n (take k (act ∷ acts))) key) (sym (done-first s act acts true e))))
first_by_puts s act acts key n false e unmet same rest =
    ap (λ r. page_at r.memory key) (run-first s act acts false e)
    ∙ (same ∙ ap (λ k. page_at (puts n (take k (act ∷ acts))) key) (sym (done-first s act acts false e)))

-- so it is where the run doesn't meet it, and this memory had the same of it
ends_by_puts : (s : State) (acts : List Act) (key : PageKey)
    → is_met s acts key ≡ false → (n : Memory) → page_at s.memory key ≡ page_at n key → EndsByPuts s acts key n
ends_by_puts s [] key unmet n same = same
ends_by_puts s (act ∷ acts) key unmet n same =
    first_by_puts s act acts key n (is_admissible s act) refl unmet same (ends_by_puts (step s act) acts key)

-- a page that the run doesn't meet is what its Puts alone make of it
pub others_by_puts : (s : State) (acts : List Act) (key : PageKey) → is_met s acts key ≡ false
    → page_at (run s acts).memory key ≡ page_at (puts s.memory (take (done s acts) acts)) key
others_by_puts s acts key unmet = ends_by_puts s acts key unmet s.memory refl
