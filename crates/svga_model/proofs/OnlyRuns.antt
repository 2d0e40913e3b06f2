-- Two states that have the same on the pages that a run meets run alike.
use Rattle.std.proofs.Common.{◌≡◌, suc, refl, sym, ap, subst, ◌∙◌, List, [], ◌∷◌, ◌++◌, take, Bool, true, false, cond, None, is_none}
use Rattle.std.specs.FinMap as map
use Rattle.svga_cmd.specs.declared.page.PageKey.{PageKey}
use Rattle.svga_cmd.specs.Pages.{page_at}
use Rattle.svga_cmd.proofs.KeyLaws.{keys_exact}
use Rattle.svga_model.specs.Acts.{Act, Do, Put, Chain}
use Rattle.svga_model.specs.Faults.{fault_of, is_admissible}
use Rattle.svga_model.specs.Runs.{done, is_met, only, run}
use Rattle.svga_model.specs.States.{State}
use Rattle.svga_model.specs.Steps.{step}
use Rattle.svga_model.specs.Touches.{AgreeOn, IsPut, touches}
use Rattle.svga_model.proofs.OnlyPlaces.{rest_met, touched_met}
use Rattle.svga_model.proofs.PutLaws.{with_page_agree}
use Rattle.svga_model.proofs.RunLaws.{done-first, head_same, run-first, tail_same}
use Rattle.svga_model.proofs.TouchLaws.{other_pages, same_fault, same_kept, same_pages, same_touches}

-- an act other than a Put leaves the same of each page that was the same
quiet_alike : (s t : State) (act : Act) (key : PageKey)
    → (IsPut act → ⊥) → s.kept ≡ t.kept → AgreeOn s t act → page_at s.memory key ≡ page_at t.memory key
    → page_at (step s act).memory key ≡ page_at (step t act).memory key
quiet_alike s t act key no_put kept agree same = go (touches s act key) refl where
  go : (b : Bool) → touches s act key ≡ b → page_at (step s act).memory key ≡ page_at (step t act).memory key
  go true has = same_pages s t act key kept agree has
  go false off =
      other_pages s act key no_put (λ has. cc (off, has))
      ∙ (same ∙ sym (other_pages t act key no_put (λ has. cc (off, has, same_touches s t act key kept agree))))

-- and so does each act
step_alike : (s t : State) (act : Act) (key : PageKey)
    → s.kept ≡ t.kept → AgreeOn s t act → page_at s.memory key ≡ page_at t.memory key
    → page_at (step s act).memory key ≡ page_at (step t act).memory key
step_alike s t (Do c) key = quiet_alike s t (Do c) key (λ put. put)
step_alike s t (Put other bytes) key = λ kept agree same. with_page_agree s.memory t.memory other key bytes bytes refl same
step_alike s t (Chain id first) key = quiet_alike s t (Chain id first) key (λ put. put)

-- the two states' memories have the same on the pages that the first one's run meets
abbrev pub AgreeOnMet : State → State → List Act → Type 0
AgreeOnMet s t acts = (key : PageKey) → is_met s acts key ≡ true → page_at s.memory key ≡ page_at t.memory key

-- so they have on the pages that the first act touches
agree_first : (s t : State) (act : Act) (acts : List Act) → AgreeOnMet s t (act ∷ acts) → AgreeOn s t act
agree_first s t act acts agree key has = agree key (touched_met s act acts key has)

-- after it they have on the pages that the rest meets
agree_rest : (s t : State) (act : Act) (acts : List Act)
    → s.kept ≡ t.kept → is_admissible s act ≡ true → AgreeOnMet s t (act ∷ acts)
    → AgreeOnMet (step s act) (step t act) acts
agree_rest s t act acts kept admits agree key met =
    step_alike s t act key kept (agree_first s t act acts agree) (agree key (rest_met s act acts key admits met))

-- The runs of two states end at the same act, with the same fault, and with the same of each page that was
-- the same.
pub record RunAlike (s t : State) (acts : List Act) : Type 0 where
  pub ends : done s acts ≡ done t acts
  pub fault : (ys : List Act) (act : Act)
      → acts ≡ take (done s acts) acts ++ act ∷ ys → fault_of (run s acts) act ≡ fault_of (run t acts) act
  pub kept : (run s acts).kept ≡ (run t acts).kept
  pub pages : (key : PageKey)
      → page_at s.memory key ≡ page_at t.memory key → page_at (run s acts).memory key ≡ page_at (run t acts).memory key

-- they do where there is no act
none_alike : (s t : State) → s.kept ≡ t.kept → RunAlike s t []
none_alike s t kept = record { ends = refl; fault = λ ys act e. cc e; kept = kept; pages = λ key same. same }

-- where the first act is refused
refused_alike : (s t : State) (x : Act) (xs : List Act)
    → s.kept ≡ t.kept → fault_of s x ≡ fault_of t x → is_admissible s x ≡ false → is_admissible t x ≡ false
    → RunAlike s t (x ∷ xs)
refused_alike s t x xs kept fault refused as_well =
    let here = run-first s x xs false refused in
    let there = run-first t x xs false as_well in record {
      ends = done-first s x xs false refused ∙ sym (done-first t x xs false as_well);
      fault = λ ys act e.
          let none = ap (λ n. take n (x ∷ xs) ++ act ∷ ys) (done-first s x xs false refused) in
          let is = head_same x act xs ys (e ∙ none) in
          ap (λ r. fault_of r act) here
          ∙ (subst (λ a. fault_of s a ≡ fault_of t a) is fault ∙ ap (λ r. fault_of r act) (sym there));
      kept = ap (λ r. r.kept) here ∙ (kept ∙ ap (λ r. r.kept) (sym there));
      pages = λ key same. ap (λ r. page_at r.memory key) here ∙ (same ∙ ap (λ r. page_at r.memory key) (sym there));
    }

-- where it is run
run_alike : (s t : State) (x : Act) (xs : List Act)
    → ((key : PageKey) → page_at s.memory key ≡ page_at t.memory key
    → page_at (step s x).memory key ≡ page_at (step t x).memory key)
    → is_admissible s x ≡ true → is_admissible t x ≡ true → RunAlike (step s x) (step t x) xs
    → RunAlike s t (x ∷ xs)
run_alike s t x xs steps admits as_well rest =
    let here = run-first s x xs true admits in
    let there = run-first t x xs true as_well in record {
      ends = done-first s x xs true admits ∙ (ap suc rest.ends ∙ sym (done-first t x xs true as_well));
      fault = λ ys act e.
          let more = ap (λ n. take n (x ∷ xs) ++ act ∷ ys) (done-first s x xs true admits) in
          let behind = tail_same x x xs (take (done (step s x) xs) xs ++ act ∷ ys) (e ∙ more) in
          ap (λ r. fault_of r act) here ∙ (rest.fault ys act behind ∙ ap (λ r. fault_of r act) (sym there));
      kept = ap (λ r. r.kept) here ∙ (rest.kept ∙ ap (λ r. r.kept) (sym there));
      pages = λ key same.
          ap (λ r. page_at r.memory key) here
          ∙ (rest.pages key (steps key same) ∙ ap (λ r. page_at r.memory key) (sym there));
    }

-- where either is so, and the rest of the runs end alike
first_alike : (s t : State) (x : Act) (xs : List Act) (b : Bool)
    → is_admissible s x ≡ b → s.kept ≡ t.kept → AgreeOnMet s t (x ∷ xs)
    → ((step s x).kept ≡ (step t x).kept → AgreeOnMet (step s x) (step t x) xs → RunAlike (step s x) (step t x) xs)
    → RunAlike s t (x ∷ xs)
first_alike s t x xs true e kept agree rest =
    let on = agree_first s t x xs agree in
    run_alike s t x xs (λ key. step_alike s t x key kept on) e (ap is_none (sym (same_fault s t x kept on)) ∙ e)
    (rest (same_kept s t x kept on) (agree_rest s t x xs kept e agree))
first_alike s t x xs false e kept agree rest =
    let fault = same_fault s t x kept (agree_first s t x xs agree) in
    refused_alike s t x xs kept fault e (ap is_none (sym fault) ∙ e)

-- states that have the same on the pages that a run meets run alike
pub runs_alike : (s t : State) (acts : List Act) → s.kept ≡ t.kept → AgreeOnMet s t acts → RunAlike s t acts
runs_alike s t [] kept agree = none_alike s t kept
runs_alike s t (x ∷ xs) kept agree =
    first_alike s t x xs (is_admissible s x) refl kept agree (runs_alike (step s x) (step t x) xs)

-- a state that is cut to the pages that a run meets has the same on them
pub only_agrees : (s : State) (acts : List Act) → AgreeOnMet s (only s acts) acts
only_agrees s acts key met = sym (
    map.get-retain_keys s.memory (is_met s acts) key (λ x e. ap (is_met s acts) (sym (keys_exact key x e)))
    ∙ ap (λ b. cond b (page_at s.memory key) None) met)

-- its run is like the whole state's
pub only_alike : (s : State) (acts : List Act) → RunAlike s (only s acts) acts
only_alike s acts = runs_alike s (only s acts) acts refl (only_agrees s acts)
