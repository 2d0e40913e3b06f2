-- What is left of a list of acts leads where the whole list does.
use Rattle.std.proofs.Common.{◌≡◌, ℕ, suc, ◌+◌, ◌<◌, List, ◌∷◌, length, drop, true, Option, Some, None, option_and_then, is_none, IfSome, slice_index_or, refl, sym, ap, subst, ◌∙◌, arith}
use Rattle.std.proofs.lemmas.List.{drop_more}
use Rattle.std.specs.List.{slice_get}
use Rattle.svga_cmd.specs.Lent.{command_of}
use Rattle.svga_cmd.specs.Pages.{HasPage, Memory}
use Rattle.svga_cmd.specs.declared.command.Command.{Command}
use Rattle.svga_cmd.specs.declared.command.CommandRef.{CommandRef}
use Rattle.svga_cmd.specs.declared.page.PageKey.{PageKey}
use Rattle.svga_model.proofs.OnlyPlaces.{rest_met, touched_met}
use Rattle.svga_model.proofs.RunLaws.{done-first, run-first}
use Rattle.svga_model.proofs.TouchPages.{has_place}
use Rattle.svga_model.proofs.ValidStateLaws.{step_keys}
use Rattle.svga_model.specs.Acts.{Act, Do}
use Rattle.svga_model.specs.Faults.{fault_of, is_admissible}
use Rattle.svga_model.specs.Regions.{Places}
use Rattle.svga_model.specs.Runs.{done, is_met, run, stopping_fault}
use Rattle.svga_model.specs.States.{State}
use Rattle.svga_model.specs.Steps.{step}
use Rattle.svga_model.specs.Touches.{has_page, touched_places}
use Rattle.svga_machine.specs.Listed.{lent_acts}
use Rattle.svga_machine.specs.Touched.{HasTouched}
use Rattle.svga_transfer.specs.Reach.{HasPages}

-- the memory has the pages that the run meets
abbrev pub HasMet : State → List Act → Type 0
HasMet s acts = (key : PageKey) → is_met s acts key ≡ true → HasPage s.memory key

-- So many of all acts were run, from the first state to the second, and the run of those that are left is
-- the rest of the whole run.
pub record IsLeft (all left : List Act) (first now : State) (n : ℕ) : Type 0 where
  pub ends : run first all ≡ run now left
  pub count : done first all ≡ n + done now left
  pub fault : stopping_fault first all ≡ stopping_fault now left
  pub there : HasMet now left

-- an act that was run is left no longer
left_more : (all left : List Act) (act : Act) (s t : State) (n : ℕ)
    → IsLeft all (act ∷ left) s t n → fault_of t act ≡ None → IsLeft all left s (step t act) (n + 1)
left_more all left act s t n is none = record {
  ends = is.ends ∙ here;
  count = let e = is.count in omega (arith, e, more);
  fault = is.fault ∙ (λ i. option_and_then (fault_of (here i)) (slice_get (act ∷ left) (more i)));
  there = λ key met. (step_keys t act key).0 (is.there key (rest_met t act left key admits met));
}
  where
    admits : is_admissible t act ≡ true
    admits = ap is_none none

    here : run t (act ∷ left) ≡ run (step t act) left
    here = run-first t act left true admits

    more : done t (act ∷ left) ≡ suc (done (step t act) left)
    more = done-first t act left true admits

-- a memory that has each page of these places has the page of each place
pages_there : (m : Memory) (places : Places) → ((key : PageKey) → has_page places key ≡ true → HasPage m key) → HasPages m places
pages_there m places has k = go (slice_index_or places k None) refl where
  go : (o : Option PageKey) → slice_index_or places k None ≡ o → IfSome o (HasPage m)
  go None e = tt
  go (Some key) e = has key (has_place places k key e)

-- what the run meets is enough for its first command
touched_there : (s : State) (c : Command) (acts : List Act) → HasMet s (Do c ∷ acts) → HasTouched s.kept s.memory c
touched_there s c acts there admitted = pages_there s.memory (touched_places s.kept c) (λ key has. there key (touched_met s (Do c) acts key has))

-- the same of a list of commands, at the next of those that are left
pub next_there : (commands : List CommandRef) (n : ℕ) (d : CommandRef) (s : State) → n < length commands
    → HasMet s (lent_acts (drop n commands)) → HasTouched s.kept s.memory (command_of (slice_index_or commands n d))
next_there commands n d s l there = touched_there s (command_of (slice_index_or commands n d)) (lent_acts (drop (n + 1) commands))
    (subst (λ left. HasMet s (lent_acts left)) (drop_more commands n d l) there)

-- where it was run
pub next_run : (commands : List CommandRef) (n : ℕ) (d : CommandRef) (s t u : State) → n < length commands
    → IsLeft (lent_acts commands) (lent_acts (drop n commands)) s t n
    → None ≡ fault_of t (Do (command_of (slice_index_or commands n d)))
    → u ≡ step t (Do (command_of (slice_index_or commands n d)))
    → IsLeft (lent_acts commands) (lent_acts (drop (n + 1) commands)) s u (n + 1)
next_run commands n d s t u l is none same =
    let act : Act = Do (command_of (slice_index_or commands n d)) in
    subst (λ w. IsLeft (lent_acts commands) (lent_acts (drop (n + 1) commands)) s w (n + 1)) (sym same)
    (left_more (lent_acts commands) (lent_acts (drop (n + 1) commands)) act s t n
    (subst (λ left. IsLeft (lent_acts commands) (lent_acts left) s t n) (drop_more commands n d l) is) (sym none))
