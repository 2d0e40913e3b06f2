-- A replay is the one over the pages that stand in its regions alone.
use Rattle.std.proofs.Common.{◌≡◌, ℕ, suc, zero, List, [], ◌∷◌, ◌++◌, take, Option, Some, None, option_and_then, refl, sym, ap, ◌∙◌}
use Rattle.std.specs.List.{slice_get}
use Rattle.svga_cmd.specs.Pages.{Memory, page_at}
use Rattle.svga_cmd.specs.declared.command.Command.{Command}
use Rattle.svga_cmd.specs.declared.ending.Ending.{Ending}
use Rattle.svga_model.proofs.OnlyOthers.{others_by_puts}
use Rattle.svga_model.proofs.OnlyRuns.{RunAlike, only_agrees, only_alike}
use Rattle.svga_model.specs.Acts.{Act}
use Rattle.svga_model.specs.Faults.{fault_of}
use Rattle.svga_model.specs.Replays.{IsWithinRegions, acts_of, replay_end}
use Rattle.svga_model.specs.Runs.{done, only, puts, run, stopping_fault}
use Rattle.svga_model.specs.States.{State}

-- an act of a list stands between those before it and those behind it
split_at : (acts : List Act) (n : ℕ) (act : Act) → slice_get acts n ≡ Some act
    → (ys : List Act) × (acts ≡ take n acts ++ act ∷ ys)
split_at [] n act e = absurd cc
split_at (x ∷ xs) zero act e = let same : x ≡ act = cc e in (xs, ap (λ a. a ∷ xs) same)
split_at (x ∷ xs) (suc n) act e = let rest = split_at xs n act e in (rest.0, ap (λ t. x ∷ t) rest.1)

-- runs that are alike stop at the same fault
stops_alike : (s t : State) (acts : List Act) → RunAlike s t acts → stopping_fault s acts ≡ stopping_fault t acts
stops_alike s t acts alike =
    by (slice_get acts (done s acts)) refl ∙ ap (λ n. option_and_then (fault_of (run t acts)) (slice_get acts n)) alike.ends
  where
    by : (o : Option Act) → slice_get acts (done s acts) ≡ o
        → option_and_then (fault_of (run s acts)) (slice_get acts (done s acts)) ≡ option_and_then (fault_of (run t acts)) (slice_get acts (done s acts))
    by None e = ap (option_and_then (fault_of (run s acts))) e ∙ sym (ap (option_and_then (fault_of (run t acts))) e)
    by (Some act) e =
        let here = split_at acts (done s acts) act e in
        ap (option_and_then (fault_of (run s acts))) e ∙ alike.fault here.0 act here.1
        ∙ sym (ap (option_and_then (fault_of (run t acts))) e)

-- commands alone put no page
no_puts : (cs : List Command) (n : ℕ) (m : Memory) → puts m (take n (acts_of cs)) ≡ m
no_puts [] zero m = refl
no_puts [] (suc n) m = refl
no_puts (c ∷ cs) zero m = refl
no_puts (c ∷ cs) (suc n) m = no_puts cs n m

pub within_regions : (s : State) (cs : List Command) (end : Ending) → IsWithinRegions s cs end
within_regions s cs end =
    let acts = acts_of cs in
    let alike = only_alike s acts in
    record {
      commands = sym alike.ends;
      ending = λ i. replay_end (sym alike.ends i) (sym (stops_alike s (only s acts) acts alike) i) end;
      kept = sym alike.kept;
      pages = λ key met. sym (alike.pages key (only_agrees s acts key met));
      others = λ key unmet. others_by_puts s acts key unmet ∙ ap (λ m. page_at m key) (no_puts cs (done s acts) s.memory);
    }
