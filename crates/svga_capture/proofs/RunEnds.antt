-- Runs of commands, all of which were run, or up to the first that has a fault.
use Rattle.std.proofs.Common.{◌≡◌, ◌+◌, List, [], ◌∷◌, ◌++◌, length, Some, None, option_and_then, true, false, is_none, refl, sym, ap, ◌∙◌, arith, length-append}
use Rattle.std.proofs.lemmas.List.{length-map, map-append}
use Rattle.std.proofs.lemmas.Option.{slice_get_past}
use Rattle.std.specs.List.{slice_get}
use Rattle.svga_cmd.specs.declared.command.Command.{Command}
use Rattle.svga_cmd.specs.declared.ending.Ending.{Ending}
use Rattle.svga_cmd.specs.declared.ending.ReplayEnd.TheVariants as replay
use Rattle.svga_cmd.specs.declared.fault.Fault.{Fault}
use Rattle.svga_model.proofs.RunLaws.{done-first, run-first, run_whole}
use Rattle.svga_model.specs.Acts.{Do}
use Rattle.svga_model.specs.Faults.{fault_of, is_admissible}
use Rattle.svga_model.specs.Replays.{acts_of, end_of_words, replay_end, replay_of}
use Rattle.svga_model.specs.Runs.{done, run, stopping_fault}
use Rattle.svga_model.specs.States.{State}
use Rattle.svga_model.specs.Steps.{step}

-- all of these commands were run
abbrev pub AreDone : State → List Command → Type 0
AreDone s cs = done s (acts_of cs) ≡ length cs

-- as acts
done_acts : (s : State) (cs : List Command) → AreDone s cs → done s (acts_of cs) ≡ length (acts_of cs)
done_acts s cs all = all ∙ sym (length-map cs Do)

-- and one more
pub more_done : (s : State) (cs : List Command) (c : Command) → AreDone s cs
    → fault_of (run s (acts_of cs)) (Do c) ≡ None
    → (run s (acts_of (cs ++ c ∷ [])) ≡ step (run s (acts_of cs)) (Do c)) × AreDone s (cs ++ c ∷ [])
more_done s cs c all none =
    let parts = run_whole s (acts_of cs) (Do c ∷ []) (done_acts s cs all) in
    let acts = map-append Do cs (c ∷ []) in
    let admits : is_admissible (run s (acts_of cs)) (Do c) ≡ true = ap is_none none in
    let first = done-first (run s (acts_of cs)) (Do c) [] true admits in
    let count = ap (done s) acts ∙ parts.1 in
    let longer = length-append cs (c ∷ []) in (
      ap (run s) acts ∙ parts.0 ∙ run-first (run s (acts_of cs)) (Do c) [] true admits,
      omega (arith, count, first, all, longer),
    )

-- the element behind a list
get_behind : {X : Type 0} (xs : List X) (x : X) (ys : List X) → slice_get (xs ++ x ∷ ys) (length xs) ≡ Some x
get_behind [] x ys = refl
get_behind (y ∷ xs) x ys = get_behind xs x ys

-- and then one that has a fault, whatever follows it
pub stop_done : (s : State) (cs : List Command) (c : Command) (ds : List Command) (f : Fault) (end : Ending)
    → AreDone s cs
    → fault_of (run s (acts_of cs)) (Do c) ≡ Some f
    → replay_of s (cs ++ c ∷ ds) end ≡ record {
      commands = length cs;
      state = run s (acts_of cs);
      ending = replay.Fault (length cs) f;
    }
stop_done s cs c ds f end all some = λ i. record {
  commands = count i;
  state = left i;
  ending = replay_end (count i) (fault i) end;
} where
  acts : acts_of (cs ++ c ∷ ds) ≡ acts_of cs ++ Do c ∷ acts_of ds
  acts = map-append Do cs (c ∷ ds)

  refused : is_admissible (run s (acts_of cs)) (Do c) ≡ false
  refused = ap is_none some

  parts : (run s (acts_of cs ++ Do c ∷ acts_of ds) ≡ run (run s (acts_of cs)) (Do c ∷ acts_of ds)) ×
      (done s (acts_of cs ++ Do c ∷ acts_of ds) ≡ done s (acts_of cs) + done (run s (acts_of cs)) (Do c ∷ acts_of ds))
  parts = run_whole s (acts_of cs) (Do c ∷ acts_of ds) (done_acts s cs all)

  left : run s (acts_of (cs ++ c ∷ ds)) ≡ run s (acts_of cs)
  left = ap (run s) acts ∙ parts.0 ∙ run-first (run s (acts_of cs)) (Do c) (acts_of ds) false refused

  count : done s (acts_of (cs ++ c ∷ ds)) ≡ length cs
  count =
      let n = ap (done s) acts ∙ parts.1 in
      let first = done-first (run s (acts_of cs)) (Do c) (acts_of ds) false refused in
      omega (arith, n, first, all)

  at : slice_get (acts_of (cs ++ c ∷ ds)) (done s (acts_of (cs ++ c ∷ ds))) ≡ Some (Do c)
  at = (λ i. slice_get (acts i) ((count ∙ sym (length-map cs Do)) i)) ∙ get_behind (acts_of cs) (Do c) (acts_of ds)

  fault : stopping_fault s (acts_of (cs ++ c ∷ ds)) ≡ Some f
  fault = (λ i. option_and_then (fault_of (left i)) (at i)) ∙ some

-- where no other follows
pub end_done : (s : State) (cs : List Command) (end : Ending) → AreDone s cs
    → replay_of s cs end ≡ record { commands = length cs; state = run s (acts_of cs); ending = end_of_words end }
end_done s cs end all = λ i. record {
  commands = all i;
  state = run s (acts_of cs);
  ending = replay_end (all i) (fault i) end;
} where
  past : slice_get (acts_of cs) (done s (acts_of cs)) ≡ None
  past = let count = done_acts s cs all in slice_get_past (acts_of cs) (done s (acts_of cs)) (omega (arith, count))

  fault : stopping_fault s (acts_of cs) ≡ None
  fault = ap (option_and_then (fault_of (run s (acts_of cs)))) past
