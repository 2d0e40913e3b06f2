-- How a replay ends: where its words do, or at the fault of a command.
use Rattle.std.proofs.Common.{◌≡◌, ℕ, ◌+◌, List, [], ◌∷◌, ◌++◌, length, take, drop, None, All, Ok, refl, sym, ap, subst, ◌∙◌, append_assoc, append-nil, arith, length-append, length-take}
use Rattle.std.proofs.lemmas.Grind.{flat_map-append}
use Rattle.std.proofs.lemmas.List.{take-append-drop, take_at}
use Rattle.std.proofs.lemmas.List.Elements.{All-head, All-tail, All-take}
use Rattle.svga_cmd.specs.Spelling.{spelling}
use Rattle.svga_cmd.specs.WellFormed.{IsWellFormed}
use Rattle.svga_cmd.specs.declared.command.Command.{Command}
use Rattle.svga_cmd.specs.declared.ending.Ending.{Ending}
use Rattle.svga_cmd.specs.declared.ending.ReplayEnd.{ReplayEnd}
use Rattle.svga_cmd.specs.declared.ending.ReplayEnd.TheVariants as replay
use Rattle.svga_cmd.specs.declared.fault.Fault.{Fault}
use Rattle.svga_cmd.specs.declared.limits.Limits.{Limits}
use Rattle.svga_decode.specs.Visits.{AreTaken, IsVisited, IsVisitedUpTo}
use Rattle.svga_machine.proofs.StoreStates.{served_after}
use Rattle.svga_machine.specs.Displays.{IsWholeState}
use Rattle.svga_model.proofs.GrammarEndings.{one_ending, some_ending}
use Rattle.svga_model.proofs.GrammarFronts.{as_many}
use Rattle.svga_model.proofs.ReplayLaws.{within_regions}
use Rattle.svga_model.specs.Accepted.{AreWords}
use Rattle.svga_model.specs.Acts.{Do}
use Rattle.svga_model.specs.Captures.{Capture}
use Rattle.svga_model.specs.Endings.{IsEnding, IsFront, StandAtFront}
use Rattle.svga_model.specs.Faults.{fault_of}
use Rattle.svga_model.specs.Replays.{IsWithinRegions, acts_of, end_of_words, replay_of}
use Rattle.svga_model.specs.Runs.{done, run}
use Rattle.svga_model.specs.Sentences.{spelling_all}
use Rattle.svga_model.specs.States.{State}
use Rattle.svga_model.specs.Steps.{step}
use Rattle.svga_capture.proofs.RunEnds.{end_done, more_done, stop_done}
use Rattle.svga_capture.specs.Replayed.{IsReplayOf, replay_in}
use Rattle.svga_capture.specs.Running.{Runs, Stops, state_in}
use Rattle.svga_capture.specs.declared.replaying.Replayed.{Replayed}
use Rattle.svga_capture.specs.declared.replaying.Running.{Running}

-- All of these commands were run from the opening state on.
pub record AreRun (l : Limits) (opening : State) (cs : List Command) (r : Running) : Type 0 where
  pub commands : r.commands ≡ length cs
  pub state : state_in r ≡ run opening (acts_of cs)
  pub all : done opening (acts_of cs) ≡ length cs
  pub whole : IsWholeState l (state_in r)
  pub chain : r.machine.chain ≡ None

pub none_run : (l : Limits) (opening : State) (r : Running) → r.commands ≡ 0 → state_in r ≡ opening
    → IsWholeState l (state_in r) → r.machine.chain ≡ None → AreRun l opening [] r
none_run l opening r count state whole chain = record {
  commands = count;
  state = state;
  all = refl;
  whole = whole;
  chain = chain;
}

-- and one more
one_run : (l : Limits) (opening : State) (cs : List Command) (c : Command) (r now : Running) → AreRun l opening cs r
    → IsWellFormed c → Runs r c now → AreRun l opening (cs ++ c ∷ []) now
one_run l opening cs c r now are well one =
    let more = more_done opening cs c are.all (ap (λ s. fault_of s (Do c)) (sym are.state) ∙ one.admitted) in
    let counts = are.commands in
    let count = one.commands in
    record {
      commands = omega (arith, count, counts, length-append cs (c ∷ []));
      state = one.state ∙ ap (λ s. step s (Do c)) are.state ∙ sym more.0;
      all = more.1;
      whole = served_after l r.machine now.machine r.pages now.pages c (Ok (tt {0})) are.whole well (sym one.admitted) one.state tt;
      chain = one.chain ∙ are.chain;
    }

-- taking a command is running it, and stopping at one is its fault
abbrev pub Takes : Running → Unit {0} → ℕ → Command → Running → Unit {0} → Type 0
Takes r on first c now on' = Runs r c now

abbrev pub StopsAt : Running → Unit {0} → ℕ → Command → Fault → Running → Unit {0} → Type 0
StopsAt r on first c fault now on' = Stops r c fault now

-- commands that were taken were run
all_run : (l : Limits) (opening : State) (before cs : List Command) (r : Running) (t : Unit {0}) (first : ℕ) (w : Running)
    (u : Unit {0}) → All IsWellFormed cs → AreRun l opening before r → AreTaken Takes r t first cs w u
    → AreRun l opening (before ++ cs) w
all_run l opening before [] r t first w u well are taken =
    subst (λ v. AreRun l opening (before ++ []) v) (sym taken.0)
    (subst (λ cs. AreRun l opening cs r) (sym (append-nil before)) are)
all_run l opening before (c ∷ cs) r t first w u well are taken =
    subst (λ ds. AreRun l opening ds w) (append_assoc before (c ∷ []) cs)
    (all_run l opening (before ++ c ∷ []) cs taken.0 taken.1 (first + length (spelling c)) w u
    (All-tail IsWellFormed c cs well)
    (one_run l opening before c r taken.0 are (All-head IsWellFormed c cs well) taken.2) taken.3)

-- what stands at the front begins the whole front
pub front_extends : (ws : List ℕ) (cs ds : List Command) → IsFront ws cs → StandAtFront ds ws
    → cs ≡ ds ++ drop (length ds) cs
front_extends ws cs ds whole stands =
    sym (take-append-drop (length ds) cs)
    ∙ ap (λ t. t ++ drop (length ds) cs)
    (as_many (take (length ds) cs) ds (spelling_all (drop (length ds) cs) ++ whole.stands.words.0) stands.words.0
    (All-take IsWellFormed (length ds) cs whole.stands.well_formed) stands.well_formed
    (sym (append_assoc (spelling_all (take (length ds) cs)) (spelling_all (drop (length ds) cs)) whole.stands.words.0)
    ∙ ap (λ t. t ++ whole.stands.words.0)
    (sym (flat_map-append spelling (take (length ds) cs) (drop (length ds) cs))
    ∙ ap spelling_all (take-append-drop (length ds) cs))
    ∙ sym whole.stands.words.1 ∙ stands.words.1)
    (omega (arith, length-take (length ds) cs, whole.longest ds stands)))

-- what a replay that has come so far leaves
abbrev pub left_by : Running → ReplayEnd → Replayed
left_by r ending = record {
  commands = r.commands;
  fence = r.machine.kept.fence;
  machine = r.machine;
  pages = r.pages;
  ending = ending;
}

-- the words end so behind these commands, of which it is the replay
tells : (c : Capture) (cs : List Command) (end : Ending) (r : Running) (ending : ReplayEnd) → IsEnding c.words cs end
    → replay_in (left_by r ending) ≡ replay_of c.opening cs end → IsWholeState c.limits (state_in r)
    → r.machine.chain ≡ None → IsReplayOf c (left_by r ending)
tells c cs end r ending ends same whole chain = record {
  replay = record { commands = cs; end = end; ending = ends; same = same };
  fence = refl;
  whole = whole;
  chain = chain;
}

-- all commands were taken
pub whole_replay : (c : Capture) (first r : Running) (t u : Unit {0}) (end : Ending)
    → AreRun c.limits c.opening [] first → IsVisited Takes c.words first t end r u
    → IsReplayOf c (left_by r (end_of_words end))
whole_replay c first r t u end none (cs, ends, taken) =
    let are = all_run c.limits c.opening [] cs first t 0 r u ends.front.stands.well_formed none taken in
    tells c cs end r (end_of_words end) ends
    ((λ i. record { commands = are.commands i; state = are.state i; ending = end_of_words end })
    ∙ sym (end_done c.opening cs end are.all))
    are.whole are.chain

-- the commands in front of one
front_formed : (cs : List Command) (d : Command) → All IsWellFormed (cs ++ d ∷ []) → All IsWellFormed cs
front_formed cs d well =
    subst (All IsWellFormed) (take_at cs (d ∷ []) (length cs) refl) (All-take IsWellFormed (length cs) (cs ++ d ∷ []) well)

-- a command has a fault
pub fault_replay : (c : Capture) (first r : Running) (t u : Unit {0}) (fault : Fault) → AreWords c.words
    → AreRun c.limits c.opening [] first → IsVisitedUpTo Takes StopsAt c.words first t fault r u
    → IsReplayOf c (left_by r (replay.Fault r.commands fault))
fault_replay c first r t u fault words none (cs, d, stands, x, y, taken, stops) =
    let are = all_run c.limits c.opening [] cs first t 0 x y (front_formed cs d stands.well_formed) none taken in
    let ending = some_ending c.words words in
    let rest = drop (length (cs ++ d ∷ [])) ending.0 in
    let extends = front_extends c.words ending.0 (cs ++ d ∷ []) ending.2.front stands in
    let front_is : ending.0 ≡ cs ++ d ∷ rest = extends ∙ append_assoc cs (d ∷ []) rest in
    let fails = ap (λ s. fault_of s (Do d)) (sym are.state) ∙ stops.refused in
    let stopped = stop_done c.opening cs d rest fault ending.1 are.all fails in
    let left : IsReplayOf c (left_by x (replay.Fault x.commands fault)) =
    tells c ending.0 ending.1 x (replay.Fault x.commands fault) ending.2
    ((λ i. record { commands = are.commands i; state = are.state i; ending = replay.Fault (are.commands i) fault })
    ∙ sym stopped ∙ ap (λ ds. replay_of c.opening ds ending.1) (sym front_is))
    are.whole are.chain in
    subst (λ (r : Running). IsReplayOf c (left_by r (replay.Fault r.commands fault))) (sym stops.same) left

-- what is told of it
pub given_replay : (c : Capture) (r : Running) (fence : ℕ) (ending is : ReplayEnd) → fence ≡ r.machine.kept.fence
    → ending ≡ is → IsReplayOf c (left_by r is)
    → IsReplayOf c (record { commands = r.commands; fence = fence; machine = r.machine; pages = r.pages; ending = ending })
given_replay c r fence ending is e f left = subst (IsReplayOf c) (λ i. record {
  commands = r.commands;
  fence = sym e i;
  machine = r.machine;
  pages = r.pages;
  ending = sym f i;
}) left

-- it is the replay over the pages of its regions alone
pub within_replay : (c : Capture) (r : Replayed) → IsReplayOf c r → (cs : List Command) (end : Ending)
    → IsEnding c.words cs end
    → (replay_in r ≡ replay_of c.opening cs end) × IsWithinRegions c.opening cs end
within_replay c r is cs end ends =
    let one = one_ending c.words is.replay.commands cs is.replay.end end is.replay.ending ends in
    (is.replay.same ∙ (λ i. replay_of c.opening (one.0 i) (one.1 i)), within_regions c.opening cs end)
