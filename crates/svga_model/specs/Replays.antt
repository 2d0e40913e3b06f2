-- Replays: the commands at the front of words, run on a state up to the first that isn't admissible.
use Rattle.std.specs.Prelude.{◌≡◌, ℕ, List, map as map_list, Option, Some, None, true, false}
use Rattle.svga_cmd.specs.Pages.{page_at}
use Rattle.svga_cmd.specs.declared.command.Command.{Command}
use Rattle.svga_cmd.specs.declared.ending.Ending.{Ending}
use Rattle.svga_cmd.specs.declared.ending.Ending.TheVariants.{Refused, Torn, Whole}
use Rattle.svga_cmd.specs.declared.ending.ReplayEnd.{ReplayEnd}
use Rattle.svga_cmd.specs.declared.ending.ReplayEnd.TheVariants as replay
use Rattle.svga_cmd.specs.declared.fault.Fault.{Fault}
use Rattle.svga_cmd.specs.declared.page.PageKey.{PageKey}
use Rattle.svga_model.specs.Acts.{Act, Do}
use Rattle.svga_model.specs.Endings.{IsEnding}
use Rattle.svga_model.specs.Runs.{done, is_met, only, run, stopping_fault}
use Rattle.svga_model.specs.States.{State}

-- how many commands were run, the state that they leave, and how it ended
pub record Replay : Type 0 where
  pub commands : ℕ
  pub state : State
  pub ending : ReplayEnd

-- the acts that are these commands
abbrev pub acts_of : List Command → List Act
acts_of cs = map_list Do cs

-- how a replay ends that goes on to the end of its words
abbrev pub end_of_words : Ending → ReplayEnd
end_of_words Whole = replay.Whole
end_of_words (Refused word cause) = replay.Refused word cause
end_of_words (Torn word) = replay.Torn word

-- how a run of acts ended: at the fault of the command behind those that were
-- run if it met one, else as the words do
abbrev pub replay_end : ℕ → Option Fault → Ending → ReplayEnd
replay_end count None end = end_of_words end
replay_end count (Some fault) end = replay.Fault count fault

-- the replay of these commands on a state, where the words end so behind them
abbrev pub replay_of : State → List Command → Ending → Replay
replay_of s cs end = record {
  commands = done s (acts_of cs);
  state = run s (acts_of cs);
  ending = replay_end (done s (acts_of cs)) (stopping_fault s (acts_of cs)) end;
}

-- the replay of words on a state: that of the commands at their front
pub record IsReplay (s : State) (ws : List ℕ) (r : Replay) : Type 0 where
  pub commands : List Command
  pub end : Ending
  pub ending : IsEnding ws commands end
  pub same : r ≡ replay_of s commands end

-- A replay is the one over the pages alone that stand in a region at some point of it: as many
-- commands run, it ends in the same way, and leaves the same; these pages end with the same
-- bytes, and every other page is unchanged.
pub record IsWithinRegions (s : State) (cs : List Command) (end : Ending) : Type 0 where
  pub commands : (replay_of (only s (acts_of cs)) cs end).commands ≡ (replay_of s cs end).commands
  pub ending : (replay_of (only s (acts_of cs)) cs end).ending ≡ (replay_of s cs end).ending
  pub kept : (replay_of (only s (acts_of cs)) cs end).state.kept ≡ (replay_of s cs end).state.kept
  pub pages : (key : PageKey) → is_met s (acts_of cs) key ≡ true
      → page_at (replay_of (only s (acts_of cs)) cs end).state.memory key
      ≡ page_at (replay_of s cs end).state.memory key
  pub others : (key : PageKey) → is_met s (acts_of cs) key ≡ false
      → page_at (replay_of s cs end).state.memory key ≡ page_at s.memory key
