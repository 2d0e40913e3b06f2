-- What a replay tells of a capture.
use Rattle.std.specs.Prelude.{◌≡◌, None}
use Rattle.svga_machine.specs.Displays.{IsWholeState}
use Rattle.svga_machine.specs.MachineSet.{state_with}
use Rattle.svga_model.specs.Captures.{Capture}
use Rattle.svga_model.specs.Replays.{IsReplay, Replay}
use Rattle.svga_model.specs.States.{State}
use Rattle.svga_capture.specs.declared.replaying.Replayed.{Replayed}

-- the state that a replay leaves
abbrev pub state_left : Replayed → State
state_left r = state_with r.machine r.pages

-- the replay that this tells of
abbrev pub replay_in : Replayed → Replay
replay_in r = record { commands = r.commands; state = state_left r; ending = r.ending }

-- It is the replay of the capture's words on its opening state, of which the fence is told, the
-- pages are all those of the device, and no chain is begun.
pub record IsReplayOf (c : Capture) (r : Replayed) : Type 0 where
  pub replay : IsReplay c.opening c.words (replay_in r)
  pub fence : r.fence ≡ r.machine.kept.fence
  pub whole : IsWholeState c.limits (state_left r)
  pub chain : r.machine.chain ≡ None
