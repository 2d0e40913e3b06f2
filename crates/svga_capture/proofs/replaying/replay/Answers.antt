use Rattle.std.proofs.Common.{arith, refl, subst, sym, ◌∙◌, []}
use Rattle.svga_cmd.specs.declared.ending.ReplayEnd.TheVariants as ending
use Rattle.svga_machine.specs.Displays.{IsWholeState}
use Rattle.svga_machine.specs.MachineSet.{state_with}
use Rattle.svga_model.specs.Replays.{end_of_words}
use Rattle.svga_capture.proofs.ReplayEnds.{AreRun, fault_replay, given_replay, none_run, whole_replay, within_replay}
use Rattle.svga_capture.specs.declared.replaying.Running.{Running}
use Rattle.svga_capture.proofs.replaying.replay.Goals as goal
use Rattle.svga_capture.proofs.replaying.replay.Goals.{in-Ok, in-Err}

pub each_command-requires-clause-can : goal.each_command-requires-clause-can
each_command-requires-clause-can c =
    let whole = c.in_ok-machine.ensures.whole in
    record {
      few = omega arith;
      whole = subst (λ l. IsWholeState l (state_with c.in_ok-machine.machine c.in_ok-machine.pages)) (sym whole.0) whole;
    }

pub returns-clause-replay : goal.returns-clause-replay
returns-clause-replay c =
    let capture = c.args.capture.now in
    let first : Running = record { machine = c.in_ok-machine.machine; pages = c.in_ok-machine.pages; commands = 0 } in
    let last = c.each_command.new.visitor in
    let none : AreRun capture.limits capture.opening [] first =
    none_run capture.limits capture.opening first refl c.in_ok-machine.ensures.opened c.in_ok-machine.ensures.whole
    c.in_ok-machine.ensures.chain in
    elim c.match-each_command.branch [
      | in-Ok w ↦
          given_replay capture last c.fence.result c.match-each_command.ending (end_of_words w.in-Ok.ending) c.fence.ensures
          (w.ending-is ∙ w.replay_end-ending.ensures)
          (whole_replay capture first last _ _ w.in-Ok.ending none w.in-Ok.ensures.ended)
      | in-Err w ↦
          given_replay capture last c.fence.result c.match-each_command.ending
          (ending.Fault last.commands w.in-Err.fault) c.fence.ensures w.ending-is
          (fault_replay capture first last _ _ w.in-Err.fault c.in_ok-machine.ensures.numbers none w.in-Err.ensures.stopped)
    ]

pub returns-clause-within : goal.returns-clause-within
returns-clause-within c = within_replay c.args.capture.now _ (returns-clause-replay c)
