use Rattle.std.proofs.Common.{Ok, ◌≤◌, arith, length, subst, sym}
use Rattle.svga_cmd.specs.Lent.{command_of}
use Rattle.svga_cmd.specs.Spelling.{spelling}
use Rattle.svga_cmd.specs.declared.command.Command.{Command}
use Rattle.svga_cmd.specs.declared.command.Command.TheVariants.{BlitToGmrfb, BlitToScreen, DefineGmr2, DefineGmrfb, DefineScreen, DestroyScreen, Fence, RemapGmr2, Update}
use Rattle.svga_machine.proofs.StoreStates.{served_after, serves}
use Rattle.svga_machine.specs.Displays.{IsWholeState}
use Rattle.svga_machine.specs.MachineSet.{state_with}
use Rattle.svga_capture.specs.Running.{state_in}
use Rattle.svga_capture.proofs.replaying.RunningVisitorUnit.command.Goals as goal

-- a command has a word
some_word : (c : Command) → 1 ≤ length (spelling c)
some_word (Update x y width height) = omega arith
some_word (Fence value) = omega arith
some_word (DefineScreen d) = omega arith
some_word (DestroyScreen id) = omega arith
some_word (DefineGmrfb g) = omega arith
some_word (BlitToScreen b) = omega arith
some_word (BlitToGmrfb b) = omega arith
some_word (DefineGmr2 region pages) = omega arith
some_word (RemapGmr2 region offset pages entries) = omega arith

pub run-requires-clause-there : goal.run-requires-clause-there
run-requires-clause-there c =
    serves c.args.self.now.machine.kept.limits (state_in c.args.self.now) (command_of c.args.command.now) c.requires.can.whole

pub returns-clause-can : goal.returns-clause-can
returns-clause-can c =
    let few = c.requires.can.few in
    let end = c.requires.end in
    let after = served_after c.args.self.now.machine.kept.limits c.args.self.now.machine c.run.new.self c.args.self.now.pages
    c.run.new.store (command_of c.args.command.now) (Ok (tt {0})) c.requires.can.whole c.requires.well_formed
    c.in_ok-run.ensures.fault c.in_ok-run.ensures.ok tt in
    record {
      few = omega (arith, few, end, some_word (command_of c.args.command.now));
      whole = subst (λ l. IsWholeState l (state_with c.run.new.self c.run.new.store)) (sym after.0) after;
    }
