-- The commands so far are taken, and one stands at the next word, or none.
use Rattle.std.proofs.Common.{◌-◌, List}
use Rattle.svga_cmd.specs.declared.command.Command.{Command}
use Rattle.svga_decode.proofs.VisitKept.{IsVisiting}
use Rattle.svga_decode.proofs.visiting.each_command.Given as goal

abbrev pub invariant-loop-first : goal.invariant-loop-first
invariant-loop-first g l = (cs : List Command) × IsVisiting g.V.Visitor.takes g.V.Visitor.can_take (g.W.Words.words l.words) l.initial.visitor l.initial.on l.first cs l.visitor l.on

abbrev pub decreases-loop-first : goal.decreases-loop-first
decreases-loop-first g l = l.count - l.first
