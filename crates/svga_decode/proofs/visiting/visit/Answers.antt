use Rattle.std.proofs.Common.{subst}
use Rattle.std.specs.Prelude.{OnOk}
use Rattle.svga_cmd.specs.Spelling.{Spells}
use Rattle.svga_cmd.specs.declared.command.Command.{Command}
use Rattle.svga_decode.proofs.visiting.visit.Goals as goal

pub returns-in-Some-clause-taken : goal.returns-in-Some-clause-taken
returns-in-Some-clause-taken g c =
    subst (λ t. OnOk c.visit_list.result ((x : Command) × Spells x t × g.V.Visitor.takes c.args.visitor.now c.args.on.now c.args.first x c.visit_list.new.visitor c.visit_list.new.on))
    (c.in-Some.ensures {u = tt}).lent c.visit_list.ensures.taken

pub returns-in-None-clause-taken : goal.returns-in-None-clause-taken
returns-in-None-clause-taken g c =
    subst (λ t. OnOk c.visit_list-in-None.result ((x : Command) × Spells x t × g.V.Visitor.takes c.args.visitor.now c.args.on.now c.args.first x c.visit_list-in-None.new.visitor c.visit_list-in-None.new.on))
    c.gather.ensures c.visit_list-in-None.ensures.taken
