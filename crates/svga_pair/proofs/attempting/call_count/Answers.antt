use Rattle.std.proofs.Common.{length, sym, ap, ◌∙◌}
use Rattle.svga_model.specs.ClientActs.{calls_of}
use Rattle.svga_pair.proofs.ActLaws.{lend-length, take-length}
use Rattle.svga_script.specs.Acts.{act_of}
use Rattle.svga_pair.proofs.attempting.call_count.Goals as goal

pub returns-in-Lend : goal.returns-in-Lend
returns-in-Lend c =
    sym (ap (λ a. length (calls_of (act_of a))) c.in-Lend.is ∙ lend-length c.in-Lend.first c.in-Lend.count)

pub returns-in-Take : goal.returns-in-Take
returns-in-Take c =
    sym (ap (λ a. length (calls_of (act_of a))) c.in-Take.is ∙ take-length c.in-Take.first c.in-Take.count)
