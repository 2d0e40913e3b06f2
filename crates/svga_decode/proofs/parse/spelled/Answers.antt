use Rattle.std.proofs.Common.{arith, sym, subst}
use Rattle.svga_cmd.specs.Spelling.{Spells}
use Rattle.svga_decode.proofs.parse.spelled.Goals as goal
use Rattle.svga_model.proofs.GrammarComplete.{complete_spells}

pub returns : goal.returns
returns c = subst (λ d. Spells d c.args.words.now) (sym c.command.ensures)
    (complete_spells c.args.words.now (λ i. omega (arith, c.type_inv.words i)) c.requires)
