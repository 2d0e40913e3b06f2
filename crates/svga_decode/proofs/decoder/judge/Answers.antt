use Rattle.std.proofs.Common.{◌-◌, length, arith, sym, ◌∙◌}
use Rattle.svga_cmd.specs.Spelled.{command_in}
use Rattle.svga_decode.proofs.decoder.judge.Goals as goal
use Rattle.svga_model.proofs.GrammarBegun.{part_begun}
use Rattle.svga_model.proofs.GrammarComplete.{complete_spells}
use Rattle.svga_model.proofs.GrammarGrown.{grown_complete, grown_part}
use Rattle.svga_model.proofs.GrammarSpelled.{refused_begins_none}

pub returns-in-Some-clause-answer : goal.returns-in-Some-clause-answer
returns-in-Some-clause-answer c =
    let is = sym (c.in-Some.ensures {u = tt}) in
    (refused_begins_none (length c.args.words.now - 1) c.args.words.now _ (omega arith) is, is)

pub returns-then-words-length_of-clause-kept : goal.returns-then-words-length_of-clause-kept
returns-then-words-length_of-clause-kept c =
    grown_complete (length c.args.words.now - 1) c.args.words.now
    (record { count = omega arith; part = c.requires.part; taken = sym (c.in-None.ensures {u = tt}) })
    (c.if-words-length_of.true ∙ c.length_of.ensures)

pub returns-then-words-length_of-clause-answer : goal.returns-then-words-length_of-clause-answer
returns-then-words-length_of-clause-answer c =
    (command_in c.args.words.now, complete_spells c.args.words.now (λ i. omega (arith, c.type_inv.words i)) (returns-then-words-length_of-clause-kept c))

pub returns-else-words-length_of-clause-kept : goal.returns-else-words-length_of-clause-kept
returns-else-words-length_of-clause-kept c =
    grown_part (length c.args.words.now - 1) c.args.words.now
    (record { count = omega arith; part = c.requires.part; taken = sym (c.in-None.ensures {u = tt}) })
    (λ e. c.if-words-length_of.false (e ∙ sym c.length_of.ensures))

pub returns-else-words-length_of-clause-answer : goal.returns-else-words-length_of-clause-answer
returns-else-words-length_of-clause-answer c =
    part_begun c.args.words.now (λ i. omega (arith, c.type_inv.words i)) (returns-else-words-length_of-clause-kept c)
