use Rattle.std.proofs.Common.{arith, sym, ◌∙◌}
use Rattle.svga_text.proofs.EntryLaws.{within, wide_numbers_at}
use Rattle.svga_text.proofs.entry.wide_at.Goals as goal

pub overflow_mul-i : goal.overflow_mul-i
overflow_mul-i c = omega (arith, within c.args.words.now c.args.i c.requires)

pub offset_bounds-words-i : goal.offset_bounds-words-i
offset_bounds-words-i c = omega (arith, within c.args.words.now c.args.i c.requires)

pub bounds-words-i : goal.bounds-words-i
bounds-words-i c = omega (arith, within c.args.words.now c.args.i c.requires)

pub overflow_mul-i-2 : goal.overflow_mul-i-2
overflow_mul-i-2 c = omega (arith, within c.args.words.now c.args.i c.requires)

pub overflow_add-i : goal.overflow_add-i
overflow_add-i c = omega (arith, within c.args.words.now c.args.i c.requires)

pub offset_bounds-words-i-2 : goal.offset_bounds-words-i-2
offset_bounds-words-i-2 c = omega (arith, within c.args.words.now c.args.i c.requires)

pub bounds-words-i-2 : goal.bounds-words-i-2
bounds-words-i-2 c = omega (arith, within c.args.words.now c.args.i c.requires)

pub returns : goal.returns
returns c = c.wide_number.ensures ∙ sym (wide_numbers_at c.args.words.now c.args.i c.requires)
