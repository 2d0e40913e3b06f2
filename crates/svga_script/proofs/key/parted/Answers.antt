use Rattle.std.proofs.Common.{◌+◌, ap, sym, ◌∙◌, Some}
use Rattle.std.proofs.lemmas.List.{take_rest}
use Rattle.std.specs.Option.{option_copied}
use Rattle.svga_script.proofs.KeyLaws.{IsPlusAt, before_first, behind_none, behind_some}
use Rattle.svga_script.proofs.key.parted.Goals as goal
use Rattle.svga_script.proofs.key.parted.Goals.{then-end-letters, else-end-letters}

pub returns-clause-first : goal.returns-clause-first
returns-clause-first c =
    let e = c.plus_at-end.ensures in
    before_first c.args.letters.now c.plus_at-end.result (record { within = e.high; others = e.letters; there = e.plus })

pub returns-clause-count : goal.returns-clause-count
returns-clause-count c =
    let e = c.plus_at-end.ensures in
    let at : IsPlusAt c.args.letters.now c.plus_at-end.result = record { within = e.high; others = e.letters; there = e.plus } in
    elim c.if-end-letters.branch [
      | then-end-letters w ↦ ap option_copied w.count-is ∙ ap Some (take_rest c.args.letters.now (c.plus_at-end.result + 1)) ∙ sym (behind_some c.args.letters.now c.plus_at-end.result at w.if-end-letters.true)
      | else-end-letters w ↦ ap option_copied w.count-is ∙ sym (behind_none c.args.letters.now c.plus_at-end.result at w.if-end-letters.false)
    ]
