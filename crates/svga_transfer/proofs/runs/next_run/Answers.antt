use Rattle.std.proofs.lemmas.Int.{to_z-of_z}
use Rattle.svga_model.specs.Screens.{definitions_of}
use Rattle.svga_transfer.proofs.RunLists.{found_of_all, none_of_all}
use Rattle.svga_transfer.proofs.runs.next_run.Goals as goal

pub returns-clause-found : goal.returns-clause-found
returns-clause-found c =
    let column = c.ranges.x in
    let row = c.ranges.y in
    found_of_all _ _ c.loop-id.id _ _ _ c.loop-id-test.false c.loop-id.auto.id-end c.requires.x
    (simp to_z-of_z at c.loop-id.invariant)

pub returns-clause-none : goal.returns-clause-none
returns-clause-none c =
    let column = c.ranges.x in
    let row = c.ranges.y in
    none_of_all (definitions_of c.args.screens.now.screens) c.args.blit.now c.loop-id.id c.args.x c.args.y _
    c.loop-id-test.false c.loop-id.auto.id-end (simp to_z-of_z at c.loop-id.invariant)
