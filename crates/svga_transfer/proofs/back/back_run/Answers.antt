-- A run's pixels stand one behind another, and their bytes lie on pages that are there.
use Rattle.std.proofs.Common.{refl, FitsSigned, w64, rules, arith}
use Rattle.std.proofs.lemmas.Int.{ints, to_z-of_z}
use Rattle.svga_transfer.proofs.BackPlaces.{first_within, run_there}
use Rattle.svga_transfer.proofs.BackWrites.{run_pixels, run_written}
use Rattle.svga_transfer.proofs.back.back_run.Goals as goal

pub first_byte-from-requires-clause-x : goal.first_byte-from-requires-clause-x
first_byte-from-requires-clause-x g c = omega (arith, ints)

pub first_byte-from-requires-clause-within : goal.first_byte-from-requires-clause-within
first_byte-from-requires-clause-within g c =
    let row = c.ranges.y in
    let column : FitsSigned w64 c.args.run.from = search rules in
    simp to_z-of_z (first_within _ _ _ _ _ c.requires.run c.requires.row.0 c.requires.row.1 _ c.requires.mapped)

pub write_colours-requires-clause-there : goal.write_colours-requires-clause-there
write_colours-requires-clause-there g c =
    let row = c.ranges.y in
    let column : FitsSigned w64 c.args.run.from = search rules in
    let start = simp to_z-of_z at c.first_byte-from.ensures in
    run_there _ _ _ _ _ c.requires.run c.requires.row.0 c.requires.row.1 _ c.requires.mapped _ _ _
    c.requires.there start (run_pixels _ c.args.gmrfb.now _ _ _ _ c.requires.run c.in-Some.ensures.width)

pub returns-in-Some-clause-written : goal.returns-in-Some-clause-written
returns-in-Some-clause-written g c =
    let row = c.ranges.y in
    let column : FitsSigned w64 c.args.run.from = search rules in
    let start = simp to_z-of_z at c.first_byte-from.ensures in
    run_written _ _ _ _ _ _ c.requires.run c.in-Some.ensures.width _ c.in-Some.ensures.row start _ _ _ _
    refl c.write_colours.ensures.written
