use Rattle.std.proofs.Common.{Some, None}
use Rattle.std.specs.FinMap as map
use Rattle.svga_text.proofs.RowLaws.{row_is}
use Rattle.svga_text.proofs.picture.row_of.Goals as goal

pub returns-in-None-clause-row : goal.returns-in-None-clause-row
returns-in-None-clause-row c = row_is (map.get c.args.screens.now.screens c.args.id) c.args.y None
    (c.in-None.ensures {u = tt}).row

pub returns-in-Some-clause-row : goal.returns-in-Some-clause-row
returns-in-Some-clause-row c = row_is (map.get c.args.screens.now.screens c.args.id) c.args.y (Some c.in-Some.row.now)
    (c.in-Some.ensures {u = tt}).row
