-- The laws for numbers, and for rows of them.
use Rattle.std.proofs.Common.{◌==◌, ℕ, eqb-true, eq-eqb}
use Rattle.svga_text.proofs.LargestLaws.{TellsEqual, apart, some, whole}
use Rattle.svga_text.proofs.RowLaws.{rows_tell}
use Rattle.svga_text.specs.Pictures.{same_row}
use Rattle.svga_text.proofs.laws.runs_are_largest.Goals as goal

numbers_tell : TellsEqual {A = ℕ} (◌==◌)
numbers_tell = record { equal = eqb-true; same_if = eq-eqb }

pub returns-clause-whole : goal.returns-clause-whole
returns-clause-whole c = whole (◌==◌) numbers_tell

pub returns-clause-some : goal.returns-clause-some
returns-clause-some c = some (◌==◌) numbers_tell

pub returns-clause-apart : goal.returns-clause-apart
returns-clause-apart c = apart (◌==◌) numbers_tell

pub returns-clause-whole_rows : goal.returns-clause-whole_rows
returns-clause-whole_rows c = whole same_row rows_tell

pub returns-clause-some_rows : goal.returns-clause-some_rows
returns-clause-some_rows c = some same_row rows_tell

pub returns-clause-apart_rows : goal.returns-clause-apart_rows
returns-clause-apart_rows c = apart same_row rows_tell
