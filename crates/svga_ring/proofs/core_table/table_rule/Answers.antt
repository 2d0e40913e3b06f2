-- The rule of the table, by its lemmas.
use Rattle.svga_ring.proofs.Table.Rule.{table_joins, table_opens, table_splits}
use Rattle.svga_ring.proofs.core_table.table_rule.Goals as goal

pub returns-clause-opens : goal.returns-clause-opens
returns-clause-opens c = table_opens

pub returns-clause-splits : goal.returns-clause-splits
returns-clause-splits c = table_splits

pub returns-clause-joins : goal.returns-clause-joins
returns-clause-joins c = table_joins
