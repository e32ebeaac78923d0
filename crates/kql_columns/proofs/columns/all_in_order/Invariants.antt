use Rattle.std.proofs.Common.{◌≡◌, length}
use Rattle.kql_meaning.specs.Union.{all_in_order}
use Rattle.kql_columns.proofs.ColumnSteps.{and_tables}
use Rattle.kql_columns.proofs.columns.all_in_order.Given as goal

abbrev pub invariant-tables : goal.invariant-tables
invariant-tables l = and_tables l.all l.left ≡ all_in_order l.fn.tables

abbrev pub decreases-tables : goal.decreases-tables
decreases-tables l = length l.left
