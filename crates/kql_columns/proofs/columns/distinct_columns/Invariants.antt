use Rattle.std.proofs.Common.{◌≡◌, length}
use Rattle.kql_meaning.specs.Tables.{distinct_by}
use Rattle.kql_meaning.specs.Union.{same_name}
use Rattle.kql_columns.proofs.ColumnSteps.{and_distinct}
use Rattle.kql_columns.proofs.columns.distinct_columns.Given as goal

abbrev pub invariant-columns : goal.invariant-columns
invariant-columns l = and_distinct l.made l.rest ≡ distinct_by same_name l.fn.columns

abbrev pub decreases-columns : goal.decreases-columns
decreases-columns l = length l.rest
