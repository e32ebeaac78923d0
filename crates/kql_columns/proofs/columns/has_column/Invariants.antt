use Rattle.std.proofs.Common.{◌≡◌, length}
use Rattle.kql_meaning.specs.Tables.{has_column}
use Rattle.kql_columns.proofs.columns.has_column.Given as goal

abbrev pub invariant-columns : goal.invariant-columns
invariant-columns l = has_column l.name l.left ≡ has_column l.fn.name l.fn.columns

abbrev pub decreases-columns : goal.decreases-columns
decreases-columns l = length l.left
