use Rattle.std.proofs.Common.{◌≡◌, ◌++◌, length}
use Rattle.kql_meaning.specs.Join.{renamed}
use Rattle.kql_meaning.specs.Tables.{names_of}
use Rattle.kql_columns.proofs.ColumnSteps.{and_renamed}
use Rattle.kql_columns.proofs.columns.with_renamed.Given as goal

abbrev pub invariant-columns : goal.invariant-columns
invariant-columns l = and_renamed l.made l.rest ≡ l.left ++ renamed (names_of l.left) l.fn.right

abbrev pub decreases-columns : goal.decreases-columns
decreases-columns l = length l.rest
