use Rattle.std.proofs.Common.{◌≡◌, length}
use Rattle.std.specs.List.{list_all}
use Rattle.kql_meaning.specs.FittingExpressions.{is_plain_column}
use Rattle.kql_fits.proofs.scope.are_plain_columns.Given as goal

abbrev pub invariant-columns : goal.invariant-columns
invariant-columns l = list_all (is_plain_column l.columns) l.left ≡ list_all (is_plain_column l.fn.columns) l.fn.es

abbrev pub decreases-columns : goal.decreases-columns
decreases-columns l = length l.left
