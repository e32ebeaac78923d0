use Rattle.std.proofs.Common.{◌≡◌, length}
use Rattle.kql_meaning.specs.FittingOperators.{are_distinct}
use Rattle.kql_meaning.specs.Tables.{names_of}
use Rattle.plan_neighbours.proofs.right.are_distinct.Given as goal

abbrev pub invariant-columns : goal.invariant-columns
invariant-columns l = are_distinct (names_of l.left) ≡ are_distinct (names_of l.fn.columns)

abbrev pub decreases-columns : goal.decreases-columns
decreases-columns l = length l.left
