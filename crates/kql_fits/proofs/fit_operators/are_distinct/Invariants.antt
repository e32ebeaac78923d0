use Rattle.std.proofs.Common.{◌≡◌, length}
use Rattle.kql_meaning.specs.FittingOperators.{are_distinct}
use Rattle.kql_fits.proofs.fit_operators.are_distinct.Given as goal

abbrev pub invariant-names : goal.invariant-names
invariant-names l = are_distinct l.left ≡ are_distinct l.fn.names

abbrev pub decreases-names : goal.decreases-names
decreases-names l = length l.left
