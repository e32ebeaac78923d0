use Rattle.std.proofs.Common.{◌≡◌, length}
use Rattle.kql_meaning.specs.FittingOperators.{items_fit}
use Rattle.kql_fits.proofs.fit_operators.items_fit.Given as goal

abbrev pub invariant-items : goal.invariant-items
invariant-items l = items_fit l.left l.columns l.at ≡ items_fit l.fn.items l.fn.columns l.fn.at

abbrev pub decreases-items : goal.decreases-items
decreases-items l = length l.left
