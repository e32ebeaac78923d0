use Rattle.std.proofs.Common.{◌≡◌, length}
use Rattle.kql_meaning.specs.FittingOperators.{sort_fits}
use Rattle.kql_fits.proofs.fit_operators.sort_fits.Given as goal

abbrev pub invariant-keys : goal.invariant-keys
invariant-keys l = sort_fits l.left l.columns ≡ sort_fits l.fn.keys l.fn.columns

abbrev pub decreases-keys : goal.decreases-keys
decreases-keys l = length l.left
