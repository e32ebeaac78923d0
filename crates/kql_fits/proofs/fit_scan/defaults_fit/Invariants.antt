use Rattle.std.proofs.Common.{◌≡◌, length}
use Rattle.kql_meaning.specs.FittingOperators.{defaults_fit}
use Rattle.kql_fits.proofs.fit_scan.defaults_fit.Given as goal

abbrev pub invariant-declared : goal.invariant-declared
invariant-declared l = defaults_fit l.left ≡ defaults_fit l.fn.declared

abbrev pub decreases-declared : goal.decreases-declared
decreases-declared l = length l.left
