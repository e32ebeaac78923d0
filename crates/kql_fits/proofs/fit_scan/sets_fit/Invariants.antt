use Rattle.std.proofs.Common.{◌≡◌, length}
use Rattle.std.specs.List.{list_all}
use Rattle.kql_meaning.specs.FittingOperators.{set_fits}
use Rattle.kql_fits.proofs.fit_scan.sets_fit.Given as goal

abbrev pub invariant-sets : goal.invariant-sets
invariant-sets l = list_all (set_fits l.declared l.scope) l.left ≡ list_all (set_fits l.fn.declared l.fn.scope) l.fn.sets

abbrev pub decreases-sets : goal.decreases-sets
decreases-sets l = length l.left
