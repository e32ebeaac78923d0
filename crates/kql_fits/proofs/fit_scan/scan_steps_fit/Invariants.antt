use Rattle.std.proofs.Common.{◌≡◌, length}
use Rattle.std.specs.List.{list_all}
use Rattle.kql_meaning.specs.FittingOperators.{scan_step_fits}
use Rattle.kql_fits.proofs.fit_scan.scan_steps_fit.Given as goal

abbrev pub invariant-steps : goal.invariant-steps
invariant-steps l = list_all (scan_step_fits l.declared l.scope) l.left ≡ list_all (scan_step_fits l.fn.declared l.fn.scope) l.fn.steps

abbrev pub decreases-steps : goal.decreases-steps
decreases-steps l = length l.left
