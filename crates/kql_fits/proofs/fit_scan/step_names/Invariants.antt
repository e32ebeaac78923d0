use Rattle.std.proofs.Common.{◌≡◌, take}
use Rattle.kql_meaning.specs.FittingOperators.{step_names}
use Rattle.kql_fits.proofs.fit_scan.step_names.Given as goal

abbrev pub invariant-loop-step : goal.invariant-loop-step
invariant-loop-step l = l.names ≡ step_names (take l.step-index l.steps)
