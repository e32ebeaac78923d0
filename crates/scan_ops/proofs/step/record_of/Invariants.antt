use Rattle.std.proofs.Common.{◌≡◌, map, take}
use Rattle.kql_scalar_fns.specs.Arguments.{AreWellFormed}
use Rattle.scan_ops.specs.Steps.{sourced}
use Rattle.scan_ops.proofs.step.record_of.Given as goal

-- what the sources so far give
abbrev pub invariant-each : goal.invariant-each
invariant-each l = record {
  values : l.line ≡ map (sourced l.t l.i l.s) (take l.source-index l.sources);
  form : AreWellFormed l.line;
}
