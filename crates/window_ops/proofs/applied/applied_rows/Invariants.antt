use Rattle.std.proofs.Common.{◌≡◌}
use Rattle.kql_scalar_fns.specs.Arguments.{AreWellFormed}
use Rattle.window_ops.specs.Columns.{applied_down}
use Rattle.window_ops.proofs.applied.applied_rows.Given as goal

-- the values so far
abbrev pub invariant-rows : goal.invariant-rows
invariant-rows l = record {
  made : l.values ≡ applied_down l.f l.i l.args;
  form : AreWellFormed l.values;
}
