use Rattle.std.proofs.Common.{◌≡◌, ◌++◌}
use Rattle.kql_values.specs.Grids.{HaveLength}
use Rattle.scan_ops.specs.Runs.{machine_of, width_of}
use Rattle.scan_ops.proofs.EmitFacts.{ends_before}
use Rattle.scan_ops.proofs.emit.emit_ends.Given as goal

-- what the steps so far emit
abbrev pub invariant-each : goal.invariant-each
invariant-each l = record {
  rows : l.emitted ≡ l.fn.emitted ++ ends_before l.plan (machine_of l.states l.begun) l.at;
  width : HaveLength (width_of l.plan l.width) l.emitted;
}
