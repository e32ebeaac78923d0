use Rattle.std.proofs.Common.{◌≡◌, ◌≤◌, length}
use Rattle.kql_meaning.specs.Scan.{row_after}
use Rattle.scan_ops.specs.Runs.{IsRun, turn_of}
use Rattle.scan_ops.proofs.RowFacts.{still}
use Rattle.scan_ops.proofs.run.take_row.Given as goal

-- what the steps that are left make of it
abbrev pub invariant-each : goal.invariant-each
invariant-each l = record {
  run : IsRun l.plan l.t.columns l.run;
  left : l.left ≤ length l.steps;
  turn : still l.plan l.t l.i l.left (turn_of l.run) ≡ row_after l.plan l.t (turn_of l.fn.run) l.i;
}

abbrev pub decreases-each : goal.decreases-each
decreases-each l = l.left
