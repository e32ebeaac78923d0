use Rattle.std.proofs.Common.{◌≡◌, []}
use Rattle.std.specs.Prelude.{fold}
use Rattle.std.specs.List.{range_with_len}
use Rattle.kql_meaning.specs.Scan.{machine_at_start, row_after}
use Rattle.scan_ops.specs.Runs.{IsRun, turn_of}
use Rattle.scan_ops.proofs.scans.emitted_rows.Given as goal

-- the turns so far
abbrev pub invariant-each : goal.invariant-each
invariant-each l = record {
  run : IsRun l.s l.t.columns l.run;
  turn : turn_of l.run ≡ fold (row_after l.s l.t) (record { machine = machine_at_start l.s; emitted = [] }) (range_with_len 0 l.i);
}
