use Rattle.std.proofs.Common.{◌≡◌, length}
use Rattle.std.specs.Prelude.{slice_range}
use Rattle.kql_values.specs.Grids.{HaveLength}
use Rattle.scan_ops.specs.Runs.{width_of}
use Rattle.scan_ops.specs.Scans.{scans_of}
use Rattle.scan_ops.proofs.keyed.keyed_rows.Given as goal

-- the scans of the lists so far
abbrev pub invariant-each : goal.invariant-each
invariant-each l = record {
  rows : l.rows ≡ scans_of l.s l.t (slice_range l.lists l.from l.number);
  width : HaveLength (width_of l.s (length l.t.columns)) l.rows;
}
