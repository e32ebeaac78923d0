use Rattle.std.proofs.Common.{◌≡◌, take}
use Rattle.kql_meaning.specs.Scan.{after}
use Rattle.scan_ops.specs.Runs.{IsRun, turn_of}
use Rattle.scan_ops.specs.Scans.{turn_at}
use Rattle.scan_ops.proofs.scans.scan_at.Given as goal

-- the turns so far, behind the rows before
abbrev pub invariant-each : goal.invariant-each
invariant-each l = record {
  run : IsRun l.s l.t.columns l.run;
  turn : turn_of l.run ≡ after l.fn.out (turn_at l.s l.t (take l.place-index l.places));
}
