use Rattle.std.proofs.Common.{◌≡◌, take}
use Rattle.std.specs.Prelude.{fold}
use Rattle.bind_query.specs.Scan.{declared_cell}
use Rattle.bind_query.specs.ScanRecords.{with_cell}
use Rattle.bind_query.proofs.scan_records.with_declared.Given as goal

abbrev pub invariant-loop-d : goal.invariant-loop-d
invariant-loop-d l = l.cells ≡ fold (λ r d. with_cell r (declared_cell d)) l.fn.start (take l.d-index l.declared)
