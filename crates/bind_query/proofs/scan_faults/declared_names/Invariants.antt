use Rattle.std.proofs.Common.{◌≡◌, take}
use Rattle.bind_query.specs.Scan.{declared_names}
use Rattle.bind_query.proofs.scan_faults.declared_names.Given as goal

abbrev pub invariant-loop-d : goal.invariant-loop-d
invariant-loop-d l = l.names ≡ declared_names (take l.d-index l.declared)
