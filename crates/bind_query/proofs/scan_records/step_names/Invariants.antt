use Rattle.std.proofs.Common.{◌≡◌, map, take}
use Rattle.bind_query.specs.Scan.{step_name}
use Rattle.bind_query.proofs.scan_records.step_names.Given as goal

abbrev pub invariant-loop-s : goal.invariant-loop-s
invariant-loop-s l = l.names ≡ map step_name (take l.s-index l.steps)
