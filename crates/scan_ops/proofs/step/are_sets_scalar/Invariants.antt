use Rattle.std.proofs.Common.{take}
use Rattle.scan_ops.specs.Steps.{AreSetsScalar}
use Rattle.scan_ops.proofs.step.are_sets_scalar.Given as goal

-- the assignments so far are
abbrev pub invariant-each : goal.invariant-each
invariant-each l = AreSetsScalar (take l.set-index l.sets)
