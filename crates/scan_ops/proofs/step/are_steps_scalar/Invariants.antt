use Rattle.std.proofs.Common.{take}
use Rattle.scan_ops.specs.Steps.{AreStepsScalar}
use Rattle.scan_ops.proofs.step.are_steps_scalar.Given as goal

-- the steps so far are
abbrev pub invariant-each : goal.invariant-each
invariant-each l = AreStepsScalar (take l.step-index l.steps)
