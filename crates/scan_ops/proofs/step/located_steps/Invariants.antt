use Rattle.std.proofs.Common.{◌≡◌, map, take}
use Rattle.scan_ops.specs.Steps.{placed_step}
use Rattle.scan_ops.proofs.step.located_steps.Given as goal

-- the steps so far
abbrev pub invariant-each : goal.invariant-each
invariant-each l = l.located.items ≡ map (placed_step l.schema) (take l.step-index l.steps)
