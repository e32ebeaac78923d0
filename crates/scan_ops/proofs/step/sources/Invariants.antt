use Rattle.std.proofs.Common.{◌≡◌, map, take}
use Rattle.scan_ops.specs.Steps.{source_at}
use Rattle.scan_ops.proofs.step.sources.Given as goal

-- where the columns so far come from
abbrev pub invariant-each : goal.invariant-each
invariant-each l = l.sources.items ≡ map (source_at l.sets l.schema) (take l.column-index l.columns)
