use Rattle.std.proofs.Common.{◌≡◌, map, take}
use Rattle.kql_scalar.specs.Held.{held}
use Rattle.summarize_op.proofs.groups.lent.Given as goal

abbrev pub invariant-loop-column : goal.invariant-loop-column
invariant-loop-column l = map (λ c. c.now) l.lent.items ≡ map held (take l.column-index l.columns)
