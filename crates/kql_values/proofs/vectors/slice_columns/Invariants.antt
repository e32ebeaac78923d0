use Rattle.std.proofs.Common.{◌≡◌, ◌-◌, take, drop, map}
use Rattle.kql_values.proofs.vectors.slice_columns.Given as goal

abbrev pub invariant-loop-column : goal.invariant-loop-column
invariant-loop-column l = l.parts.items ≡ map (λ c. take (l.to - l.from) (drop l.from c)) (take l.column-index l.columns.items)
