use Rattle.std.proofs.Common.{◌≡◌, ◌++◌, take, drop, map}
use Rattle.kql_values.proofs.vectors.truncate_each.Given as goal

abbrev pub invariant-loop-column : goal.invariant-loop-column
invariant-loop-column l = l.column-items ≡ map (take l.count) (take l.column-index l.fn.columns.items) ++ drop l.column-index l.fn.columns.items
