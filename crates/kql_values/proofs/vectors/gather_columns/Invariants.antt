use Rattle.std.proofs.Common.{◌≡◌, take, map}
use Rattle.kql_cells.specs.Seen.{value_at}
use Rattle.kql_values.proofs.vectors.gather_columns.Given as goal

abbrev pub invariant-loop-column : goal.invariant-loop-column
invariant-loop-column l = l.gathered.items ≡ map (λ c. map (value_at c) l.places) (take l.column-index l.columns.items)
