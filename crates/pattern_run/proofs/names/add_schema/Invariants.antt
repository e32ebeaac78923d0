use Rattle.std.proofs.Common.{◌≡◌, ◌++◌, ◌∷◌, map, take}
use Rattle.kql_cells.specs.declared.schema.Column.{Column}
use Rattle.pattern_run.proofs.names.add_schema.Given as goal

abbrev pub invariant-loop-column : goal.invariant-loop-column
invariant-loop-column l = l.names ≡ l.fn.names ++ (l.table.name ∷ map (λ (c : Column). c.name) (take l.column-index l.table.schema))
