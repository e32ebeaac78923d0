use Rattle.std.proofs.Common.{◌≡◌, filter, take}
use Rattle.std.specs.List.{list_all}
use Rattle.kql_cells.specs.declared.schema.Column.{Column}
use Rattle.kql_meaning.specs.Tables.{has_column}
use Rattle.kql_columns.proofs.columns.common_columns.Given as goal

abbrev pub invariant-loop-column : goal.invariant-loop-column
invariant-loop-column l = l.kept ≡ filter (λ (c : Column). list_all (has_column c.name) l.others) (take l.column-index l.first)
