-- The record of a scan's step as two lists, as a scope holds them: columns, and what an absent record gives for each.
use Rattle.std.specs.Prelude.{ℕ, List, [], ◌∷◌, ◌++◌, if◌then◌else◌}
use Rattle.kql_meaning.specs.Tables.{has_column}
use Rattle.bind_expr.specs.declared.scope.Scope.{Scope}
use Rattle.bind_query.specs.declared.scan_records.RecordCells.{RecordCells}
use Rattle.bind_query.specs.Scan.{RecordCell, cell_columns, cell_defaults}

unfoldable pub two_lists : List RecordCell → RecordCells
two_lists cells = record { columns = cell_columns cells; defaults = cell_defaults cells }

-- A cell more, where there is none of its name.
unfoldable pub with_cell : RecordCells → RecordCell → RecordCells
with_cell r c = if has_column c.0.name r.columns then r else record { columns = r.columns ++ c.0 ∷ []; defaults = r.defaults ++ c.1 ∷ [] }

-- A scope in which a name alone is a column of these, and a step's name stands before one.
abbrev pub with_lists : List (List ℕ) → RecordCells → Scope → Scope
with_lists steps r scope = record scope {
  schema = r.columns;
  steps = record { names = steps; columns = r.columns; defaults = r.defaults };
}
