-- Rows with declared columns.
use Rattle.std.specs.Prelude.{List, [], ◌∷◌, ◌++◌, map}
use Rattle.kql_cells.specs.Table.{Grid}
use Rattle.kql_cells.specs.declared.schema.Column.{Column}
use Rattle.kql_bound.specs.declared.parts.Decl.{Decl}
use Rattle.kql_meaning.specs.Scan.{defaults_of}

-- The column that is declared, and rows with one more.
abbrev pub column_declared : Decl → Column
column_declared d = record { name = d.name; kind = d.default.kind }

unfoldable pub with_column : Decl → Grid → Grid
with_column d t = record { columns = t.columns ++ column_declared d ∷ []; lines = map (λ line. line ++ d.default.value ∷ []) t.lines }

-- Rows with several.
unfoldable pub with_columns : List Decl → Grid → Grid
with_columns ds t = record { columns = t.columns ++ map column_declared ds; lines = map (λ line. line ++ defaults_of ds) t.lines }
