-- What derived tables ask of the tables that they are made of.
use Rattle.std.specs.Prelude.{ℕ, Bool, List, ◌++◌, Contains, IsTrue, bytes_eq, find, is_some, map}
use Rattle.kql_cells.specs.Catalogues.{Named, table_name}
use Rattle.kql_cells.specs.Named.{HasDistinctNames, column_name}
use Rattle.kql_cells.specs.Table.{Grid}
use Rattle.kql_cells.specs.declared.schema.Column.{Column}
use Rattle.kql_meaning.specs.Sources.{named_table}
use Rattle.pattern_lift.specs.Derived.{added_columns}
use Rattle.pattern_lift.specs.declared.calls.Derived.{Derived}
use Rattle.pattern_lift.specs.declared.calls.PatternCall.{PatternCall}

-- Some column has this name.
abbrev pub HasColumn : List Column → List ℕ → Type 0
HasColumn columns name = Contains (map column_name columns) name

-- Of a table: each call reads a column of it, and the added columns have names of their own.
pub record IsReady (marks : List ℕ) (t : Grid) (calls : List PatternCall) : Type 0 where
  pub there : (c : PatternCall) → Contains calls c → HasColumn t.columns c.column
  pub names : HasDistinctNames column_name (t.columns ++ added_columns marks calls)

-- A table of this name is there.
abbrev pub is_there : List Named → List ℕ → Bool
is_there tables name = is_some (find (λ n. bytes_eq (table_name n) name) tables)

-- Of a catalogue: it has the table.
pub record IsReadyIn (marks : List ℕ) (tables : List Named) (d : Derived) : Type 0 where
  pub there : IsTrue (is_there tables d.table)
  pub table : IsReady marks (named_table tables d.table) d.calls
