-- A derived table, column by column: the table, and behind its columns what each call answers.
use Rattle.std.specs.Prelude.{◌≡◌, ◌<◌, ℕ, List, [], ◌∷◌, ◌++◌, Some, length, map}
use Rattle.kql_cells.specs.Named.{column_name, place_of}
use Rattle.kql_cells.specs.Seen.{row_at}
use Rattle.kql_cells.specs.Table.{Grid}
use Rattle.kql_cells.specs.declared.schema.Column.{Column}
use Rattle.kql_cells.specs.declared.value.Value.{Value}
use Rattle.kql_functions.specs.Kinds.{pattern_kind}
use Rattle.kql_values.specs.Grids.{column_at}
use Rattle.kql_values.specs.Moves.{widened}
use Rattle.pattern_lift.specs.declared.calls.PatternCall.{PatternCall}
use Rattle.pattern_lift.specs.Derived.{name_of_call}
use Rattle.pattern_laws.specs.Meaning.{Told, answer_to}
use Rattle.pattern_laws.specs.Tables.{derived_table}

-- The column of a call.
abbrev pub column_of_call : List ℕ → PatternCall → Column
column_of_call marks c = record { name = name_of_call marks c; kind = pattern_kind c.func.group }

-- A table with one column more, which has these values.
abbrev pub with_column : Grid → Column → List Value → Grid
with_column t c values = record { columns = t.columns ++ c ∷ []; lines = widened t.lines values }

-- Without calls it is the table.
abbrev pub NoneIsAdded : Type 0
NoneIsAdded = (told : Told) (marks : List ℕ) (t : Grid) → derived_table told marks [] t ≡ t

-- With one call more it has one column more: what is told of each value of the column that the call reads.
abbrev pub OneIsAdded : Type 0
OneIsAdded = (told : Told) (marks : List ℕ) (cs : List PatternCall) (c : PatternCall) (t : Grid) (j : ℕ) (values : List Value) → place_of column_name c.column t.columns ≡ Some j → j < length t.columns → ((i : ℕ) → i < length t.lines → length (row_at t.lines i) ≡ length t.columns) → values ≡ map (answer_to told c.func c.pattern) (column_at t.lines j) → with_column (derived_table told marks cs t) (column_of_call marks c) values ≡ derived_table told marks (cs ++ c ∷ []) t
