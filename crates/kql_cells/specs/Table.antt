-- What contracts see of a table, and when its rows fit.
use Rattle.std.specs.Prelude.{ℕ, List, [], ◌∷◌, map, All}
use Rattle.kql_cells.specs.Seen.{row_at}
use Rattle.kql_cells.specs.Values.{IsOfKind, IsWellFormed}
use Rattle.kql_cells.specs.declared.schema.Column.{Column}
use Rattle.kql_cells.specs.declared.value.Value.{Value}

-- a value of the column's type or null, and well formed
abbrev pub CellFits : Column → Value → Type 0
CellFits c v = IsOfKind c.kind v × IsWellFormed v

-- a row has one value for each column, which fits it
unfoldable pub RowFits : List Column → List Value → Type 0
RowFits [] [] = Unit {0}
RowFits (c ∷ cs) (v ∷ vs) = CellFits c v × RowFits cs vs
RowFits _ _ = ⊥

-- what contracts see of a table: its columns, and its rows as a list of lists
pub record Grid : Type 0 where
  pub columns : List Column
  pub lines : List (List Value)

-- every row fits the columns
abbrev pub IsGrid : Grid → Type 0
IsGrid g = All (RowFits g.columns) g.lines

-- the table of the rows at these places
abbrev pub gathered : Grid → List ℕ → Grid
gathered g places = record { columns = g.columns; lines = map (row_at g.lines) places }
