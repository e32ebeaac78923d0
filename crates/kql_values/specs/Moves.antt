-- What the moves of a table give.
use Rattle.std.specs.Prelude.{ℕ, ◌<◌, List, [], ◌∷◌, ◌++◌, map, slice_index_or, Option, Some, None}
use Rattle.kql_cells.specs.Keys.{absent}
use Rattle.kql_cells.specs.Seen.{row_at, value_at}
use Rattle.kql_cells.specs.Table.{Grid}
use Rattle.kql_cells.specs.declared.schema.Column.{Column}
use Rattle.kql_cells.specs.declared.value.Kind.{Kind}
use Rattle.kql_cells.specs.declared.value.Kind.TheVariants as kind
use Rattle.kql_cells.specs.declared.value.Value.{Value}

-- the place is below a count, or none
abbrev pub IsWithin : ℕ → Option ℕ → Type 0
IsWithin count None = Unit {0}
IsWithin count (Some i) = i < count

-- the value at a place, or another where there is none
abbrev pub value_or : Value → List Value → Option ℕ → Value
value_or other values None = other
value_or other values (Some i) = value_at values i

-- a row of absent cells
abbrev pub absent_row : List Column → List Value
absent_row columns = map (λ c. absent c.kind) columns

-- the row at a place, or absent cells where there is none
abbrev pub row_or_absent : Grid → Option ℕ → List Value
row_or_absent g None = absent_row g.columns
row_or_absent g (Some i) = row_at g.lines i

-- the table of the rows at these places
abbrev pub gathered_or_absent : Grid → List (Option ℕ) → Grid
gathered_or_absent g places = record { columns = g.columns; lines = map (row_or_absent g) places }

-- the values of a row at these places
abbrev pub picked : List ℕ → List Value → List Value
picked places row = map (value_at row) places

-- what stands for a column that is not there
abbrev pub no_column : Column
no_column = record { name = []; kind = kind.Dynamic }

abbrev pub column_of : List Column → ℕ → Column
column_of columns j = slice_index_or columns j no_column

-- the columns at these places, and of each row the values there
abbrev pub selected : Grid → List ℕ → Grid
selected g places = record { columns = map (column_of g.columns) places; lines = map (picked places) g.lines }

abbrev pub kinds_of : List Column → List Kind
kinds_of columns = map (λ c. c.kind) columns

-- each row followed by the row at its place of others
unfoldable pub beside : {X : Type 0} → List (List X) → List (List X) → List (List X)
beside [] others = []
beside (row ∷ rows) [] = []
beside (row ∷ rows) (other ∷ others) = (row ++ other) ∷ beside rows others

-- each row followed by the value at its place
abbrev pub widened : List (List Value) → List Value → List (List Value)
widened rows values = beside rows (map (λ v. v ∷ []) values)

-- the columns of two tables, and their rows side by side
abbrev pub side_by_side : Grid → Grid → Grid
side_by_side g h = record { columns = g.columns ++ h.columns; lines = beside g.lines h.lines }
