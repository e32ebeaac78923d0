-- What a cell shows, and where a cell stands in a list of rows.
use Rattle.std.specs.Prelude.{ℕ, List, [], slice_index_or}
use Rattle.kql_cells.specs.declared.value.Value.{Value}
use Rattle.kql_cells.specs.declared.value.Value.TheVariants as val
use Rattle.kql_cells.specs.declared.cell.CellRef.{CellRef}
use Rattle.kql_cells.specs.declared.cell.CellRef.TheVariants as cell

-- the value that a cell shows
abbrev pub seen : CellRef → Value
seen cell.Null = val.Null
seen (cell.Bool b) = val.Bool b
seen (cell.Long n) = val.Long n
seen (cell.Text t) = val.Text t.now
seen (cell.Moment n) = val.Moment n
seen (cell.Span n) = val.Span n
seen (cell.Dynamic d) = val.Dynamic d.now

-- a row of a list of rows
abbrev pub row_at : List (List Value) → ℕ → List Value
row_at rows i = slice_index_or rows i []

-- a cell of a list of rows
abbrev pub cell_at : List (List Value) → ℕ → ℕ → Value
cell_at rows i j = slice_index_or (row_at rows i) j val.Null

-- a value of a list of values
abbrev pub value_at : List Value → ℕ → Value
value_at values i = slice_index_or values i val.Null
