-- A table that grows cell by cell.
use Rattle.std.specs.Prelude.{◌≡◌, ◌≤◌, ◌<◌, ◌+◌, ◌^◌, ◌++◌, ◌∷◌, ℕ, List, [], All, IsSomeAnd, drop, length, slice_get, take}
use Rattle.kql_cells.specs.Table.{CellFits, Grid, RowFits}
use Rattle.kql_cells.specs.declared.schema.Column.{Column}
use Rattle.kql_cells.specs.declared.value.Value.{Value}
use Rattle.kql_values.specs.Grids.{HaveLength, row_of, rows_of}

-- the table of the whole rows, and the cells of the row that is open
pub record Growing : Type 0 where
  pub grid : Grid
  pub row : List Value

-- no row, and no cell
abbrev pub started : List Column → Growing
started columns = record { grid = record { columns = columns; lines = [] }; row = [] }

-- there is a column for one cell more, which the value fits
abbrev pub FitsNext : Growing → Value → Type 0
FitsNext g v = IsSomeAnd (slice_get g.grid.columns (length g.row)) (λ c. CellFits c v)

-- one cell more
abbrev pub with_cell : Growing → Value → Growing
with_cell g v = record { grid = g.grid; row = g.row ++ v ∷ [] }

-- the row that was open is whole
abbrev pub closed : Growing → Growing
closed g = record { grid = record { columns = g.grid.columns; lines = g.grid.lines ++ g.row ∷ [] }; row = [] }

-- how it is stored: the columns before the open place have one cell more than the others, and all cells fit
unfoldable pub IsStored : List Column → List (List Value) → ℕ → ℕ → Type 0
IsStored schema columns count filled =
    (length columns ≡ length schema) × (filled ≤ length schema) × (count < 2 ^ 63)
    × HaveLength (count + 1) (take filled columns) × HaveLength count (drop filled columns)
    × All (RowFits schema) (rows_of count columns) × RowFits (take filled schema) (row_of (take filled columns) count)
