-- A table that grows.
use Rattle.std.specs.Prelude.{◌≡◌, ℕ, ◌++◌, length}
use Rattle.kql_cells.specs.Table.{Grid}

-- what it takes: tables of its own columns
abbrev pub has_columns_of : Grid → Grid → Type 0
has_columns_of table batch = table.columns ≡ batch.columns

abbrev pub row_count : Grid → ℕ
row_count table = length table.lines

-- the rows of the batch stand at the end
abbrev pub with_rows : Grid → Grid → Grid
with_rows table batch = record table { lines = table.lines ++ batch.lines }
