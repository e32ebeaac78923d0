-- Scans of some of a table's rows, and of those of each key of a column.
use Rattle.std.specs.Prelude.{ℕ, Bool, ◌&&◌, List, [], ◌++◌, filter, fold, map, slice_index_or}
use Rattle.std.specs.List.{flat_map}
use Rattle.kql_cells.specs.Named.{column_name}
use Rattle.kql_cells.specs.Table.{Grid}
use Rattle.kql_cells.specs.declared.schema.Column.{Column}
use Rattle.kql_cells.specs.declared.value.Value.{Value}
use Rattle.kql_bound.specs.declared.parts.ScanPlan.{ScanPlan}
use Rattle.kql_bound.specs.declared.parts.ScanStep.{ScanStep}
use Rattle.kql_meaning.specs.Groups.{distinct_keys}
use Rattle.kql_meaning.specs.Partition.{key_in_column}
use Rattle.kql_meaning.specs.RowByRow.{are_plain, is_plain}
use Rattle.kql_meaning.specs.Scan.{Turn, machine_at_start, row_after, rows_at_end}
use Rattle.kql_meaning.specs.Tables.{cell, places}
use Rattle.kql_meaning.specs.Values.{same_keys}

-- The rows at these places taken through a new machine one after another, and what it emits.
unfoldable pub turn_at : ScanPlan → Grid → List ℕ → Turn
turn_at p t ps = fold (row_after p t) (record { machine = machine_at_start p; emitted = [] }) ps

unfoldable pub rows_scanned : ScanPlan → Grid → List ℕ → List (List Value)
rows_scanned p t ps = (turn_at p t ps).emitted ++ rows_at_end p (turn_at p t ps).machine

-- What scans of several lists of rows emit, one after another.
unfoldable pub scans_of : ScanPlan → Grid → List (List ℕ) → List (List Value)
scans_of p t lists = flat_map (rows_scanned p t) lists

-- The name of the column at a place.
unfoldable pub name_at : ℕ → List Column → List ℕ
name_at k columns = slice_index_or (map column_name columns) k []

-- The cells of a column at all rows.
unfoldable pub column_cells : Grid → List ℕ → List Value
column_cells t name = map (λ i. cell t i name) (places t)

-- The places of the rows of a key, rising, and those of each key, keys in order of first occurrence.
unfoldable pub rows_of_key : List ℕ → Grid → List Value → List ℕ
rows_of_key c t k = filter (λ i. same_keys (key_in_column c t i) k) (places t)

unfoldable pub rows_by_key : List ℕ → Grid → List (List ℕ)
rows_by_key c t = map (rows_of_key c t) (distinct_keys (key_in_column c t) t)

-- Whether the condition and the assignments of a step read one row alone.
unfoldable pub is_plain_step : ScanStep → Bool
is_plain_step s = is_plain s.condition && are_plain s.sets
