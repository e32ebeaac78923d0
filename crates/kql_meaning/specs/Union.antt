-- `union`: the left rows and then each other table's rows. Kind outer has every column in order of first appearance, absent where a
-- table lacks it; kind inner has the columns that all tables have, in the left table's order.
use Rattle.std.specs.Prelude.{ℕ, Bool, List, ◌∷◌, ◌++◌, Option, None, Some, bytes_eq, filter, map, if◌then◌else◌}
use Rattle.std.specs.List.{flat_map, list_all}
use Rattle.kql_cells.specs.Named.{column_name, place_of}
use Rattle.kql_cells.specs.Table.{Grid}
use Rattle.kql_cells.specs.declared.schema.Column.{Column}
use Rattle.kql_cells.specs.declared.value.Value.{Value}
use Rattle.kql_meaning.specs.Tables.{cell_in, distinct_by, has_column, places}
use Rattle.kql_meaning.specs.Values.{absent}

-- Whether two columns have one name.
unfoldable pub same_name : Column → Column → Bool
same_name c d = bytes_eq c.name d.name

-- The columns of tables, one table after another.
unfoldable pub all_in_order : List (List Column) → List Column
all_in_order tables = flat_map (λ (columns : List Column). columns) tables

unfoldable pub union_columns : Bool → List Column → List (List Column) → List Column
union_columns inner first others =
    if inner then filter (λ c. list_all (has_column c.name) others) first
    else distinct_by same_name (first ++ all_in_order others)

-- The cell of a row in a column of the union, where the row's table may lack it.
unfoldable pub cell_or_absent : Grid → ℕ → Column → Option ℕ → Value
cell_or_absent t i c None = absent c.kind
cell_or_absent t i c (Some place) = cell_in t i (Some place)

-- The rows of a table in the columns of the union.
unfoldable pub rows_in_columns : List Column → Grid → List (List Value)
rows_in_columns columns t = map (λ i. map (λ (c : Column). cell_or_absent t i c (place_of column_name c.name t.columns)) columns) (places t)

unfoldable pub union_table : Bool → Grid → List Grid → Grid
union_table inner a others =
    let columns = union_columns inner a.columns (map (λ (t : Grid). t.columns) others) in
    record { columns = columns; lines = flat_map (rows_in_columns columns) (a ∷ others) }
