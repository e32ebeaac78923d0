-- Places in a table, and the cells of its columns.
use Rattle.std.specs.Prelude.{ℕ, Bool, not, List, [], ◌∷◌, Option, None, Some, bytes_eq, filter, length, map, slice_get, slice_index_or}
use Rattle.std.specs.List.{list_any, range_with_len}
use Rattle.kql_cells.specs.Named.{column_name, place_of}
use Rattle.kql_cells.specs.Seen.{row_at}
use Rattle.kql_cells.specs.Table.{Grid}
use Rattle.kql_cells.specs.declared.schema.Column.{Column}
use Rattle.kql_cells.specs.declared.value.Value.{Value}
use Rattle.kql_cells.specs.declared.value.Value.TheVariants as value
use Rattle.kql_meaning.specs.Values.{absent}

-- The places 0, 1 and so on of a list of so many elements.
unfoldable pub places_below : ℕ → List ℕ
places_below n = range_with_len 0 n

-- The places of a table's rows, in order.
unfoldable pub places : Grid → List ℕ
places t = places_below (length t.lines)

-- The table without columns and rows.
abbrev pub nothing : Grid
nothing = record { columns = []; lines = [] }

-- The same columns, and no rows.
unfoldable pub emptied : Grid → Grid
emptied t = record { columns = t.columns; lines = [] }

-- What stands in a column where there is no row.
unfoldable pub absent_in : Option Column → Value
absent_in None = value.Null
absent_in (Some c) = absent c.kind

-- The cell in the column at a place.
unfoldable pub cell_in : Grid → ℕ → Option ℕ → Value
cell_in t i None = value.Null
cell_in t i (Some j) = slice_index_or (row_at t.lines i) j (absent_in (slice_get t.columns j))

-- The cell at row i in the column of a name. It is absent where there is no such row.
unfoldable pub cell : Grid → ℕ → List ℕ → Value
cell t i name = cell_in t i (place_of column_name name t.columns)

-- Whether a name is one of these.
unfoldable pub is_name_among : List (List ℕ) → List ℕ → Bool
is_name_among names n = list_any (λ m. bytes_eq m n) names

-- The names of columns, and whether there is a column of a name.
unfoldable pub names_of : List Column → List (List ℕ)
names_of columns = map (λ (c : Column). c.name) columns

unfoldable pub has_column : List ℕ → List Column → Bool
has_column name columns = is_name_among (names_of columns) name

-- A row in which all is absent.
unfoldable pub absent_row : List Column → List Value
absent_row columns = map (λ (c : Column). absent c.kind) columns

-- Each element that no earlier one is the same as, in order: the first of each kind.
unfoldable pub distinct_by : {X : Type 0} → (X → X → Bool) → List X → List X
distinct_by same [] = []
distinct_by same (x ∷ xs) = x ∷ filter (λ y. not (same x y)) (distinct_by same xs)
