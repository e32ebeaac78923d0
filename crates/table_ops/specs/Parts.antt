-- The parts of items at all rows of a table, column by column.
use Rattle.std.specs.Prelude.{◌≡◌, ℕ, max, Bool, true, List, [], ◌++◌, fold, length, map, slice_index_or}
use Rattle.std.specs.List.{flat_map}
use Rattle.kql_cells.specs.Seen.{value_at}
use Rattle.kql_cells.specs.Table.{Grid}
use Rattle.kql_cells.specs.declared.schema.Column.{Column}
use Rattle.kql_cells.specs.declared.value.Kind.{Kind}
use Rattle.kql_cells.specs.declared.value.Value.{Value}
use Rattle.kql_cells.specs.declared.value.Value.TheVariants as value
use Rattle.kql_bound.specs.declared.expr.BExpr.{BExpr}
use Rattle.kql_bound.specs.declared.parts.Expand.{Expand}
use Rattle.kql_bound.specs.declared.parts.ExpandItem.{ExpandItem}
use Rattle.kql_meaning.specs.Expressions.{val}
use Rattle.kql_meaning.specs.MvExpand.{item_named, new_items, part_as, part_at, parts_of, replaced_cell, rows_given}
use Rattle.kql_meaning.specs.Tables.{places, places_below}
use Rattle.table_ops.specs.declared.parts.Parts.{Parts}

-- The values of an expression at all rows, and those of each item.
unfoldable pub values_down : BExpr → Grid → List Value
values_down e t = map (λ i. val e t i []) (places t)

unfoldable pub item_values : List ExpandItem → Grid → List (List Value)
item_values items t = map (λ (item : ExpandItem). values_down item.expr t) items

-- How many parts a value has: as many, whichever way an entry of a bag is shown.
unfoldable pub part_count : Value → ℕ
part_count v = length (parts_of true v)

-- The most that values of these columns have at a row.
unfoldable pub most_parts : List (List Value) → ℕ → ℕ
most_parts columns i = fold (λ n vs. max n (part_count (value_at vs i))) 0 columns

-- A part of a value, or null where there is none.
unfoldable pub part_or_null : Bool → Value → ℕ → Value
part_or_null array v k = slice_index_or (parts_of array v) k value.Null

-- Each row below one, as often as is counted there, with the numbers from 0.
unfoldable pub times_at : List ℕ → ℕ → List (ℕ × ℕ)
times_at counts i = map (λ k. (i, k)) (places_below (slice_index_or counts i 0))

unfoldable pub times_below : List ℕ → ℕ → List (ℕ × ℕ)
times_below counts n = flat_map (times_at counts) (places_below n)

-- The parts of values, each with as many as is counted for it, converted.
unfoldable pub part_below : Bool → Kind → List Value → ℕ × ℕ → Value
part_below array to values p = part_as to (part_or_null array (value_at values p.0) p.1)

unfoldable pub parts_below : Bool → Kind → List Value → List ℕ → ℕ → List Value
parts_below array to values counts n = map (part_below array to values) (times_below counts n)

-- The rows of the answer: from which row each is, and which of that row's rows.
unfoldable pub row_times : Expand → Grid → ℕ → List (ℕ × ℕ)
row_times x t i = map (λ k. (i, k)) (places_below (rows_given x t i))

unfoldable pub times : Expand → Grid → List (ℕ × ℕ)
times x t = flat_map (row_times x t) (places t)

-- The cells of an input column and of an item there.
unfoldable pub input_cells : Expand → Grid → Column → List Value
input_cells x t c = map (λ (p : ℕ × ℕ). replaced_cell x t p.0 p.1 c (item_named x.items c.name)) (times x t)

unfoldable pub item_cells : Expand → Grid → ExpandItem → List Value
item_cells x t item = map (λ (p : ℕ × ℕ). part_at x t p.0 p.1 item) (times x t)

-- All columns.
unfoldable pub expanded_cells : Expand → Grid → List (List Value)
expanded_cells x t = map (input_cells x t) t.columns ++ map (item_cells x t) (new_items x.items t.columns)

-- The parts of the items at all rows: their values, how many rows each row gives, and the row that each of these is from.
unfoldable pub ArePartsOf : Expand → Grid → Parts → Type 0
ArePartsOf x t parts =
    (parts.values ≡ item_values x.items t)
    × (parts.counts ≡ map (rows_given x t) (places t))
    × (parts.places ≡ map (λ (p : ℕ × ℕ). p.0) (times x t))
