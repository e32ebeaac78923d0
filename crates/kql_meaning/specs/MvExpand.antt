-- `mv-expand`: the values of dynamic items, part by part. Each row gives as many rows as the longest list of parts, and shorter
-- lists are padded with null. An input column of an item's name is replaced in its place, and any other item's column is added at
-- the end, in order.
use Rattle.std.specs.Prelude.{ℕ, max, not, Bool, List, [], ◌∷◌, ◌++◌, Option, None, Some, bytes_eq, filter, find, fold, length, map, option_map, slice_index_or, if◌then◌else◌}
use Rattle.std.specs.List.{flat_map}
use Rattle.kql_cells.specs.Table.{Grid}
use Rattle.kql_cells.specs.declared.dynamic.Dyn.{Dyn, out-Dyn}
use Rattle.kql_cells.specs.declared.dynamic.Dyn.TheOpen.{Dyn-F}
use Rattle.kql_cells.specs.declared.dynamic.Dyn.TheVariants as dyn
use Rattle.kql_cells.specs.declared.schema.Column.{Column}
use Rattle.kql_cells.specs.declared.value.Kind.{Kind}
use Rattle.kql_cells.specs.declared.value.Kind.TheVariants as kind
use Rattle.kql_cells.specs.declared.value.Value.{Value}
use Rattle.kql_cells.specs.declared.value.Value.TheVariants as value
use Rattle.kql_dynamic.specs.Parts.{value_of}
use Rattle.kql_scalar_fns.specs.Conversion.{to_bool, to_long, to_moment, to_span}
use Rattle.kql_scalar_fns.specs.Readings.{text_of}
use Rattle.kql_bound.specs.declared.parts.Expand.{Expand}
use Rattle.kql_bound.specs.declared.parts.ExpandItem.{ExpandItem}
use Rattle.kql_meaning.specs.Expressions.{val}
use Rattle.kql_meaning.specs.Tables.{cell, has_column, places, places_below}

-- An entry of a bag as a part: a bag of this entry, or `[key, value]`.
unfoldable pub entry_part : Bool → List ℕ × Dyn → Value
entry_part array e = if array then value.Dynamic (dyn.Array (dyn.Text e.0 ∷ e.1 ∷ [])) else value.Dynamic (dyn.Bag (e ∷ []))

-- The elements of an array, the entries of a bag in the order of their keys, and a scalar itself.
abbrev pub dynamic_parts_step : Bool → Value → Dyn-F Dyn → List Value
dynamic_parts_step array whole (Dyn-F.Array elements) = map value_of elements
dynamic_parts_step array whole (Dyn-F.Bag entries) = map (entry_part array) entries
dynamic_parts_step array whole _ = whole ∷ []

-- The parts of a value: of a null one null.
unfoldable pub parts_of : Bool → Value → List Value
parts_of array (value.Dynamic d) = dynamic_parts_step array (value.Dynamic d) (out-Dyn d)
parts_of array v = v ∷ []

-- A part as a value of the type that `to typeof` names; dynamic where none is named.
unfoldable pub part_as : Kind → Value → Value
part_as kind.Bool v = to_bool v
part_as kind.Long v = to_long v
part_as kind.Text v = value.Text (text_of v)
part_as kind.Moment v = to_moment v
part_as kind.Span v = to_span v
part_as kind.Dynamic v = v

-- The parts of an item at a row.
unfoldable pub item_parts : Expand → Grid → ℕ → ExpandItem → List Value
item_parts x t i item = parts_of x.array (val item.expr t i [])

-- How many rows a row gives: the length of the longest list of parts.
unfoldable pub rows_given : Expand → Grid → ℕ → ℕ
rows_given x t i = fold (λ n item. max n (length (item_parts x t i item))) 0 x.items

-- What an item's column holds in the k-th of the rows that row i gives: the k-th part, or null behind the last, converted.
unfoldable pub part_at : Expand → Grid → ℕ → ℕ → ExpandItem → Value
part_at x t i k item = part_as item.to (slice_index_or (item_parts x t i item) k value.Null)

-- The item of a name.
unfoldable pub item_named : List ExpandItem → List ℕ → Option ExpandItem
item_named items name = find (λ (item : ExpandItem). bytes_eq item.name name) items

-- The items whose names no input column has.
unfoldable pub new_items : List ExpandItem → List Column → List ExpandItem
new_items items columns = filter (λ (item : ExpandItem). not (has_column item.name columns)) items

-- An input column, replaced where an item has its name.
unfoldable pub kind_named : List ExpandItem → List ℕ → Option Kind
kind_named items name = option_map (λ (item : ExpandItem). item.to) (item_named items name)

unfoldable pub replaced_column : Column → Option Kind → Column
replaced_column c None = c
replaced_column c (Some k) = record { name = c.name; kind = k }

unfoldable pub replaced_columns : Expand → List Column → List Column
replaced_columns x columns = map (λ (c : Column). replaced_column c (kind_named x.items c.name)) columns

unfoldable pub new_columns : List ExpandItem → List Column → List Column
new_columns items columns = map (λ (item : ExpandItem). record { name = item.name; kind = item.to }) (new_items items columns)

unfoldable pub expand_columns : Expand → List Column → List Column
expand_columns x columns = replaced_columns x columns ++ new_columns x.items columns

-- The cell of an input column, replaced where an item has its name.
unfoldable pub replaced_cell : Expand → Grid → ℕ → ℕ → Column → Option ExpandItem → Value
replaced_cell x t i k c None = cell t i c.name
replaced_cell x t i k c (Some item) = part_at x t i k item

-- The k-th of the rows that row i gives.
unfoldable pub expanded_row : Expand → Grid → ℕ → ℕ → List Value
expanded_row x t i k = map (λ (c : Column). replaced_cell x t i k c (item_named x.items c.name)) t.columns ++ map (part_at x t i k) (new_items x.items t.columns)

unfoldable pub expand_table : Expand → Grid → Grid
expand_table x t = record {
  columns = expand_columns x t.columns;
  lines = flat_map (λ i. map (expanded_row x t i) (places_below (rows_given x t i))) (places t);
}
