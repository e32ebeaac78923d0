-- `extend`: every item is computed over the input row; the items' columns are added at the end in order, and an input column of
-- an item's name is removed. `serialize` with items is the same.
use Rattle.std.specs.Prelude.{◌++◌, List, map}
use Rattle.kql_cells.specs.Table.{Grid}
use Rattle.kql_cells.specs.declared.schema.Column.{Column}
use Rattle.kql_bound.specs.declared.parts.BItem.{BItem}
use Rattle.kql_meaning.specs.Items.{cells_in, items_columns, items_names, items_values, without}
use Rattle.kql_meaning.specs.Tables.{places}

unfoldable pub extend_columns : List BItem → List Column → List Column
extend_columns items columns = without (items_names items) columns ++ items_columns items columns

unfoldable pub extend_table : List BItem → Grid → Grid
extend_table items t = record {
  columns = extend_columns items t.columns;
  lines = map (λ i. cells_in (without (items_names items) t.columns) t i ++ items_values items t i) (places t);
}
