-- `project`: the items in order, of each row. `project-away`, `project-keep` and `project-rename` are `project` of the columns
-- that remain.
use Rattle.std.specs.Prelude.{List, map}
use Rattle.kql_cells.specs.Table.{Grid}
use Rattle.kql_bound.specs.declared.parts.BItem.{BItem}
use Rattle.kql_meaning.specs.Items.{items_columns, items_values}
use Rattle.kql_meaning.specs.Tables.{places}

unfoldable pub project_table : List BItem → Grid → Grid
project_table items t = record {
  columns = items_columns items t.columns;
  lines = map (λ i. items_values items t i) (places t);
}
