-- `summarize`: for each group one row, with the keys and then each item over the list of the group's rows. Without `by` all rows
-- are the one group, also where there is none; with `by` and no rows there is no group. `distinct` is `summarize` by these columns
-- without items.
use Rattle.std.specs.Prelude.{List, [], ◌∷◌, ◌++◌, map}
use Rattle.kql_cells.specs.Table.{Grid}
use Rattle.kql_cells.specs.declared.schema.Column.{Column}
use Rattle.kql_cells.specs.declared.value.Value.{Value}
use Rattle.kql_bound.specs.declared.parts.BItem.{BItem}
use Rattle.kql_bound.specs.declared.parts.GroupPlan.{GroupPlan}
use Rattle.kql_meaning.specs.Groups.{distinct_keys, group_of, key_by}
use Rattle.kql_meaning.specs.Items.{items_columns, items_values}

unfoldable pub group_columns : GroupPlan → List Column → List Column
group_columns g columns = items_columns g.keys columns ++ items_columns g.items columns

-- The row of a key.
unfoldable pub group_row : List BItem → List BItem → Grid → List Value → List Value
group_row keys items t k = k ++ items_values items (group_of (key_by keys t) t k) 0

-- The rows, one for each group.
unfoldable pub group_rows : List BItem → List BItem → Grid → List (List Value)
group_rows [] items t = items_values items t 0 ∷ []
group_rows (key ∷ keys) items t = map (group_row (key ∷ keys) items t) (distinct_keys (key_by (key ∷ keys) t) t)

unfoldable pub summarize_table : GroupPlan → Grid → Grid
summarize_table g t = record { columns = group_columns g t.columns; lines = group_rows g.keys g.items t }
