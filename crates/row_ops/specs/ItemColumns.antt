-- Items over all rows of a table, column by column.
use Rattle.std.specs.Prelude.{ℕ, not, List, [], filter, length, map}
use Rattle.kql_cells.specs.Table.{Grid}
use Rattle.kql_cells.specs.declared.schema.Column.{Column}
use Rattle.kql_cells.specs.declared.value.Value.{Value}
use Rattle.kql_values.specs.Moves.{column_of}
use Rattle.kql_bound.specs.declared.expr.BExpr.{BExpr}
use Rattle.kql_bound.specs.declared.parts.BItem.{BItem}
use Rattle.kql_meaning.specs.Expressions.{val}
use Rattle.kql_meaning.specs.Tables.{is_name_among, places, places_below}

-- The values of an expression at all rows.
unfoldable pub values_down : BExpr → Grid → List Value
values_down e t = map (λ i. val e t i []) (places t)

-- The same of each item.
unfoldable pub item_columns : List BItem → Grid → List (List Value)
item_columns items t = map (λ (b : BItem). values_down b.expr t) items

-- The places of the columns that have none of these names.
unfoldable pub places_without : List (List ℕ) → List Column → List ℕ
places_without names columns = filter (λ j. not (is_name_among names (column_of columns j).name)) (places_below (length columns))
