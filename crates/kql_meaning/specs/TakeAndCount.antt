-- `take` (or `limit`): the first n rows. `count`: one row, with the number of rows in the column `Count`.
use Rattle.std.specs.Prelude.{ℕ, List, [], ◌∷◌, codes, take}
use Rattle.kql_cells.specs.Table.{Grid}
use Rattle.kql_cells.specs.declared.schema.Column.{Column}
use Rattle.kql_cells.specs.declared.value.Kind.TheVariants as kind
use Rattle.kql_meaning.specs.Numbers.{counted}

unfoldable pub take_table : ℕ → Grid → Grid
take_table n t = record { columns = t.columns; lines = take n t.lines }

unfoldable pub count_columns : List Column
count_columns = record { name = codes "Count"; kind = kind.Long } ∷ []

unfoldable pub count_table : Grid → Grid
count_table t = record { columns = count_columns; lines = (counted t.lines ∷ []) ∷ [] }
