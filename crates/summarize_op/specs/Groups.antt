-- The groups of a table's rows by number.
use Rattle.std.specs.Prelude.{◌≡◌, ◌<◌, ◌++◌, ℕ, List, [], All, length, map}
use Rattle.std.specs.List.{range_with_len}
use Rattle.kql_cells.specs.Table.{Grid, gathered}
use Rattle.kql_cells.specs.declared.value.Value.{Value}
use Rattle.kql_values.specs.Grids.{HaveLength, row_of}
use Rattle.kql_keys.specs.Places.{places_of}
use Rattle.kql_bound.specs.declared.parts.BItem.{BItem}
use Rattle.kql_meaning.specs.Expressions.{val}
use Rattle.kql_meaning.specs.Items.{items_values}
use Rattle.kql_meaning.specs.Summarize.{group_rows}
use Rattle.kql_meaning.specs.Tables.{places}

-- The values of an expression at all rows, and those of each key.
unfoldable pub values_down : BItem → Grid → List Value
values_down b t = map (λ i. val b.expr t i []) (places t)

unfoldable pub key_columns : List BItem → Grid → List (List Value)
key_columns keys t = map (λ b. values_down b t) keys

-- So many zeros: the numbers of rows that are one group.
unfoldable pub zeros : ℕ → List ℕ
zeros n = map (λ i. 0) (range_with_len 0 n)

-- The rows that have a number.
unfoldable pub group_at : Grid → List ℕ → ℕ → Grid
group_at t numbers g = gathered t (places_of numbers g)

-- Numbers of a table's rows, one for each row, and columns with a row for each number: that row, followed by the items over the rows of
-- the number, is the row of a group.
pub record AreGroups (keys : List BItem) (t : Grid) (columns : List (List Value)) (numbers : List ℕ) (count : ℕ) : Type 0 where
  pub within : All (λ n. n < count) numbers
  pub each : length numbers ≡ length t.lines
  pub long : HaveLength count columns
  pub rows : (items : List BItem) → group_rows keys items t ≡ map (λ g. row_of columns g ++ items_values items (group_at t numbers g) 0) (range_with_len 0 count)
