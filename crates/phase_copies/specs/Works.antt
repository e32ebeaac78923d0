-- What the work of a copy is.
use Rattle.std.specs.Prelude.{◌≡◌, ℕ, List, [], length, slice_index_or}
use Rattle.kql_cells.specs.declared.value.Value.{Value}

-- One of several columns.
unfoldable pub column_in : List (List Value) → ℕ → List Value
column_in columns j = slice_index_or columns j []

-- Columns, and how many they are.
pub record CopiesSeen : Type 0 where
  pub columns : List (List Value)
  pub count : ℕ

pub record IsCopyRun (r : CopiesSeen) : Type 0 where
  pub all : r.count ≡ length r.columns
