-- Columns by the rows that they make.
use Rattle.std.specs.Prelude.{◌≡◌, ◌<◌, ℕ, List}
use Rattle.kql_cells.specs.declared.value.Value.{Value}
use Rattle.kql_values.specs.Grids.{HaveLength, row_of}

-- Columns of so many values each, whose rows are those that a function gives.
pub record AreColumns (count : ℕ) (row : ℕ → List Value) (columns : List (List Value)) : Type 0 where
  pub long : HaveLength count columns
  pub rows : (g : ℕ) → g < count → row_of columns g ≡ row g
