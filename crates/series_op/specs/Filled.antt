-- The columns of the answer.
use Rattle.std.specs.Prelude.{◌≡◌, ℕ, List}
use Rattle.kql_cells.specs.Table.{Grid}
use Rattle.kql_cells.specs.declared.value.Value.{Value}
use Rattle.kql_values.specs.Grids.{HaveLength, rows_of}
use Rattle.kql_bound.specs.declared.parts.SeriesPlan.{SeriesPlan}
use Rattle.kql_meaning.specs.MakeSeries.{series_rows}

-- Columns of so many values, whose rows are those of a series over the rows inside.
pub record IsFilled (p : SeriesPlan) (u : Grid) (columns : List (List Value)) (count : ℕ) : Type 0 where
  pub long : HaveLength count columns
  pub rows : rows_of count columns ≡ series_rows p u
