-- The text of a table in ranges of its rows.
use Rattle.std.specs.Prelude.{◌≡◌, ◌≤◌, ℕ, List, All, length, slice_range}
use Rattle.csv_io.specs.Reload.{ReadsBack}
use Rattle.csv_io.specs.Text.{lines_text}
use Rattle.kql_cells.specs.Table.{Grid}

-- the text of the rows from a place up to another, of which each cell reads back
pub record IsPrinted (g : Grid) (from to : ℕ) (text : List ℕ) : Type 0 where
  pub order : from ≤ to
  pub within : to ≤ length g.lines
  pub prints : text ≡ lines_text g from to
  pub back : All (All ReadsBack) (slice_range g.lines from to)
