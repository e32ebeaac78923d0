-- The right columns that a join shows, at places of right rows that may be none.
use Rattle.std.specs.Prelude.{ℕ, Bool, true, false, not, ◌&&◌, List, ◌++◌, Option, None, Some, filter, map}
use Rattle.kql_cells.specs.Keys.{absent}
use Rattle.kql_cells.specs.Seen.{row_at}
use Rattle.kql_cells.specs.Table.{Grid}
use Rattle.kql_cells.specs.declared.schema.Column.{Column}
use Rattle.kql_cells.specs.declared.value.Value.{Value}
use Rattle.kql_bound.specs.declared.parts.JoinPlan.{JoinPlan}
use Rattle.kql_bound.specs.declared.parts.OnPair.{OnPair}
use Rattle.kql_meaning.specs.Join.{shown_columns, shown_row}
use Rattle.kql_meaning.specs.Tables.{absent_row, cell, is_name_among}
use Rattle.kql_values.specs.Moves.{row_or_absent}
use Rattle.join_op.specs.declared.sides.Side.{Side}
use Rattle.join_op.specs.declared.sides.Side.TheVariants as side

-- Whether a name is that of a right key, and whether a column is shown: `lookup` leaves out the right keys.
unfoldable pub is_right_key : List OnPair → List ℕ → Bool
is_right_key on name = is_name_among (map (λ (pair : OnPair). pair.right) on) name

unfoldable pub is_shown : JoinPlan → Column → Bool
is_shown j c = not (j.lookup && is_right_key j.on c.name)

-- The cell of a right column.
unfoldable pub shown_cell : Grid → Column → Option ℕ → Value
shown_cell b c None = absent c.kind
shown_cell b c (Some k) = cell b k c.name

-- Those of these columns that are shown, each at all places.
unfoldable pub shown_cells : JoinPlan → Grid → List (Option ℕ) → List Column → List (List Value)
shown_cells j b at columns = map (λ (c : Column). map (shown_cell b c) at) (filter (is_shown j) columns)

-- What is shown of a right row.
unfoldable pub shown_at : JoinPlan → Grid → Option ℕ → List Value
shown_at j b None = absent_row (shown_columns j b.columns)
shown_at j b (Some k) = shown_row j b k

-- The row of a pair of places: of a kind that shows both sides the left cells and then what is shown of the right row, with absent ones
-- where the pair has no match, and of the others the row that leads.
unfoldable pub row_shown : Bool → Side → JoinPlan → Grid → Grid → ℕ × Option ℕ → List Value
row_shown true side.Left j a b p = row_at a.lines p.0 ++ shown_at j b p.1
row_shown true side.Right j a b p = row_or_absent a p.1 ++ shown_at j b (Some p.0)
row_shown false side.Left j a b p = row_at a.lines p.0
row_shown false side.Right j a b p = row_at b.lines p.0
