-- What some of the rows that lead a join give.
use Rattle.std.specs.Prelude.{◌≡◌, ℕ, Bool, true, false, IsTrue, List, ◌++◌, Option, Some, map}
use Rattle.kql_cells.specs.Seen.{row_at}
use Rattle.kql_cells.specs.Table.{Grid, gathered}
use Rattle.kql_cells.specs.declared.schema.Column.{Column}
use Rattle.kql_bound.specs.declared.parts.JoinKind.{JoinKind}
use Rattle.kql_bound.specs.declared.parts.JoinKind.TheVariants as join
use Rattle.kql_bound.specs.declared.parts.JoinPlan.{JoinPlan}
use Rattle.kql_bound.specs.declared.parts.OnPair.{OnPair}
use Rattle.kql_meaning.specs.FittingOperators.{join_fits}
use Rattle.kql_meaning.specs.Join.{both_columns, join_table}
use Rattle.kql_values.specs.Moves.{beside, row_or_absent}
use Rattle.join_op.specs.Pairs.{has_lead, lead_rows, pairs_by, row_rule, shows_both}
use Rattle.join_op.specs.Shown.{row_shown, shown_at}
use Rattle.join_op.specs.Sides.{have_keys, lead_of, lead_side, matches_of, opposite}
use Rattle.join_op.specs.declared.sides.Side.{Side}
use Rattle.join_op.specs.declared.sides.Side.TheVariants as side

-- The columns of rows that a side leads: those of both sides, or its own alone.
unfoldable pub columns_led : Bool → Side → JoinPlan → List Column → List Column → List Column
columns_led true s j left right = both_columns j left right
columns_led false side.Left j left right = left
columns_led false side.Right j left right = right

-- The rows of pairs of places, as a table.
unfoldable pub pairs_table : Bool → Side → JoinPlan → Grid → Grid → List (ℕ × Option ℕ) → Grid
pairs_table both s j a b ps = record { columns = columns_led both s j a.columns b.columns; lines = map (row_shown both s j a b) ps }

-- The same of the places that lead, and of those beside them.
unfoldable pub places_table : Bool → Side → JoinPlan → Grid → Grid → List ℕ → List (Option ℕ) → Grid
places_table true side.Left j a b leads others = record { columns = both_columns j a.columns b.columns; lines = beside (map (row_at a.lines) leads) (map (shown_at j b) others) }
places_table true side.Right j a b leads others = record { columns = both_columns j a.columns b.columns; lines = beside (map (row_or_absent a) others) (map (shown_at j b) (map (λ i. Some i) leads)) }
places_table false side.Left j a b leads others = gathered a leads
places_table false side.Right j a b leads others = gathered b leads

-- The pairs that some rows of the side that leads give, with what matches them of the whole other side.
unfoldable pub pairs_led : JoinKind → List OnPair → Grid → Grid → List ℕ → List (ℕ × Option ℕ)
pairs_led kind on lead other leads = pairs_by (row_rule kind) (matches_of (lead_side kind) on lead other) leads

-- Their rows, which show both sides or the one that leads.
unfoldable pub led_table : Bool → JoinKind → JoinPlan → Grid → Grid → List ℕ → Grid
led_table both kind j a b leads =
    let s = lead_side kind in
    pairs_table both s j a b (pairs_led kind j.on (lead_of s a b) (lead_of (opposite s) a b) leads)

-- All rows that lead a join of a kind.
unfoldable pub all_leads : JoinKind → JoinPlan → Grid → Grid → List ℕ
all_leads kind j a b = lead_rows kind j.on (lead_of (lead_side kind) a b)

-- A join that one side leads is what all rows of that side that are joined give.
abbrev pub LedByOne : Type 0
LedByOne = (j : JoinPlan) (a b : Grid) → IsTrue (has_lead j.kind) → join_table j a b ≡ led_table (shows_both j.kind) j.kind j a b (all_leads j.kind j a b)

-- A full outer join is a left outer join, and behind it the right rows that match none.
abbrev pub LedByBoth : Type 0
LedByBoth = (j : JoinPlan) (a b : Grid) → has_lead j.kind ≡ false
    → join_table j a b ≡ record {
      columns = both_columns j a.columns b.columns;
      lines = (led_table true join.LeftOuter j a b (all_leads join.LeftOuter j a b)).lines ++ (led_table true join.RightAnti j a b (all_leads join.RightAnti j a b)).lines;
    }

-- Where a join fits, each side has the columns of its keys.
abbrev pub KeysStand : Type 0
KeysStand = (j : JoinPlan) (s : Side) (a b : Grid) → IsTrue (join_fits j a.columns b.columns) → IsTrue (have_keys s j.on (lead_of s a b).columns)
