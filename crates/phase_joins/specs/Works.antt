-- What the work of a join by pieces is.
use Rattle.std.specs.Prelude.{◌≡◌, ◌<◌, ◌+◌, ◌*◌, ◌^◌, ℕ, Bool, All, IsTrue, List, length}
use Rattle.kql_cells.specs.Named.{HasDistinctNames, column_name}
use Rattle.kql_cells.specs.Table.{Grid}
use Rattle.kql_cells.specs.declared.value.Value.{Value}
use Rattle.kql_bound.specs.declared.parts.JoinKind.{JoinKind}
use Rattle.kql_bound.specs.declared.parts.JoinPlan.{JoinPlan}
use Rattle.kql_meaning.specs.Join.{both_columns}
use Rattle.kql_values.specs.Grids.{rows_of}
use Rattle.join_op.specs.Sides.{key_cells, lead_of, lead_side, opposite}
use Rattle.phase_pieces.specs.declared.cut.Cut.{Cut}

-- The rows that lead a kind of join, cut into pieces, the columns of their keys, and the keys of the other side's rows.
pub record LedSeen : Type 0 where
  pub left : Grid
  pub right : Grid
  pub plan : JoinPlan
  pub kind : JoinKind
  pub both : Bool
  pub keys : List (List Value)
  pub index : List (List Value)
  pub leads : List ℕ
  pub cut : Cut

-- The keys are those of their sides, the rows that lead stand in their table, and each piece begins at one of them.
pub record IsLedRun (r : LedSeen) : Type 0 where
  pub names : IsTrue r.both → HasDistinctNames column_name (both_columns r.plan r.left.columns r.right.columns)
  pub keys : r.keys ≡ key_cells (lead_side r.kind) r.plan.on (lead_of (lead_side r.kind) r.left r.right)
  pub index : r.index ≡ rows_of (length (lead_of (opposite (lead_side r.kind)) r.left r.right).lines) (key_cells (opposite (lead_side r.kind)) r.plan.on (lead_of (opposite (lead_side r.kind)) r.left r.right))
  pub within : All (λ i. i < length (lead_of (lead_side r.kind) r.left r.right).lines) r.leads
  pub each : r.cut.pieces * r.cut.rows < length r.leads + r.cut.rows
  pub rows : r.cut.rows < 2 ^ 63
