-- What the work of a phase is.
use Rattle.std.specs.Prelude.{◌≡◌, ◌<◌, ◌+◌, ◌*◌, ◌^◌, ◌∷◌, [], List, length, false, true}
use Rattle.kql_cells.specs.Table.{Grid}
use Rattle.kql_bound.specs.declared.plan.Op.{Op}
use Rattle.kql_meaning.specs.Plans.{World}
use Rattle.kql_plain.specs.AtHand.{OpsFit}
use Rattle.phase_laws.specs.Runs.{are_by_row}
use Rattle.phase_forms.specs.Held.{goes_alone, holds_plan}
use Rattle.phase_pieces.specs.declared.cut.Cut.{Cut}

-- Operators that read one row at a time, over a table that is cut.
pub record RowsSeen : Type 0 where
  pub ops : List Op
  pub world : World
  pub table : Grid
  pub cut : Cut

-- They fit the table and read one row at a time, and each piece begins at a row.
pub record IsRowRun (r : RowsSeen) : Type 0 where
  pub fits : OpsFit r.ops r.world r.table
  pub by_row : are_by_row r.ops ≡ true
  pub each : r.cut.pieces * r.cut.rows < length r.table.lines + r.cut.rows
  pub rows : r.cut.rows < 2 ^ 63

-- One operator that may go by pieces of its own, and holds no plan.
pub record IsAlone (ops : List Op) : Type 0 where
  pub op : Op
  pub one : ops ≡ op ∷ []
  pub goes : goes_alone op ≡ true
  pub none : holds_plan op ≡ false
