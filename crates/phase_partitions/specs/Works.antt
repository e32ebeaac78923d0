-- What the work of a partition is.
use Rattle.std.specs.Prelude.{◌≡◌, ◌<◌, ◌+◌, ◌*◌, ◌^◌, ℕ, List, flat_map, length}
use Rattle.kql_cells.specs.Table.{Grid, gathered}
use Rattle.kql_cells.specs.declared.value.Value.{Value}
use Rattle.kql_bound.specs.declared.plan.Op.{Op}
use Rattle.kql_meaning.specs.Plans.{World}
use Rattle.kql_meaning.specs.Tables.{emptied}
use Rattle.kql_plain.specs.AtHand.{OpsFit}
use Rattle.phase_laws.specs.Pieces.{slice_of}
use Rattle.phase_laws.specs.Runs.{made_of}
use Rattle.phase_pieces.specs.declared.cut.Cut.{Cut}
use Rattle.phase_scans.specs.Works.{AreOfRows}

-- What operators make of the rows of lists, one list after another.
unfoldable pub rows_made : List Op → World → Grid → List (List ℕ) → List (List Value)
rows_made ops w t lists = flat_map (λ ps. (made_of ops w (gathered t ps)).lines) lists

-- That of the lists of a piece of so many.
unfoldable pub made_piece : List Op → World → Grid → List (List ℕ) → ℕ → ℕ → Grid
made_piece ops w t lists n piece = record { columns = (made_of ops w (emptied t)).columns; lines = rows_made ops w t (slice_of n lists piece) }

-- Operators over lists of rows that are cut.
pub record KeysSeen : Type 0 where
  pub ops : List Op
  pub world : World
  pub table : Grid
  pub none : Grid
  pub lists : List (List ℕ)
  pub cut : Cut

-- They fit the table, `none` has the columns that they make, and each piece begins at a list.
pub record IsKeyRun (r : KeysSeen) : Type 0 where
  pub fits : OpsFit r.ops r.world r.table
  pub none : r.none.columns ≡ (made_of r.ops r.world (emptied r.table)).columns
  pub within : AreOfRows r.table r.lists
  pub few : length r.lists < 2 ^ 63
  pub each : r.cut.pieces * r.cut.rows < length r.lists + r.cut.rows
  pub rows : r.cut.rows < 2 ^ 63
