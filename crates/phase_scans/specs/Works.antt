-- What the work of a partition of one scan is.
use Rattle.std.specs.Prelude.{◌≡◌, ◌<◌, ◌+◌, ◌*◌, ◌^◌, ℕ, All, List, length, true}
use Rattle.kql_cells.specs.Table.{Grid}
use Rattle.kql_bound.specs.declared.parts.ScanPlan.{ScanPlan}
use Rattle.kql_meaning.specs.Scan.{scan_columns, with_declared}
use Rattle.phase_laws.specs.Pieces.{slice_of}
use Rattle.phase_pieces.specs.declared.cut.Cut.{Cut}
use Rattle.scan_ops.specs.Scans.{scans_of}
use Rattle.scan_ops.specs.Steps.{scan_answers}

-- Lists of places: each is of rows of the table.
abbrev pub AreOfRows : Grid → List (List ℕ) → Type 0
AreOfRows t lists = All (All (λ i. i < length t.lines)) lists

-- The scans of the lists of a piece of so many.
unfoldable pub scanned_piece : ScanPlan → Grid → Grid → List (List ℕ) → ℕ → ℕ → Grid
scanned_piece s t extended lists n piece = record { columns = scan_columns s t.columns; lines = scans_of s extended (slice_of n lists piece) }

-- A scan of lists of rows that are cut.
pub record ScansSeen : Type 0 where
  pub scan : ScanPlan
  pub table : Grid
  pub extended : Grid
  pub lists : List (List ℕ)
  pub cut : Cut

-- It fits the table, and each piece begins at a list.
pub record IsScanRun (r : ScansSeen) : Type 0 where
  pub fits : scan_answers r.scan r.table.columns ≡ true
  pub extended : r.extended ≡ with_declared r.scan r.table
  pub within : AreOfRows r.table r.lists
  pub few : length r.lists < 2 ^ 63
  pub each : r.cut.pieces * r.cut.rows < length r.lists + r.cut.rows
  pub rows : r.cut.rows < 2 ^ 63
