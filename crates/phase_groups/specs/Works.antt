-- What the works of `summarize` by ranges are.
use Rattle.std.specs.Prelude.{◌≡◌, ◌<◌, ◌≤◌, ◌+◌, ◌*◌, ◌^◌, ℕ, List, IsTrue, is_some, length, map, min}
use Rattle.std.specs.List.{range_with_len}
use Rattle.kql_cells.specs.Table.{Grid}
use Rattle.kql_bound.specs.declared.parts.GroupPlan.{GroupPlan}
use Rattle.kql_meaning.specs.FittingOperators.{answer_if, summarize_fits}
use Rattle.kql_meaning.specs.Summarize.{group_columns}
use Rattle.kql_fit_laws.specs.LawsOfRows.{IsTable}
use Rattle.summarize_pieces.specs.Pieces.{Grouped, Piece, groups_in, piece_of}
use Rattle.phase_pieces.specs.declared.cut.Cut.{Cut}

-- A plan of groups over a table that is cut.
pub record GroupsSeen : Type 0 where
  pub plan : GroupPlan
  pub table : Grid
  pub cut : Cut

abbrev pub run_over : GroupPlan → Grid → Cut → GroupsSeen
run_over g t cut = record { plan = g; table = t; cut = cut }

-- The plan fits the table, the pieces hold all rows, and each of them begins at a row.
pub record IsGroupRun (r : GroupsSeen) : Type 0 where
  pub fits : IsTrue (is_some (answer_if (summarize_fits r.plan r.table.columns) (group_columns r.plan r.table.columns)))
  pub whole : IsTable r.table
  pub small : length r.table.lines < 2 ^ 63
  pub all : length r.table.lines ≤ r.cut.pieces * r.cut.rows
  pub each : r.cut.pieces * r.cut.rows < length r.table.lines + r.cut.rows
  pub rows : r.cut.rows < 2 ^ 63

-- Where a piece begins and ends.

abbrev pub starts : GroupsSeen → ℕ → ℕ
starts r piece = piece * r.cut.rows

abbrev pub ends : GroupsSeen → ℕ → ℕ
ends r piece = min (length r.table.lines) (piece * r.cut.rows + r.cut.rows)

-- How many rows the pieces before one have.
abbrev pub behind : GroupsSeen → ℕ → ℕ
behind r piece = min (length r.table.lines) (piece * r.cut.rows)

-- What is read of a piece, and of all.

abbrev pub read_at : GroupsSeen → ℕ → Piece
read_at r piece = piece_of r.plan r.table (starts r piece) (ends r piece)

abbrev pub all_read : GroupsSeen → List Piece
all_read r = map (read_at r) (range_with_len 0 r.cut.pieces)

-- The same with what was read of all pieces.
pub record ReadSeen : Type 0 where
  pub run : GroupsSeen
  pub read : List Piece

pub record IsReadRun (r : ReadSeen) : Type 0 where
  pub run : IsGroupRun r.run
  pub read : r.read ≡ all_read r.run

-- Groups, and the rows that they are of.
pub record RangeSeen : Type 0 where
  pub groups : Grouped
  pub plan : GroupPlan
  pub table : Grid
  pub from : ℕ
  pub to : ℕ

-- Those of a piece, and of so many from one on.

abbrev pub seen_at : GroupsSeen → ℕ → RangeSeen
seen_at r piece = record {
  groups = groups_in r.plan r.table (starts r piece) (ends r piece);
  plan = r.plan;
  table = r.table;
  from = starts r piece;
  to = ends r piece;
}

abbrev pub all_seen : GroupsSeen → ℕ → ℕ → List RangeSeen
all_seen r from count = map (seen_at r) (range_with_len from count)

-- A plan over a whole table, which it fits.

pub record WholeSeen : Type 0 where
  pub plan : GroupPlan
  pub table : Grid

pub record IsWholeRun (r : WholeSeen) : Type 0 where
  pub fits : IsTrue (is_some (answer_if (summarize_fits r.plan r.table.columns) (group_columns r.plan r.table.columns)))
