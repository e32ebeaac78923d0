-- What the work of a round is.
use Rattle.std.specs.Prelude.{◌≡◌, ◌<◌, ◌≤◌, ◌+◌, ◌*◌, ◌^◌, ℕ, List, [], length, map, min, slice_index_or, true}
use Rattle.std.specs.List.{range_with_len}
use Rattle.kql_cells.specs.Named.{HasDistinctNames, column_name}
use Rattle.kql_cells.specs.Table.{Grid}
use Rattle.kql_bound.specs.declared.parts.BItem.{BItem}
use Rattle.kql_meaning.specs.declared.position.Position.TheVariants as position
use Rattle.kql_meaning.specs.FittingOperators.{items_fit}
use Rattle.kql_meaning.specs.Items.{items_columns}
use Rattle.phase_pieces.specs.declared.cut.Cut.{Cut}
use Rattle.window_ops.specs.Calls.{calls_of_items, carries_of}
use Rattle.window_ops.specs.Carries.{Carried}

-- Where a piece ends: behind so many rows, or with the last row.
abbrev pub end_of : ℕ → ℕ → ℕ → ℕ
end_of count rows piece = min count (piece * rows + rows)

-- The carries of a piece, for each call in the items.
unfoldable pub carries_of_piece : List BItem → Grid → ℕ → ℕ → List Carried
carries_of_piece items t rows piece = carries_of (calls_of_items items) t (piece * rows) (end_of (length t.lines) rows piece)

-- Those of all rows before a piece.
unfoldable pub carries_before : List BItem → Grid → ℕ → ℕ → List Carried
carries_before items t rows piece = carries_of (calls_of_items items) t 0 (piece * rows)

-- The same of each of so many pieces.
unfoldable pub sums_of_pieces : List BItem → Grid → ℕ → ℕ → List (List Carried)
sums_of_pieces items t rows pieces = map (carries_of_piece items t rows) (range_with_len 0 pieces)

unfoldable pub sums_before_pieces : List BItem → Grid → ℕ → ℕ → List (List Carried)
sums_before_pieces items t rows pieces = map (carries_before items t rows) (range_with_len 0 pieces)

-- These lists are the carries of the rows before each piece. One that is not there is empty, as it is where there is no call.
unfoldable pub AreBeforePieces : List BItem → Grid → ℕ → ℕ → List (List Carried) → Type 0
AreBeforePieces items t rows pieces lists = (piece : ℕ) → piece < pieces → slice_index_or lists piece [] ≡ carries_before items t rows piece

-- Items over a table that is cut.
pub record SumsSeen : Type 0 where
  pub items : List BItem
  pub table : Grid
  pub cut : Cut

-- They fit the table, and each piece begins at a row.
pub record IsSumRun (r : SumsSeen) : Type 0 where
  pub fits : items_fit r.items r.table.columns position.Window ≡ true
  pub each : r.cut.pieces * r.cut.rows < length r.table.lines + r.cut.rows
  pub rows : r.cut.rows < 2 ^ 63

-- The same, with the carries of the rows before each piece.
pub record FillsSeen : Type 0 where
  pub items : List BItem
  pub table : Grid
  pub before : List (List Carried)
  pub cut : Cut

-- The columns have different names too, and the carries are these.
pub record IsFillRun (r : FillsSeen) : Type 0 where
  pub fits : items_fit r.items r.table.columns position.Window ≡ true
  pub names : HasDistinctNames column_name (items_columns r.items r.table.columns)
  pub before : AreBeforePieces r.items r.table r.cut.rows r.cut.pieces r.before
  pub each : r.cut.pieces * r.cut.rows < length r.table.lines + r.cut.rows
  pub rows : r.cut.rows < 2 ^ 63
