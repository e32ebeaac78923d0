-- How many rows a piece of groups has, and how many pieces there are.
use Rattle.std.specs.Prelude.{◌≡◌, ◌/◌, ℕ, if◌then◌else◌, length, max, min, nat_le, nat_lt, Option, None, Some, slice_range}
use Rattle.kql_bound.specs.declared.parts.GroupPlan.{GroupPlan}
use Rattle.kql_cells.specs.Table.{Grid}
use Rattle.kql_meaning.specs.Summarize.{summarize_table}
use Rattle.phase_pieces.specs.Reports.{IsCutFor}
use Rattle.worker_board.specs.Views.{WholeClaims}

-- The first 4,096 rows.
abbrev pub first_rows : Grid → Grid
first_rows t = record t { lines = slice_range t.lines 0 4096 }

-- A large table's pieces: about four for each worker, where that makes no less than as many rows as are asked for.
abbrev pub share_of : ℕ → ℕ → ℕ → ℕ
share_of workers asked count = max asked (min (count / 4 / workers) 4294967295)

-- So many rows as are asked for in a table of at most 16,384 rows, and a share of a larger one. None where more than half of its first rows have keys
-- of their own.
unfoldable pub rows_wanted : ℕ → ℕ → GroupPlan → Grid → Option ℕ
rows_wanted workers asked g t =
    if nat_le (length t.lines) 16384
    then Some asked
    else (if nat_lt 2048 (length (summarize_table g (first_rows t)).lines) then None else Some (share_of workers asked (length t.lines)))

-- Pieces of so many rows, or one piece.
abbrev pub AreCutBy : Option ℕ → ℕ → WholeClaims → Type 0
AreCutBy (Some rows) count g = IsCutFor count rows g
AreCutBy None count g = g.size.pieces ≡ 1
