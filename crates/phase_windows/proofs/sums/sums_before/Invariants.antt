use Rattle.std.proofs.Common.{◌≡◌, ◌*◌, length}
use Rattle.std.specs.Prelude.{min}
use Rattle.phase_windows.specs.Works.{sums_before_pieces}
use Rattle.window_ops.specs.Calls.{calls_of_items, carries_of}
use Rattle.phase_windows.proofs.sums.sums_before.Given as goal

-- the carries before each piece so far, and those of all rows up to the next
abbrev pub invariant-pieces : goal.invariant-pieces
invariant-pieces l = record {
  before : l.before ≡ sums_before_pieces l.items l.table l.cut.rows l.piece;
  so_far : l.so_far ≡ carries_of (calls_of_items l.items) l.table 0 (min (length l.table.lines) (l.piece * l.cut.rows));
}
