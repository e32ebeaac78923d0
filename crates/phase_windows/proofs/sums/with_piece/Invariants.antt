use Rattle.std.proofs.Common.{◌≡◌, length, take}
use Rattle.phase_windows.specs.Works.{end_of}
use Rattle.window_ops.specs.Calls.{calls_of_items, carries_of}
use Rattle.phase_windows.proofs.sums.with_piece.Given as goal

-- the carries of the calls so far
abbrev pub invariant-calls : goal.invariant-calls
invariant-calls l = l.joined ≡ take l.i (carries_of (calls_of_items l._items) l.table 0 (end_of (length l.table.lines) l._rows l._piece))
