use Rattle.std.proofs.Common.{◌≡◌, take, length}
use Rattle.kql_cells.proofs.dynamic.+same_dyn.Given as goal

abbrev pub invariant-same_entries-loop-i : goal.invariant-same_entries-loop-i
invariant-same_entries-loop-i l = (length l.a ≡ length l.b) × (take l.i l.a ≡ take l.i l.b)

abbrev pub invariant-same_parts-loop-i : goal.invariant-same_parts-loop-i
invariant-same_parts-loop-i l = (length l.a ≡ length l.b) × (take l.i l.a ≡ take l.i l.b)
