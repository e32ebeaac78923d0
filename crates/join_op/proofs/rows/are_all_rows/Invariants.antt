use Rattle.std.proofs.Common.{◌≡◌, take}
use Rattle.std.specs.List.{range_with_len}
use Rattle.join_op.proofs.rows.are_all_rows.Given as goal

-- the places so far are those of the first rows
abbrev pub invariant-loop-i : goal.invariant-loop-i
invariant-loop-i l = take l.i l.places ≡ range_with_len 0 l.i
