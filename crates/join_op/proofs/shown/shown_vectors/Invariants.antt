use Rattle.std.proofs.Common.{◌≡◌, take}
use Rattle.join_op.specs.Shown.{shown_cells}
use Rattle.join_op.proofs.shown.shown_vectors.Given as goal

-- those of the columns so far
abbrev pub invariant-loop-p : goal.invariant-loop-p
invariant-loop-p l = l.shown.items ≡ shown_cells l.j l.right l.places (take l.p l.columns)
