use Rattle.std.proofs.Common.{◌≡◌, map, take}
use Rattle.table_ops.specs.Parts.{input_cells}
use Rattle.table_ops.proofs.expand.input_vectors.Given as goal

-- the columns so far
abbrev pub invariant-loop-j : goal.invariant-loop-j
invariant-loop-j l = l.vectors ≡ map (input_cells l.x l.t) (take l.j l.t.columns)
