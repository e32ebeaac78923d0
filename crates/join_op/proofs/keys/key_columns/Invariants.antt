use Rattle.std.proofs.Common.{◌≡◌, map, take}
use Rattle.join_op.specs.Sides.{key_cells}
use Rattle.join_op.proofs.keys.key_columns.Given as goal

-- the columns of the keys so far
abbrev pub invariant-loop-pair : goal.invariant-loop-pair
invariant-loop-pair l = map (λ c. c.now) l.columns.items ≡ key_cells l.side (take l.pair-index l.on) l.t
