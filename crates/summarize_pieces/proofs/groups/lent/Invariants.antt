use Rattle.std.proofs.Common.{◌≡◌, map, take}
use Rattle.summarize_pieces.proofs.groups.lent.Given as goal

abbrev pub invariant-loop-vector : goal.invariant-loop-vector
invariant-loop-vector l = map (λ c. c.now) l.lent.items ≡ take l.vector-index l.vectors
