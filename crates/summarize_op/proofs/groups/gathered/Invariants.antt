use Rattle.std.proofs.Common.{◌≡◌, map, take}
use Rattle.kql_cells.specs.Seen.{value_at}
use Rattle.summarize_op.proofs.groups.gathered.Given as goal

abbrev pub invariant-loop-vector : goal.invariant-loop-vector
invariant-loop-vector l = l.gathered.items ≡ map (λ v. map (value_at v) l.places) (map (λ c. c.now) (take l.vector-index l.vectors))
