use Rattle.std.proofs.Common.{◌≡◌, take, map}
use Rattle.kql_cells.specs.Seen.{value_at}
use Rattle.kql_values.proofs.store.gather_values.Given as goal

abbrev pub invariant-loop-place : goal.invariant-loop-place
invariant-loop-place l = l.gathered ≡ map (value_at l.values) (take l.place-index l.places)
