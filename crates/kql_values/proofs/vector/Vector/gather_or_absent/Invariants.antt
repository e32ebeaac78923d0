use Rattle.std.proofs.Common.{◌≡◌, take, map}
use Rattle.kql_cells.specs.Seen.{seen}
use Rattle.kql_values.specs.Moves.{value_or}
use Rattle.kql_values.proofs.vector.Vector.gather_or_absent.Given as goal

abbrev pub invariant-loop-place : goal.invariant-loop-place
invariant-loop-place l = l.gathered ≡ map (value_or (seen l.absent) l.self) (take l.place-index l.places)
