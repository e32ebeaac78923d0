use Rattle.std.proofs.Common.{◌≡◌, take, map}
use Rattle.kql_values.specs.Moves.{column_of}
use Rattle.kql_values.proofs.vectors.pick_schema.Given as goal

abbrev pub invariant-loop-place : goal.invariant-loop-place
invariant-loop-place l = l.picked ≡ map (column_of l.schema) (take l.place-index l.places)
