use Rattle.std.proofs.Common.{◌≡◌, map, take}
use Rattle.std.specs.Prelude.{Some}
use Rattle.join_op.proofs.rows.places_there.Given as goal

-- the places so far, none of which is none
abbrev pub invariant-loop-k : goal.invariant-loop-k
invariant-loop-k l = take l.k l.places ≡ map (λ i. Some i) l.there
