use Rattle.std.proofs.Common.{◌≡◌, length}
use Rattle.kql_functions.specs.Kinds.{are_pairs}
use Rattle.kql_functions.proofs.shapes.are_pairs.Given as goal

abbrev pub invariant-pairs : goal.invariant-pairs
invariant-pairs l = are_pairs l.left ≡ are_pairs l.fn.kinds

abbrev pub decreases-pairs : goal.decreases-pairs
decreases-pairs l = length l.left
