use Rattle.std.proofs.Common.{◌≡◌, length}
use Rattle.kql_functions.specs.Kinds.{all_same}
use Rattle.kql_functions.proofs.shapes.all_same.Given as goal

abbrev pub invariant-kinds : goal.invariant-kinds
invariant-kinds l = all_same l.kind l.left ≡ all_same l.fn.kind l.fn.kinds

abbrev pub decreases-kinds : goal.decreases-kinds
decreases-kinds l = length l.left
