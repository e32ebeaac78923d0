use Rattle.std.proofs.Common.{◌≡◌, length}
use Rattle.kql_functions.specs.Kinds.{all_listed}
use Rattle.kql_functions.proofs.shapes.all_listed.Given as goal

abbrev pub invariant-kinds : goal.invariant-kinds
invariant-kinds l = all_listed l.kind l.left ≡ all_listed l.fn.kind l.fn.kinds

abbrev pub decreases-kinds : goal.decreases-kinds
decreases-kinds l = length l.left
