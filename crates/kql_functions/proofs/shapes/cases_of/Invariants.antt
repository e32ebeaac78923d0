use Rattle.std.proofs.Common.{◌≡◌, length}
use Rattle.kql_functions.specs.Kinds.{cases_of}
use Rattle.kql_functions.proofs.shapes.cases_of.Given as goal

abbrev pub invariant-cases : goal.invariant-cases
invariant-cases l = cases_of l.last l.left ≡ cases_of l.fn.last l.fn.kinds

abbrev pub decreases-cases : goal.decreases-cases
decreases-cases l = length l.left
