use Rattle.std.proofs.Common.{◌≡◌, length}
use Rattle.kql_functions.specs.Kinds.{same_kinds}
use Rattle.kql_functions.proofs.shapes.same_kinds.Given as goal

abbrev pub invariant-kinds : goal.invariant-kinds
invariant-kinds l = same_kinds l.left l.wanted ≡ same_kinds l.fn.kinds l.fn.taken

abbrev pub decreases-kinds : goal.decreases-kinds
decreases-kinds l = length l.left
