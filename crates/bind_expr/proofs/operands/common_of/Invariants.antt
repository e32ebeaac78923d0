use Rattle.std.proofs.Common.{◌≡◌, length}
use Rattle.bind_expr.specs.Operands.{common_kind, kinds_of}
use Rattle.bind_expr.proofs.operands.common_of.Given as goal

abbrev pub invariant-operands : goal.invariant-operands
invariant-operands l = common_kind (kinds_of l.left) ≡ common_kind (kinds_of l.fn.operands)

abbrev pub decreases-operands : goal.decreases-operands
decreases-operands l = length l.left
