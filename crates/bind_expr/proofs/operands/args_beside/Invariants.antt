use Rattle.std.proofs.Common.{length}
use Rattle.std.specs.Prelude.{Ok, fold, reverse}
use Rattle.bind_expr.specs.Operands.{args_beside, with_beside}
use Rattle.bind_expr.specs.Outcome.{Answers}
use Rattle.bind_expr.proofs.operands.args_beside.Given as goal

abbrev pub invariant-operands : goal.invariant-operands
invariant-operands l = Answers (fold (with_beside l.kind) l.taken (reverse l.left)) (Ok (args_beside l.kind l.fn.operands))

abbrev pub decreases-operands : goal.decreases-operands
decreases-operands l = length l.left
