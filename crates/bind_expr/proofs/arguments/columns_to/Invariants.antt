use Rattle.std.proofs.Common.{take}
use Rattle.bind_expr.specs.Arguments.{columns_to}
use Rattle.bind_expr.specs.Outcome.{Answers}
use Rattle.bind_expr.proofs.arguments.columns_to.Given as goal

abbrev pub invariant-columns : goal.invariant-columns
invariant-columns l = Answers l.taken (columns_to l.keys l.but l.fn.start (take l.column-index l.columns))
