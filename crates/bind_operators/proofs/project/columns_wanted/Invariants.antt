use Rattle.std.proofs.Common.{take}
use Rattle.bind_expr.specs.Outcome.{Answers}
use Rattle.bind_operators.specs.Faults.{each_bound}
use Rattle.bind_operators.specs.Known.{column_wanted}
use Rattle.bind_operators.proofs.project.columns_wanted.Given as goal

abbrev pub invariant-each : goal.invariant-each
invariant-each l = Answers l.columns (each_bound (column_wanted l.operator l.known l.rows.columns) (take l.n-index l.names))
