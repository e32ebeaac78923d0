use Rattle.std.proofs.Common.{take}
use Rattle.bind_expr.specs.Outcome.{Answers}
use Rattle.bind_operators.specs.Faults.{each_bound}
use Rattle.bind_groups.specs.Summarize.{distinct_column}
use Rattle.bind_groups.proofs.distinct.columns_named.Given as goal

abbrev pub invariant-each : goal.invariant-each
invariant-each l = Answers l.columns (each_bound (distinct_column l.operator l.known l.rows) (take l.n-index l.names))
