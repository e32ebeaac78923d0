use Rattle.std.proofs.Common.{take}
use Rattle.bind_expr.specs.Outcome.{Answers}
use Rattle.bind_operators.specs.Faults.{each_bound}
use Rattle.bind_groups.specs.Summarize.{key_column}
use Rattle.bind_groups.proofs.distinct.all_columns.Given as goal

abbrev pub invariant-each : goal.invariant-each
invariant-each l = Answers l.all (each_bound (key_column l.star) (take l.c-index l.columns))
