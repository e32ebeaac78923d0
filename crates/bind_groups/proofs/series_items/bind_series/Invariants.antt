use Rattle.std.proofs.Common.{take}
use Rattle.bind_expr.specs.Outcome.{Answers}
use Rattle.bind_groups.specs.MakeSeries.{series_bound}
use Rattle.bind_groups.proofs.series_items.bind_series.Given as goal

abbrev pub invariant-each : goal.invariant-each
invariant-each l = Answers l.done (series_bound l.operator l.known l.rows (take l.s-index l.items))
