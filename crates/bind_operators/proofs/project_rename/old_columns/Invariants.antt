use Rattle.std.proofs.Common.{take}
use Rattle.kql_syntax.specs.declared.tree.Name.{Name}
use Rattle.bind_expr.specs.Outcome.{Answers}
use Rattle.bind_operators.specs.Faults.{each_bound}
use Rattle.bind_operators.specs.Known.{column_wanted}
use Rattle.bind_operators.proofs.project_rename.old_columns.Given as goal

abbrev pub invariant-each : goal.invariant-each
invariant-each l = Answers l.columns (each_bound (λ (r : Name × Name). column_wanted l.operator l.known l.rows.columns r.1) (take l.r-index l.renames))
