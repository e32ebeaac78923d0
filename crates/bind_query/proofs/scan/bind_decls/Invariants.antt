use Rattle.std.proofs.Common.{take}
use Rattle.bind_expr.specs.Outcome.{Answers}
use Rattle.bind_operators.specs.Faults.{each_bound}
use Rattle.bind_query.specs.Scan.{decl_bound}
use Rattle.bind_query.proofs.scan.bind_decls.Given as goal

abbrev pub invariant-each : goal.invariant-each
invariant-each l = Answers l.bound (each_bound (decl_bound l.operator l.known l.rows) (take l.d-index l.declared))
