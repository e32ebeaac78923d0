-- `where`: a predicate, over rows as they are.
use Rattle.std.specs.Prelude.{Ok}
use Rattle.kql_cells.specs.declared.value.Kind.TheVariants as kind
use Rattle.kql_bound.specs.declared.plan.Op.TheVariants as op
use Rattle.kql_meaning.specs.declared.position.Position.TheVariants as position
use Rattle.kql_syntax.specs.declared.tree.Expr.{Expr}
use Rattle.bind_expr.specs.Outcome.{Outcome, ◌>>=◌}
use Rattle.bind_operators.specs.declared.bound.BoundOp.{BoundOp}
use Rattle.bind_operators.specs.declared.known.Known.{Known}
use Rattle.bind_operators.specs.declared.shape.Shape.{Shape}
use Rattle.bind_operators.specs.declared.wanted.Wanted.TheVariants as wanted
use Rattle.bind_operators.specs.Answers.{over}
use Rattle.bind_operators.specs.Known.{scope_at}
use Rattle.bind_operators.specs.Wanted.{typed_bound}

unfoldable pub where_bound : Expr → Known → Shape → Outcome BoundOp
where_bound e known rows = do
  t ← typed_bound (wanted.Is kind.Bool) e (scope_at known rows position.Window)
  Ok (over (op.Where t.expr) rows)
