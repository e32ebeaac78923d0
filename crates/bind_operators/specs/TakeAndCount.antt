-- `take` (or `limit`) and `count`.
use Rattle.std.specs.Prelude.{false}
use Rattle.kql_lexer.specs.declared.place.Place.{Place}
use Rattle.kql_bound.specs.declared.literal.Lit.{Lit}
use Rattle.kql_bound.specs.declared.plan.Op.TheVariants as op
use Rattle.kql_meaning.specs.TakeAndCount.{count_columns}
use Rattle.kql_syntax.specs.declared.tree.Expr.{Expr}
use Rattle.bind_expr.specs.Outcome.{Outcome, ◌>>=◌}
use Rattle.bind_operators.specs.declared.bound.BoundOp.{BoundOp}
use Rattle.bind_operators.specs.declared.known.Known.{Known}
use Rattle.bind_operators.specs.declared.shape.Shape.{Shape}
use Rattle.bind_operators.specs.Answers.{made, over}
use Rattle.bind_operators.specs.Faults.{fault_if, unless}
use Rattle.bind_operators.specs.Wanted.{count_in, is_no_count, row_count_bound}

unfoldable pub taken : Place → Shape → Lit → Outcome BoundOp
taken operator rows n = unless (fault_if (is_no_count n) 414 operator) (over (op.Take (count_in n)) rows)

unfoldable pub take_bound : Place → Expr → Known → Shape → Outcome BoundOp
take_bound operator e known rows = row_count_bound operator known rows e >>= taken operator rows

unfoldable pub counted : BoundOp
counted = made op.Count count_columns false
