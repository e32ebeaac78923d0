-- `sort` (or `order`) and `top`. Their rows are serialised.
use Rattle.std.specs.Prelude.{Bool, true, false, List, [], ◌∷◌, Option, None, Some, Ok}
use Rattle.kql_lexer.specs.declared.place.Place.{Place}
use Rattle.kql_bound.specs.declared.literal.Lit.{Lit}
use Rattle.kql_bound.specs.declared.parts.BKey.{BKey}
use Rattle.kql_bound.specs.declared.plan.Op.TheVariants as op
use Rattle.kql_meaning.specs.declared.position.Position.TheVariants as position
use Rattle.kql_syntax.specs.declared.query.Key.{Key}
use Rattle.kql_syntax.specs.declared.query.NullsEnd.{NullsEnd}
use Rattle.kql_syntax.specs.declared.query.NullsEnd.TheVariants as nulls
use Rattle.kql_syntax.specs.declared.query.SortOrder.{SortOrder}
use Rattle.kql_syntax.specs.declared.query.SortOrder.TheVariants as order
use Rattle.kql_syntax.specs.declared.tree.Expr.{Expr}
use Rattle.bind_expr.specs.Outcome.{Outcome, ◌>>=◌}
use Rattle.bind_expr.specs.declared.scope.Scope.{Scope}
use Rattle.bind_expr.specs.declared.typed.Typed.{Typed}
use Rattle.bind_operators.specs.declared.bound.BoundOp.{BoundOp}
use Rattle.bind_operators.specs.declared.known.Known.{Known}
use Rattle.bind_operators.specs.declared.shape.Shape.{Shape}
use Rattle.bind_operators.specs.declared.wanted.Wanted.TheVariants as wanted
use Rattle.bind_operators.specs.Answers.{over, serialised}
use Rattle.bind_operators.specs.Faults.{each_bound, fault_if, unless}
use Rattle.bind_operators.specs.Known.{scope_at}
use Rattle.bind_operators.specs.Wanted.{count_in, is_no_count, row_count_bound, typed_bound}

-- Descending unless `asc` is given.
unfoldable pub is_ascending : Option SortOrder → Bool
is_ascending None = false
is_ascending (Some (order.Asc place)) = true
is_ascending (Some (order.Desc place)) = false

-- Nulls stand first where the order ascends, unless their end is given.
unfoldable pub are_nulls_first : Bool → Option NullsEnd → Bool
are_nulls_first ascending None = ascending
are_nulls_first ascending (Some (nulls.First place)) = true
are_nulls_first ascending (Some (nulls.Last place)) = false

unfoldable pub key_of : Key → Typed → BKey
key_of k t = record { expr = t.expr; asc = is_ascending k.order; nulls_first = are_nulls_first (is_ascending k.order) k.nulls }

unfoldable pub key_bound : Scope → Key → Outcome BKey
key_bound scope k = do
  t ← typed_bound wanted.Key k.value scope
  Ok (key_of k t)

unfoldable pub sort_bound : List Key → Known → Shape → Outcome BoundOp
sort_bound keys known rows = do
  bound ← each_bound (key_bound (scope_at known rows position.Plain)) keys
  Ok (over (op.Sort bound) (serialised rows))

unfoldable pub topped : Place → Shape → Lit → BKey → Outcome BoundOp
topped operator rows n key = unless (fault_if (is_no_count n) 414 operator) (over (op.Top (count_in n) (key ∷ [])) (serialised rows))

unfoldable pub top_bound : Place → Expr → Key → Known → Shape → Outcome BoundOp
top_bound operator e k known rows = do
  n ← row_count_bound operator known rows e
  key ← key_bound (scope_at known rows position.Plain) k
  topped operator rows n key
