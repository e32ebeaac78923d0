-- Terms joined by `and` or by `or`: one call that holds them all, whose faults are those of nesting to the left.
use Rattle.std.specs.Prelude.{List, [], ◌∷◌, ◌++◌, Option, None, Some, Ok, Err}
use Rattle.kql_cells.specs.declared.value.Kind.{Kind}
use Rattle.kql_functions.specs.declared.func.Func.{Func}
use Rattle.kql_functions.specs.declared.func.Func.TheVariants as func
use Rattle.kql_functions.specs.declared.func.LogicFunc.{LogicFunc}
use Rattle.kql_functions.specs.Kinds.{result_kind}
use Rattle.kql_lexer.specs.declared.place.Place.{Place}
use Rattle.kql_bound.specs.declared.expr.BExpr.{BExpr}
use Rattle.kql_bound.specs.declared.expr.BExpr.TheVariants as V
use Rattle.bind_expr.specs.Operands.{beside}
use Rattle.bind_expr.specs.Outcome.{Outcome, ◌>>=◌}
use Rattle.bind_expr.specs.declared.fault.BindFault.TheVariants as fault
use Rattle.bind_expr.specs.declared.logic.Joined.{Joined}
use Rattle.bind_expr.specs.declared.typed.Typed.{Typed}

unfoldable pub joined_from : Typed → Joined
joined_from t = record { first = t.expr; others = []; kind = t.kind }

abbrev pub joined_whole : LogicFunc → BExpr → List BExpr → BExpr
joined_whole f first [] = first
joined_whole f first (e ∷ es) = V.Call (func.Logic f) (first ∷ e ∷ es)

unfoldable pub terms_whole : LogicFunc → Joined → Typed
terms_whole f j = record { expr = joined_whole f j.first j.others; kind = j.kind }

abbrev pub joined_as : Place → BExpr → List BExpr → BExpr → Option Kind → Outcome Joined
joined_as place first others right None = Err (fault.Refused 404 place)
joined_as place first others right (Some k) = Ok (record { first = first; others = others ++ right ∷ []; kind = k })

-- One term more, or 404 at its word. The first term alone can be dynamic: what is joined is a bool.
unfoldable pub with_term : LogicFunc → Place → Joined → Typed → Outcome Joined
with_term f place left right =
    let l : Typed = beside (record { expr = left.first; kind = left.kind }) right.kind in
    let r : Typed = beside right left.kind in
    joined_as place l.expr left.others r.expr (result_kind (func.Logic f) (l.kind ∷ r.kind ∷ []))

-- The same of terms that may have failed: the fault of the left side first.
abbrev pub term_link : LogicFunc → Outcome Joined → Place → Outcome Typed → Outcome Joined
term_link f before place next = do
  left ← before
  right ← next
  with_term f place left right

unfoldable pub terms_opened : Outcome Typed → Outcome Joined
terms_opened first = first >>= λ t. Ok (joined_from t)

unfoldable pub terms_closed : LogicFunc → Outcome Joined → Outcome Typed
terms_closed f terms = terms >>= λ j. Ok (terms_whole f j)
