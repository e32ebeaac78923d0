-- Chains of `+ - * / %`, as nested to the left.
use Rattle.std.specs.Prelude.{List, [], ◌∷◌, ◌++◌, Option, None, Some, Ok, Err}
use Rattle.kql_cells.specs.declared.value.Kind.{Kind}
use Rattle.kql_functions.specs.Kinds.{result_kind}
use Rattle.kql_lexer.specs.declared.place.Place.{Place}
use Rattle.kql_bound.specs.Signs.{sign_func}
use Rattle.kql_bound.specs.declared.expr.BExpr.{BExpr}
use Rattle.kql_bound.specs.declared.expr.BExpr.TheVariants as V
use Rattle.kql_bound.specs.declared.expr.ChainSign.{ChainSign}
use Rattle.bind_expr.specs.Operands.{beside}
use Rattle.bind_expr.specs.Outcome.{Outcome, ◌>>=◌}
use Rattle.bind_expr.specs.declared.chain.Chained.{Chained}
use Rattle.bind_expr.specs.declared.fault.BindFault.TheVariants as fault
use Rattle.bind_expr.specs.declared.typed.Typed.{Typed}

unfoldable pub chained_from : Typed → Chained
chained_from t = record { first = t.expr; links = []; kind = t.kind }

abbrev pub whole : BExpr → List (ChainSign × BExpr) → BExpr
whole first [] = first
whole first (l ∷ ls) = V.Chain first (l ∷ ls)

unfoldable pub chain_whole : Chained → Typed
chain_whole c = record { expr = whole c.first c.links; kind = c.kind }

abbrev pub linked_as : ChainSign → Place → BExpr → List (ChainSign × BExpr) → BExpr → Option Kind → Outcome Chained
linked_as sign place first links right None = Err (fault.Refused 404 place)
linked_as sign place first links right (Some k) = Ok (record { first = first; links = links ++ (sign, right) ∷ []; kind = k })

-- One link more, or 404 at its sign. The first operand alone can be dynamic: no sign gives a dynamic value.
unfoldable pub linked : ChainSign → Place → Chained → Typed → Outcome Chained
linked sign place left right =
    let l : Typed = beside (record { expr = left.first; kind = left.kind }) right.kind in
    let r : Typed = beside right left.kind in
    linked_as sign place l.expr left.links r.expr (result_kind (sign_func sign) (l.kind ∷ r.kind ∷ []))

-- The same of a chain and an operand that may have failed: the fault of the left side first.
abbrev pub chain_link : ChainSign → Place → Outcome Chained → Outcome Typed → Outcome Chained
chain_link sign place before next = do
  left ← before
  right ← next
  linked sign place left right

unfoldable pub opened : Outcome Typed → Outcome Chained
opened first = first >>= λ t. Ok (chained_from t)

unfoldable pub closed : Outcome Chained → Outcome Typed
closed chain = chain >>= λ c. Ok (chain_whole c)
