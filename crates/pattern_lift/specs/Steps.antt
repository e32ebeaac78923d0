-- Steps of the bodies: a call whose arguments are lifted, and a name that is left or not.
use Rattle.std.specs.Prelude.{ℕ, Bool, true, false, List, [], ◌∷◌, ◌++◌}
use Rattle.kql_functions.specs.declared.func.Func.{Func}
use Rattle.kql_bound.specs.declared.expr.BExpr.{BExpr}
use Rattle.kql_bound.specs.declared.expr.BExpr.TheOpen.{BExpr-F}
use Rattle.pattern_lift.specs.Lifted.{lifted_step}

abbrev pub lifted_call : List ℕ → Func → List BExpr → BExpr
lifted_call marks f args = lifted_step marks (BExpr-F.Call f args)

-- The names that are left so far, once it is known whether the next is set.
abbrev pub with_left : List (List ℕ) → List ℕ → Bool → List (List ℕ)
with_left names n true = names
with_left names n false = names ++ n ∷ []
