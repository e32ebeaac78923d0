-- What every refusal is.
use Rattle.std.specs.Prelude.{◌≡◌, ℕ, ◌==◌, ◌||◌, ◌&&◌, Bool, true, nat_le, Ok, Err, ⊤}
use Rattle.kql_syntax.specs.declared.tree.Expr.{Expr}
use Rattle.bind_expr.specs.Bound.{bound_expr}
use Rattle.bind_expr.specs.Outcome.{Outcome}
use Rattle.bind_expr.specs.declared.fault.BindFault.TheVariants as fault
use Rattle.bind_expr.specs.declared.scope.Scope.{Scope}

-- The codes that binding an expression tells.
unfoldable pub is_bind_code : ℕ → Bool
is_bind_code code = nat_le 401 code && nat_le code 409 || (code == 418 || code == 420)

-- A value, or a refusal with one of these codes.
abbrev pub tells : {X : Type 0} → Outcome X → Type 0
tells (Ok x) = ⊤
tells (Err (fault.Refused code place)) = is_bind_code code ≡ true
tells (Err fault.OutOfMemory) = ⊥

pub record Tells {X : Type 0} (r : Outcome X) : Type 0 where
  pub holds : tells r

-- Each expression is bound, or refused with one of these codes.
abbrev pub EachIsTold : Type 0
EachIsTold = (e : Expr) (scope : Scope) → Tells (bound_expr e scope)
