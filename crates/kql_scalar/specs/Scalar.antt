-- When an expression has a value at a row by itself.
use Rattle.std.specs.Prelude.{◌≡◌, Bool, true, false, ◌&&◌, List, IsTrue}
use Rattle.std.specs.List.{list_all}
use Rattle.kql_bound.specs.declared.expr.BExpr.{BExpr, fold-BExpr}
use Rattle.kql_bound.specs.declared.expr.BExpr.TheOpen.{BExpr-F}
use Rattle.kql_bound.specs.declared.expr.ChainSign.{ChainSign}
use Rattle.kql_meaning.specs.declared.position.Position.{Position}
use Rattle.kql_meaning.specs.declared.position.Position.TheVariants as position
use Rattle.kql_meaning.specs.FittingExpressions.{Scope, expr_fits}
use Rattle.kql_meaning.specs.Literals.{is_well_formed}

-- Whether no aggregate stands in an expression, and each literal is well formed.
abbrev pub is_scalar_step : BExpr-F Bool → Bool
is_scalar_step (BExpr-F.Literal l) = is_well_formed l.value
is_scalar_step (BExpr-F.Column name) = true
is_scalar_step (BExpr-F.Step c) = is_well_formed c.default.value
is_scalar_step (BExpr-F.Call f args) = list_all (λ b. b) args
is_scalar_step (BExpr-F.Chain first links) = first && list_all (λ (l : ChainSign × Bool). l.1) links
is_scalar_step (BExpr-F.Path whole steps) = whole && list_all (λ b. b) steps
is_scalar_step (BExpr-F.Window f args) = list_all (λ b. b) args
is_scalar_step (BExpr-F.Aggregate f args) = false

unfoldable pub is_scalar : BExpr → Bool
is_scalar = fold-BExpr Bool is_scalar_step

pub record IsScalar (e : BExpr) : Type 0 where
  pub holds : is_scalar e ≡ true

pub record AreScalar (es : List BExpr) : Type 0 where
  pub each : list_all is_scalar es ≡ true

pub record AreLinksScalar (links : List (ChainSign × BExpr)) : Type 0 where
  pub each : list_all (λ (l : ChainSign × BExpr). is_scalar l.1) links ≡ true

-- The positions in which no aggregate may stand.
unfoldable pub is_of_rows : Position → Bool
is_of_rows position.Group = false
is_of_rows position.Series = false
is_of_rows _ = true

-- An expression that fits in such a position is one.
abbrev pub ScalarWhereFits : Type 0
ScalarWhereFits = (e : BExpr) (scope : Scope) (at : Position) → IsTrue (is_of_rows at) → IsTrue (expr_fits e scope at) → IsScalar e
