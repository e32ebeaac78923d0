-- Constants, and their values.
use Rattle.std.specs.Prelude.{◌≡◌, Bool, true, false, ◌&&◌, List, [], ◌∷◌, Option, None, Some, if◌then◌else◌}
use Rattle.std.specs.List.{list_all}
use Rattle.kql_cells.specs.Table.{Grid}
use Rattle.kql_cells.specs.declared.value.Value.{Value}
use Rattle.kql_bound.specs.declared.expr.BExpr.{BExpr, fold-BExpr}
use Rattle.kql_bound.specs.declared.expr.BExpr.TheOpen.{BExpr-F}
use Rattle.kql_bound.specs.declared.expr.BExpr.TheVariants as V
use Rattle.kql_bound.specs.declared.expr.ChainSign.{ChainSign}
use Rattle.kql_bound.specs.declared.literal.Lit.{Lit}
use Rattle.kql_meaning.specs.Expressions.{val}
use Rattle.kql_scalar.specs.Scalar.{is_scalar}
use Rattle.bind_expr.specs.declared.typed.Typed.{Typed}

-- Whether an expression reads no column and no step record, and holds no window function and no aggregate.
abbrev pub is_constant_step : BExpr-F Bool → Bool
is_constant_step (BExpr-F.Literal l) = true
is_constant_step (BExpr-F.Column n) = false
is_constant_step (BExpr-F.Step c) = false
is_constant_step (BExpr-F.Call f args) = list_all (λ b. b) args
is_constant_step (BExpr-F.Chain first links) = first && list_all (λ (l : ChainSign × Bool). l.1) links
is_constant_step (BExpr-F.Path whole steps) = whole && list_all (λ b. b) steps
is_constant_step (BExpr-F.Window f args) = false
is_constant_step (BExpr-F.Aggregate f args) = false

unfoldable pub is_constant : BExpr → Bool
is_constant = fold-BExpr Bool is_constant_step

pub record IsConstant (e : BExpr) : Type 0 where
  pub holds : is_constant e ≡ true

pub record AreConstant (es : List BExpr) : Type 0 where
  pub each : list_all is_constant es ≡ true

pub record AreLinksConstant (links : List (ChainSign × BExpr)) : Type 0 where
  pub each : list_all (λ (l : ChainSign × BExpr). is_constant l.1) links ≡ true

-- One row of no columns, of which a constant reads nothing.
abbrev pub bare_row : Grid
bare_row = record { columns = []; lines = [] ∷ [] }

-- The value of a constant.
unfoldable pub constant_value : BExpr → Value
constant_value e = val e bare_row 0 []

-- The literal that a constant is: a literal of a constant is well formed, as all are that are bound.
unfoldable pub constant_of : Typed → Option Lit
constant_of t = if is_constant t.expr && is_scalar t.expr then Some (record { kind = t.kind; value = constant_value t.expr }) else None

abbrev pub settled_as : Typed → Option Lit → Typed
settled_as t None = t
settled_as t (Some l) = record { expr = V.Literal l; kind = l.kind }

-- A constant as its literal, and all else as it is.
unfoldable pub settled : Typed → Typed
settled t = settled_as t (constant_of t)
