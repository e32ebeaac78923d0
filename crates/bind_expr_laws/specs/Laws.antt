-- What is promised of an expression that is bound.
use Rattle.std.specs.Prelude.{◌≡◌, true, false, Some, Ok}
use Rattle.kql_syntax.specs.declared.tree.Expr.{Expr}
use Rattle.kql_syntax.specs.declared.tree.Name.{Name}
use Rattle.kql_bound.specs.declared.literal.Lit.{Lit}
use Rattle.kql_meaning.specs.Expressions.{kind_of}
use Rattle.kql_meaning.specs.FittingExpressions.{call_or_expr_fits, expr_fits, is_aggregate_call, takes_columns}
use Rattle.kql_meaning.specs.Literals.{literal_fits}
use Rattle.kql_meaning.specs.declared.position.Position.TheVariants as position
use Rattle.bind_expr.specs.Bound.{bound_expr}
use Rattle.bind_expr.specs.Constants.{constant_of}
use Rattle.bind_expr.specs.GroupForms.{has_bad_count, has_bare_column, has_several_results}
use Rattle.bind_expr.specs.Names.{name_bound}
use Rattle.bind_expr.specs.declared.scope.Scope.{Scope}
use Rattle.bind_expr.specs.declared.typed.Typed.{Typed}
use Rattle.bind_expr_laws.specs.Scopes.{IsSoundScope, read_scope}

-- It has its type over the scope's columns. It fits where columns may stand. As an item of `summarize` it fits, perhaps with several result
-- columns, but for what `summarize` refuses then, and as one with one column where it is no call with several; as an item of `make-series`,
-- where it is one call of an aggregate. The literal of a constant, wherever it stands, is of the constant's type, or null, and well formed.
pub record IsSound (scope : Scope) (t : Typed) : Type 0 where
  pub kind : kind_of t.expr scope.schema ≡ Some t.kind
  pub fits : takes_columns scope.position ≡ true → expr_fits t.expr (read_scope scope) scope.position ≡ true
  pub group : scope.position ≡ position.Group → has_bare_column t.expr ≡ false → has_bad_count t.expr ≡ false → call_or_expr_fits t.expr (read_scope scope) position.Group ≡ true
  pub one : scope.position ≡ position.Group → has_several_results t.expr ≡ false → has_bare_column t.expr ≡ false → has_bad_count t.expr ≡ false → expr_fits t.expr (read_scope scope) position.Group ≡ true
  pub series : scope.position ≡ position.Series → is_aggregate_call t.expr ≡ true → expr_fits t.expr (read_scope scope) position.Series ≡ true
  pub constant : (l : Lit) → constant_of t ≡ Some l → (literal_fits l ≡ true) × (l.kind ≡ t.kind)

abbrev pub BoundIsSound : Type 0
BoundIsSound = (e : Expr) (scope : Scope) (t : Typed) → IsSoundScope scope → bound_expr e scope ≡ Ok t → IsSound scope t

-- The same of a name alone.
abbrev pub NameIsSound : Type 0
NameIsSound = (n : Name) (scope : Scope) (t : Typed) → IsSoundScope scope → name_bound n scope ≡ Ok t → IsSound scope t
