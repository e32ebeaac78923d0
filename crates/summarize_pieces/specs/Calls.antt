-- The calls of aggregates in expressions, from left to right, and what they give for rows.
use Rattle.std.specs.Prelude.{◌≡◌, List, [], ◌∷◌, ◌++◌, true, drop, map, slice_index_or, Option, None, Some, if◌then◌else◌}
use Rattle.std.specs.List.{AllByRecursion, flat_map}
use Rattle.kql_cells.specs.Table.{Grid}
use Rattle.kql_cells.specs.declared.schema.Column.{Column}
use Rattle.kql_cells.specs.declared.value.Value.{Value}
use Rattle.kql_functions.specs.declared.aggregate.Aggregate.{Aggregate}
use Rattle.kql_functions.specs.declared.aggregate.Aggregate.TheVariants as aggregate
use Rattle.kql_bound.specs.declared.expr.BExpr.{BExpr, out-BExpr, para-BExpr}
use Rattle.kql_bound.specs.declared.expr.BExpr.TheOpen.{BExpr-F}
use Rattle.kql_bound.specs.declared.expr.BExpr.TheVariants as V
use Rattle.kql_bound.specs.declared.expr.ChainSign.{ChainSign}
use Rattle.kql_bound.specs.declared.parts.BItem.{BItem}
use Rattle.kql_meaning.specs.declared.position.Position.TheVariants as position
use Rattle.kql_meaning.specs.Expressions.{kind_of, val, values_in}
use Rattle.kql_meaning.specs.FittingExpressions.{call_or_expr_fits, scope_of}
use Rattle.kql_meaning.specs.Values.{absent_as}
use Rattle.kql_scalar_fns.specs.Arguments.{argument}
use Rattle.summarize_op.specs.Calls.{IsCall, best_row, is_best}

-- The calls in an expression. In their arguments stand none.

-- An expression, and the calls in it.
abbrev pub WithCalls : Type 0
WithCalls = BExpr × List (Aggregate × List BExpr)

abbrev pub calls_step : BExpr-F WithCalls → List (Aggregate × List BExpr)
calls_step (BExpr-F.Literal l) = []
calls_step (BExpr-F.Column n) = []
calls_step (BExpr-F.Step c) = []
calls_step (BExpr-F.Call f args) = flat_map (λ (a : WithCalls). a.1) args
calls_step (BExpr-F.Chain first links) = first.1 ++ flat_map (λ (l : ChainSign × WithCalls). l.1.1) links
calls_step (BExpr-F.Path whole steps) = whole.1 ++ flat_map (λ (a : WithCalls). a.1) steps
calls_step (BExpr-F.Window f args) = []
calls_step (BExpr-F.Aggregate f args) = (f, map (λ (a : WithCalls). a.0) args) ∷ []

unfoldable pub calls_in : BExpr → List (Aggregate × List BExpr)
calls_in = para-BExpr (List (Aggregate × List BExpr)) calls_step

-- Those in several expressions, and in the parts of a chain behind its first.
unfoldable pub calls_in_all : List BExpr → List (Aggregate × List BExpr)
calls_in_all es = flat_map calls_in es

unfoldable pub calls_along : List (ChainSign × BExpr) → List (Aggregate × List BExpr)
calls_along links = flat_map (λ (l : ChainSign × BExpr). calls_in l.1) links

-- The calls of items. An item that is a call of `take_any` has one for each of its columns.

unfoldable pub call_columns : Aggregate → List BExpr → Option (List BExpr)
call_columns aggregate.TakeAny args = Some args
call_columns _ args = None

abbrev pub first_columns_step : BExpr-F BExpr → Option (List BExpr)
first_columns_step (BExpr-F.Aggregate f args) = call_columns f args
first_columns_step _ = None

-- The columns of an expression that is a call of `take_any`.
unfoldable pub first_columns : BExpr → Option (List BExpr)
first_columns e = first_columns_step (out-BExpr e)

unfoldable pub firsts : List BExpr → List (Aggregate × List BExpr)
firsts columns = map (λ (e : BExpr). (aggregate.TakeAny, e ∷ [])) columns

unfoldable pub calls_by : Option (List BExpr) → BExpr → List (Aggregate × List BExpr)
calls_by None e = calls_in e
calls_by (Some columns) e = firsts columns

unfoldable pub item_calls : BExpr → List (Aggregate × List BExpr)
item_calls e = calls_by (first_columns e) e

unfoldable pub calls_of : List BItem → List (Aggregate × List BExpr)
calls_of items = flat_map (λ (b : BItem). item_calls b.expr) items

-- The further columns of `arg_max` and `arg_min`: the arguments that are taken at the row that is chosen.
unfoldable pub further_args : Aggregate × List BExpr → List BExpr
further_args (f, args) = if is_best f then drop 1 args else []

abbrev pub further_step : BExpr-F BExpr → List BExpr
further_step (BExpr-F.Aggregate f args) = further_args (f, args)
further_step _ = []

-- Those of an expression that is a call.
unfoldable pub further_columns : BExpr → List BExpr
further_columns e = further_step (out-BExpr e)

-- Calls that fit.
pub record AreCalls (columns : List Column) (calls : List (Aggregate × List BExpr)) : Type 0 where
  pub each : AllByRecursion (λ (c : Aggregate × List BExpr). IsCall columns c.0 c.1) calls

-- An item that fits over groups.
pub record IsItem (columns : List Column) (e : BExpr) : Type 0 where
  pub fits : call_or_expr_fits e (scope_of columns) position.Group ≡ true

-- What a call gives.

-- Whether values begin with what calls give over a group of rows.
unfoldable pub AreGiven : List (Aggregate × List BExpr) → Grid → List Value → Type 0
AreGiven [] u vs = Unit {0}
AreGiven (c ∷ cs) u vs = (argument vs 0 ≡ val (V.Aggregate c.0 c.1) u 0 []) × AreGiven cs u (drop 1 vs)

-- What the further columns of a call are over a group of rows.
unfoldable pub further_over : Aggregate × List BExpr → Grid → List Value
further_over (f, args) u = values_in (further_args (f, args)) u (best_row f args u) []

-- What they are, from what is kept of the row that is chosen. Where nothing is kept there is no row, and each column has what stands there
-- where there is no value.
unfoldable pub further_row : List Column → List BExpr → List Value → List Value
further_row columns es [] = map (λ (e : BExpr). absent_as (kind_of e columns)) es
further_row columns es (v ∷ vs) = v ∷ vs

-- Whether rows begin with those that are kept of calls over a group of rows.
unfoldable pub AreFurther : List Column → List (Aggregate × List BExpr) → Grid → List (List Value) → Type 0
AreFurther columns [] u rows = Unit {0}
AreFurther columns (c ∷ cs) u rows = (further_row columns (further_args c) (slice_index_or rows 0 []) ≡ further_over c u) × AreFurther columns cs u (drop 1 rows)
