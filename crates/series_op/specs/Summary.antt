-- The `summarize` by bin and keys.
use Rattle.std.specs.Prelude.{List, [], ◌∷◌, map}
use Rattle.kql_functions.specs.declared.func.ArithmeticFunc.TheVariants as arithmetic
use Rattle.kql_functions.specs.declared.func.Func.TheVariants as func
use Rattle.kql_bound.specs.declared.expr.BExpr.{BExpr}
use Rattle.kql_bound.specs.declared.expr.BExpr.TheVariants as expr
use Rattle.kql_bound.specs.declared.parts.BItem.{BItem}
use Rattle.kql_bound.specs.declared.parts.GroupPlan.{GroupPlan}
use Rattle.kql_bound.specs.declared.parts.SeriesItem.{SeriesItem}
use Rattle.kql_bound.specs.declared.parts.SeriesPlan.{SeriesPlan}

-- The start of the bin of a row.
unfoldable pub bin_args : SeriesPlan → List BExpr
bin_args p = expr.Column p.axis ∷ expr.Literal p.step ∷ expr.Literal p.from ∷ []

unfoldable pub bin_expr : SeriesPlan → BExpr
bin_expr p = expr.Call (func.Arithmetic arithmetic.BinAt) (bin_args p)

-- The same under the name of the axis.
unfoldable pub bin_item : SeriesPlan → BItem
bin_item p = record { names = p.axis ∷ []; expr = bin_expr p }

-- The call of an aggregate under its name.
unfoldable pub group_item : SeriesItem → BItem
group_item i = record { names = i.name ∷ []; expr = i.expr }

-- The items of a series by the bin of a row and then by the keys.
unfoldable pub summary_plan : SeriesPlan → GroupPlan
summary_plan p = record { items = map group_item p.items; keys = bin_item p ∷ p.keys }
