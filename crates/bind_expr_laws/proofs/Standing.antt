-- When an expression stands rightly in a position, but for what its types say.
use Rattle.std.specs.Prelude.{Bool, true, not, ◌&&◌, List, map}
use Rattle.std.specs.List.{list_all}
use Rattle.kql_functions.specs.declared.aggregate.Aggregate.{Aggregate}
use Rattle.kql_bound.specs.declared.expr.BExpr.{BExpr, para-BExpr}
use Rattle.kql_bound.specs.declared.expr.BExpr.TheOpen.{BExpr-F}
use Rattle.kql_bound.specs.declared.expr.ChainSign.{ChainSign}
use Rattle.kql_meaning.specs.FittingExpressions.{takes_columns}
use Rattle.kql_meaning.specs.declared.position.Position.{Position}
use Rattle.kql_meaning.specs.declared.position.Position.TheVariants as position
use Rattle.bind_expr.specs.GroupForms.{counts_badly}

-- Whether a call of an aggregate in a position counts rightly: lists and sets stand in `Group` alone.
abbrev pub counts_well : Position → Aggregate → List BExpr → Bool
counts_well position.Group f args = not (counts_badly f args)
counts_well _ f args = true

-- A part, and whether it stands rightly.
abbrev pub Tried : Type 0
Tried = BExpr × Bool

abbrev pub part_of : Tried → BExpr
part_of a = a.0

abbrev pub is_right : Tried → Bool
is_right a = a.1

abbrev pub stands_step : Position → BExpr-F Tried → Bool
stands_step at (BExpr-F.Literal l) = true
stands_step at (BExpr-F.Column n) = takes_columns at
stands_step at (BExpr-F.Step c) = takes_columns at
stands_step at (BExpr-F.Call f args) = list_all is_right args
stands_step at (BExpr-F.Chain first links) = is_right first && list_all (λ (l : ChainSign × Tried). is_right l.1) links
stands_step at (BExpr-F.Path whole steps) = is_right whole && list_all is_right steps
stands_step at (BExpr-F.Window f args) = true
stands_step at (BExpr-F.Aggregate f args) = counts_well at f (map part_of args)

-- Whether no column stands outside the arguments of an aggregate, but where a position takes columns, and each list and set in
-- `Group` is given a number of elements that is a long of 0 or more.
unfoldable pub stands : Position → BExpr → Bool
stands at = para-BExpr Bool (stands_step at)
