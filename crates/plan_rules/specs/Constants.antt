-- Expressions whose value is the same at every row: without columns, step records, window functions and aggregates.
use Rattle.std.specs.Prelude.{Bool, true, false, ◌&&◌}
use Rattle.std.specs.List.{list_all}
use Rattle.kql_bound.specs.declared.expr.BExpr.{BExpr, fold-BExpr}
use Rattle.kql_bound.specs.declared.expr.BExpr.TheOpen.{BExpr-F}
use Rattle.kql_bound.specs.declared.expr.ChainSign.{ChainSign}

abbrev pub constant_step : BExpr-F Bool → Bool
constant_step (BExpr-F.Literal l) = true
constant_step (BExpr-F.Call f args) = list_all (λ b. b) args
constant_step (BExpr-F.Chain first links) = first && list_all (λ (l : ChainSign × Bool). l.1) links
constant_step (BExpr-F.Path whole steps) = whole && list_all (λ b. b) steps
constant_step _ = false

unfoldable pub is_constant : BExpr → Bool
is_constant = fold-BExpr Bool constant_step
