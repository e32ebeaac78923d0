-- How large a plan is: its operators and the nodes of the expressions in them, plans in operators included. Chains and paths count as the
-- nodes that they mean nested to the left. Of a projection each item counts, and the nodes of the largest alone: of two
-- projections an expression of the first may stand in several items of the one that they become.
use Rattle.std.specs.Prelude.{ℕ, suc, ◌+◌, List, [], ◌∷◌, length, map, max}
use Rattle.kql_bound.specs.declared.expr.BExpr.{BExpr, fold-BExpr}
use Rattle.kql_bound.specs.declared.expr.BExpr.TheOpen.{BExpr-F}
use Rattle.kql_bound.specs.declared.expr.ChainSign.{ChainSign}
use Rattle.kql_bound.specs.declared.parts.BItem.{BItem}
use Rattle.kql_bound.specs.declared.parts.BKey.{BKey}
use Rattle.kql_bound.specs.declared.parts.ExpandItem.{ExpandItem}
use Rattle.kql_bound.specs.declared.parts.ScanStep.{ScanStep}
use Rattle.kql_bound.specs.declared.parts.SeriesItem.{SeriesItem}
use Rattle.kql_bound.specs.declared.plan.Op.{Op, fold-Op}
use Rattle.kql_bound.specs.declared.plan.Op.TheOpen.{Op-F, Plan-F}
use Rattle.kql_bound.specs.declared.plan.Plan.{Plan, fold-Plan}
use Rattle.kql_bound.specs.declared.plan.Source.{Source}
use Rattle.kql_bound.specs.declared.plan.Source.TheVariants as source

abbrev pub total : List ℕ → ℕ
total [] = 0
total (n ∷ ns) = n + total ns

abbrev pub largest : List ℕ → ℕ
largest [] = 0
largest (n ∷ ns) = max n (largest ns)

-- Expressions.

-- Parts behind the first of a chain or a path, each with the node that joins it.
abbrev pub links_size : List (ChainSign × ℕ) → ℕ
links_size links = total (map (λ (l : ChainSign × ℕ). suc l.1) links)

abbrev pub steps_size : List ℕ → ℕ
steps_size steps = total (map (λ n. suc n) steps)

abbrev pub expr_size_step : BExpr-F ℕ → ℕ
expr_size_step (BExpr-F.Literal l) = 1
expr_size_step (BExpr-F.Column n) = 1
expr_size_step (BExpr-F.Step c) = 1
expr_size_step (BExpr-F.Call f args) = suc (total args)
expr_size_step (BExpr-F.Chain first links) = first + links_size links
expr_size_step (BExpr-F.Path whole steps) = whole + steps_size steps
expr_size_step (BExpr-F.Window f args) = suc (total args)
expr_size_step (BExpr-F.Aggregate f args) = suc (total args)

unfoldable pub expr_size : BExpr → ℕ
expr_size = fold-BExpr ℕ expr_size_step

abbrev pub exprs_size : List BExpr → ℕ
exprs_size es = total (map expr_size es)

-- What operators hold.

unfoldable pub items_size : List BItem → ℕ
items_size items = total (map (λ (b : BItem). expr_size b.expr) items)

unfoldable pub projection_size : List BItem → ℕ
projection_size items = length items + largest (map (λ (b : BItem). expr_size b.expr) items)

unfoldable pub keys_size : List BKey → ℕ
keys_size keys = total (map (λ (k : BKey). expr_size k.expr) keys)

unfoldable pub series_size : List SeriesItem → ℕ
series_size items = total (map (λ (i : SeriesItem). expr_size i.expr) items)

unfoldable pub expand_size : List ExpandItem → ℕ
expand_size items = total (map (λ (i : ExpandItem). expr_size i.expr) items)

unfoldable pub scan_size : List ScanStep → ℕ
scan_size steps = total (map (λ (s : ScanStep). expr_size s.condition + items_size s.sets) steps)

unfoldable pub source_size : Source → ℕ
source_size (source.Print items) = items_size items
source_size _ = 0

-- Operators and plans.

abbrev pub op_size_step : Op-F ℕ ℕ → ℕ
op_size_step (Op-F.Where e) = suc (expr_size e)
op_size_step (Op-F.Extend items) = suc (items_size items)
op_size_step (Op-F.Project items) = suc (projection_size items)
op_size_step (Op-F.Take n) = 1
op_size_step Op-F.Count = 1
op_size_step Op-F.Serialize = 1
op_size_step (Op-F.Sort keys) = suc (keys_size keys)
op_size_step (Op-F.Top n keys) = suc (keys_size keys)
op_size_step (Op-F.Summarize g) = suc (items_size g.items + items_size g.keys)
op_size_step (Op-F.MakeSeries p) = suc (series_size p.items + items_size p.keys)
op_size_step (Op-F.MvExpand x) = suc (expand_size x.items)
op_size_step (Op-F.Parse p) = suc (expr_size p.text)
op_size_step (Op-F.Join j right) = suc right
op_size_step (Op-F.Union inner others) = suc (total others)
op_size_step (Op-F.Scan p) = suc (scan_size p.steps)
op_size_step (Op-F.Partition c ops) = suc (total ops)

abbrev pub plan_size_step : Plan-F ℕ ℕ → ℕ
plan_size_step p = source_size p.source + total p.ops

unfoldable pub op_size : Op → ℕ
op_size = fold-Op ℕ ℕ op_size_step plan_size_step

unfoldable pub plan_size : Plan → ℕ
plan_size = fold-Plan ℕ ℕ op_size_step plan_size_step

abbrev pub ops_size : List Op → ℕ
ops_size ops = total (map op_size ops)

abbrev pub plans_size : List Plan → ℕ
plans_size plans = total (map plan_size plans)
