-- What an expression reads, and expressions under other names.
use Rattle.std.specs.Prelude.{ℕ, Bool, true, false, ◌&&◌, List}
use Rattle.std.specs.List.{list_all}
use Rattle.kql_bound.specs.declared.expr.BExpr.{BExpr, fold-BExpr}
use Rattle.kql_bound.specs.declared.expr.BExpr.TheOpen.{BExpr-F}
use Rattle.kql_bound.specs.declared.expr.BExpr.TheVariants as V
use Rattle.kql_bound.specs.declared.expr.ChainSign.{ChainSign}

-- Whether an expression is plain, which is without window functions and aggregates, and each column that it reads passes a test.
abbrev pub reads_step : (List ℕ → Bool) → BExpr-F Bool → Bool
reads_step p (BExpr-F.Literal l) = true
reads_step p (BExpr-F.Column n) = p n
reads_step p (BExpr-F.Step c) = true
reads_step p (BExpr-F.Call f args) = list_all (λ b. b) args
reads_step p (BExpr-F.Chain first links) = first && list_all (λ (l : ChainSign × Bool). l.1) links
reads_step p (BExpr-F.Path whole steps) = whole && list_all (λ b. b) steps
reads_step p (BExpr-F.Window f args) = false
reads_step p (BExpr-F.Aggregate f args) = false

unfoldable pub reads_only : (List ℕ → Bool) → BExpr → Bool
reads_only p = fold-BExpr Bool (reads_step p)

-- An expression whose columns have other names.
abbrev pub with_names_step : (List ℕ → List ℕ) → BExpr-F BExpr → BExpr
with_names_step f (BExpr-F.Literal l) = V.Literal l
with_names_step f (BExpr-F.Column n) = V.Column (f n)
with_names_step f (BExpr-F.Step c) = V.Step c
with_names_step f (BExpr-F.Call g args) = V.Call g args
with_names_step f (BExpr-F.Chain first links) = V.Chain first links
with_names_step f (BExpr-F.Path whole steps) = V.Path whole steps
with_names_step f (BExpr-F.Window g args) = V.Window g args
with_names_step f (BExpr-F.Aggregate g args) = V.Aggregate g args

unfoldable pub with_names : (List ℕ → List ℕ) → BExpr → BExpr
with_names f = fold-BExpr BExpr (with_names_step f)
