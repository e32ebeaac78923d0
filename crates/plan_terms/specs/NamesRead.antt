-- The names of the columns that a plain expression reads, in the order in which they stand in it.
use Rattle.std.specs.Prelude.{ℕ, List, [], ◌∷◌, ◌++◌}
use Rattle.std.specs.List.{flat_map}
use Rattle.kql_bound.specs.declared.expr.BExpr.{BExpr, fold-BExpr}
use Rattle.kql_bound.specs.declared.expr.BExpr.TheOpen.{BExpr-F}
use Rattle.kql_bound.specs.declared.expr.ChainSign.{ChainSign}

abbrev pub names_step : BExpr-F (List (List ℕ)) → List (List ℕ)
names_step (BExpr-F.Column n) = n ∷ []
names_step (BExpr-F.Call f args) = flat_map (λ ns. ns) args
names_step (BExpr-F.Chain first links) = first ++ flat_map (λ (l : ChainSign × List (List ℕ)). l.1) links
names_step (BExpr-F.Path whole steps) = whole ++ flat_map (λ ns. ns) steps
names_step _ = []

unfoldable pub names_read : BExpr → List (List ℕ)
names_read = fold-BExpr (List (List ℕ)) names_step

-- Those of several, and those of the links of a chain.
unfoldable pub names_in : List BExpr → List (List ℕ)
names_in es = flat_map names_read es

unfoldable pub names_in_links : List (ChainSign × BExpr) → List (List ℕ)
names_in_links links = flat_map (λ (l : ChainSign × BExpr). names_read l.1) links
