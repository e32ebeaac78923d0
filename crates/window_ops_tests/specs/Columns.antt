-- Two columns, as arguments and as keys.
use Rattle.std.specs.Prelude.{ℕ, true, List, [], ◌∷◌}
use Rattle.kql_bound.specs.declared.expr.BExpr.{BExpr}
use Rattle.kql_bound.specs.declared.expr.BExpr.TheVariants as expr
use Rattle.kql_bound.specs.declared.parts.BKey.{BKey}

abbrev pub two_columns : List ℕ → List ℕ → List BExpr
two_columns a b = expr.Column a ∷ expr.Column b ∷ []

abbrev pub key : List ℕ → BKey
key a = record { expr = expr.Column a; asc = true; nulls_first = true }

abbrev pub two_keys : List ℕ → List ℕ → List BKey
two_keys a b = key a ∷ key b ∷ []
