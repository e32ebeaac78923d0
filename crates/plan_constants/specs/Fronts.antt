-- Chains and paths whose front is a literal that takes in what stands behind it.
use Rattle.std.specs.Prelude.{List, [], ◌∷◌, Option, option_and_then, option_map}
use Rattle.kql_functions.specs.declared.func.Func.{Func}
use Rattle.kql_bound.specs.declared.expr.BExpr.{BExpr}
use Rattle.kql_bound.specs.declared.expr.BExpr.TheVariants as V
use Rattle.kql_bound.specs.declared.expr.ChainSign.{ChainSign}
use Rattle.plan_rules.specs.Folding.{folded_chain, folded_path, literal_joined, sound_literal}

-- What a front and the part behind it become, where both are literals.
unfoldable pub joined : Func → BExpr → BExpr → Option BExpr
joined f front e = option_map V.Literal (option_and_then (λ a. literal_joined f a e) (sound_literal front))

-- A chain, and a path, of a front that takes in nothing more.
unfoldable pub ended_chain : BExpr → List (ChainSign × BExpr) → BExpr
ended_chain front [] = folded_chain front []
ended_chain front (l ∷ ls) = V.Chain front (l ∷ ls)

unfoldable pub ended_path : BExpr → List BExpr → BExpr
ended_path front [] = folded_path front []
ended_path front (e ∷ es) = V.Path front (e ∷ es)
