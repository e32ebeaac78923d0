-- The text of an expression.
use Rattle.std.specs.Prelude.{ℕ, List, [], ◌∷◌, ◌++◌, codes}
use Rattle.std.specs.List.{concat, flat_map, join_by}
use Rattle.kql_functions.specs.Names.{func_name}
use Rattle.kql_plan_text.specs.Literals.{lit_text, name_text}
use Rattle.kql_functions.specs.Names.{aggregate_name, window_name}
use Rattle.kql_bound.specs.Signs.{sign_func}
use Rattle.kql_bound.specs.declared.expr.BExpr.{BExpr, fold-BExpr}
use Rattle.kql_bound.specs.declared.expr.BExpr.TheOpen.{BExpr-F}
use Rattle.kql_bound.specs.declared.expr.ChainSign.{ChainSign}
use Rattle.kql_bound.specs.declared.expr.StepColumn.{StepColumn}

-- the texts of things with a comma between each two
abbrev pub with_commas : {X : Type 0} → (X → List ℕ) → List X → List ℕ
with_commas f xs = join_by f (codes ",") xs

-- `f(a,b)`, of the name and of the arguments with commas
unfoldable pub call_text : List ℕ → List ℕ → List ℕ
call_text name args = concat (name ∷ codes "(" ∷ args ∷ codes ")" ∷ [])

-- the same of two arguments
abbrev pub pair_text : List ℕ → List ℕ → List ℕ → List ℕ
pair_text name a b = concat (name ∷ codes "(" ∷ a ∷ codes "," ∷ b ∷ codes ")" ∷ [])

-- `s.c`
unfoldable pub step_text : StepColumn → List ℕ
step_text c = concat (name_text c.step ∷ codes "." ∷ name_text c.column ∷ [])

-- a chain: what stands on the left is one argument of the next sign
unfoldable pub chain_text : List ℕ → List (ChainSign × List ℕ) → List ℕ
chain_text left [] = left
chain_text left (link ∷ links) = chain_text (pair_text (func_name (sign_func link.0)) left link.1) links

-- a path: what stands on the left is looked into at the next step
unfoldable pub path_text : List ℕ → List (List ℕ) → List ℕ
path_text left [] = left
path_text left (step ∷ steps) = path_text (pair_text (codes "at") left step) steps

-- the text of an expression, from the texts of its parts
abbrev pub expr_step : BExpr-F (List ℕ) → List ℕ
expr_step (BExpr-F.Literal l) = lit_text l
expr_step (BExpr-F.Column n) = name_text n
expr_step (BExpr-F.Step c) = step_text c
expr_step (BExpr-F.Call f args) = call_text (func_name f) (with_commas (λ t. t) args)
expr_step (BExpr-F.Chain first links) = chain_text first links
expr_step (BExpr-F.Path whole steps) = path_text whole steps
expr_step (BExpr-F.Window f args) = call_text (window_name f) (with_commas (λ t. t) args)
expr_step (BExpr-F.Aggregate f args) = call_text (aggregate_name f) (with_commas (λ t. t) args)

-- the text of an expression
unfoldable pub expr_text : BExpr → List ℕ
expr_text = fold-BExpr (List ℕ) expr_step

-- A chain and a path from left to right: what is written before the first part, and what behind it.

-- `-(+(` for `+` and then `-`
unfoldable pub chain_front : List (ChainSign × BExpr) → List ℕ
chain_front [] = []
chain_front (link ∷ links) = chain_front links ++ (func_name (sign_func link.0) ++ codes "(")

-- `,b` and `)`
abbrev pub argument_end : BExpr → List ℕ
argument_end e = concat (codes "," ∷ expr_text e ∷ codes ")" ∷ [])

abbrev pub chain_end : List (ChainSign × BExpr) → List ℕ
chain_end links = flat_map (λ link. argument_end link.1) links

abbrev pub path_front : List BExpr → List ℕ
path_front steps = flat_map (λ step. codes "at(") steps

abbrev pub path_end : List BExpr → List ℕ
path_end steps = flat_map argument_end steps
