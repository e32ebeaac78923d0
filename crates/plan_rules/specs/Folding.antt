-- The rule on the nodes of expressions: a node that is a constant and no literal becomes the literal of its value.
use Rattle.std.specs.Prelude.{Bool, true, not, ◌&&◌, List, [], ◌∷◌, Option, None, Some, map, option_and_then, option_map, unwrap_or, if◌then◌else◌}
use Rattle.std.specs.List.{list_all}
use Rattle.kql_functions.specs.declared.func.Func.{Func}
use Rattle.kql_functions.specs.Kinds.{result_kind}
use Rattle.kql_scalar_fns.specs.Applied.{applied}
use Rattle.kql_bound.specs.Signs.{sign_func}
use Rattle.kql_bound.specs.declared.expr.BExpr.{BExpr, fold-BExpr, para-BExpr}
use Rattle.kql_bound.specs.declared.expr.BExpr.TheOpen.{BExpr-F}
use Rattle.kql_bound.specs.declared.expr.BExpr.TheVariants as V
use Rattle.kql_bound.specs.declared.expr.ChainSign.{ChainSign}
use Rattle.kql_bound.specs.declared.literal.Lit.{Lit}
use Rattle.kql_meaning.specs.Expressions.{look}
use Rattle.kql_meaning.specs.FittingExpressions.{literal_of}
use Rattle.kql_meaning.specs.Literals.{is_well_formed}
use Rattle.plan_rules.specs.Constants.{is_constant}

-- Where the rule has nothing to do.

-- A part of an expression, and whether it is folded.
abbrev pub Tested : Type 0
Tested = BExpr × Bool

-- Chains and paths nest to the left, so that the first two parts are a node: whether the second, where there is one, is a constant.
abbrev pub goes_on : List Tested → Bool
goes_on [] = true
goes_on (a ∷ more) = is_constant a.0

abbrev pub goes_along : List (ChainSign × Tested) → Bool
goes_along [] = true
goes_along (l ∷ more) = is_constant l.1.0

-- Whether an expression is folded: no node of it is a constant, but for literals.
abbrev pub folded_test : BExpr-F Tested → Bool
folded_test (BExpr-F.Literal l) = true
folded_test (BExpr-F.Column n) = true
folded_test (BExpr-F.Step c) = true
folded_test (BExpr-F.Call f args) = not (list_all (λ (a : Tested). is_constant a.0) args) && list_all (λ (a : Tested). a.1) args
folded_test (BExpr-F.Chain first links) = not (is_constant first.0 && goes_along links) && (first.1 && list_all (λ (l : ChainSign × Tested). l.1.1) links)
folded_test (BExpr-F.Path whole steps) = not (is_constant whole.0 && goes_on steps) && (whole.1 && list_all (λ (a : Tested). a.1) steps)
folded_test (BExpr-F.Window f args) = list_all (λ (a : Tested). a.1) args
folded_test (BExpr-F.Aggregate f args) = list_all (λ (a : Tested). a.1) args

unfoldable pub is_folded : BExpr → Bool
is_folded = para-BExpr Bool folded_test

-- What an expression becomes, from its innermost parts on.

-- The literal that an expression is, if it is well formed, as each is that fits; and those of several, where each is one.
unfoldable pub sound_literal : BExpr → Option Lit
sound_literal e = option_and_then (λ (l : Lit). if is_well_formed l.value then Some l else None) (literal_of e)

unfoldable pub sound_literals : List BExpr → Option (List Lit)
sound_literals [] = Some []
sound_literals (e ∷ es) = option_and_then (λ l. option_map (λ ls. l ∷ ls) (sound_literals es)) (sound_literal e)

-- The literal of a call of literals, where its function takes their types.
unfoldable pub literal_called : Func → List Lit → Option Lit
literal_called f ls = option_map (λ k. record { kind = k; value = applied f (map (λ (l : Lit). l.value) ls) }) (result_kind f (map (λ (l : Lit). l.kind) ls))

-- That of a literal and what stands behind it in a chain or a path.
unfoldable pub literal_joined : Func → Lit → BExpr → Option Lit
literal_joined f a e = option_and_then (λ b. literal_called f (a ∷ b ∷ [])) (sound_literal e)

abbrev pub literal_or : BExpr → Option Lit → BExpr
literal_or e None = e
literal_or e (Some l) = V.Literal l

unfoldable pub folded_call : Func → List BExpr → BExpr
folded_call f args = literal_or (V.Call f args) (option_and_then (literal_called f) (sound_literals args))

-- A chain, and a path, that begins with a literal: the literals at its front become one.
unfoldable pub chain_from : Lit → List (ChainSign × BExpr) → BExpr
chain_from a [] = V.Literal a
chain_from a (l ∷ ls) = unwrap_or (option_map (λ b. chain_from b ls) (literal_joined (sign_func l.0) a l.1)) (V.Chain (V.Literal a) (l ∷ ls))

unfoldable pub path_from : Lit → List BExpr → BExpr
path_from a [] = V.Literal a
path_from a (e ∷ es) = unwrap_or (option_map (λ b. path_from b es) (literal_joined look a e)) (V.Path (V.Literal a) (e ∷ es))

unfoldable pub folded_chain : BExpr → List (ChainSign × BExpr) → BExpr
folded_chain first links = unwrap_or (option_map (λ a. chain_from a links) (sound_literal first)) (V.Chain first links)

unfoldable pub folded_path : BExpr → List BExpr → BExpr
folded_path whole steps = unwrap_or (option_map (λ a. path_from a steps) (sound_literal whole)) (V.Path whole steps)

abbrev pub folded_expr_step : BExpr-F BExpr → BExpr
folded_expr_step (BExpr-F.Literal l) = V.Literal l
folded_expr_step (BExpr-F.Column n) = V.Column n
folded_expr_step (BExpr-F.Step c) = V.Step c
folded_expr_step (BExpr-F.Call f args) = folded_call f args
folded_expr_step (BExpr-F.Chain first links) = folded_chain first links
folded_expr_step (BExpr-F.Path whole steps) = folded_path whole steps
folded_expr_step (BExpr-F.Window f args) = V.Window f args
folded_expr_step (BExpr-F.Aggregate f args) = V.Aggregate f args

unfoldable pub folded : BExpr → BExpr
folded = fold-BExpr BExpr folded_expr_step
