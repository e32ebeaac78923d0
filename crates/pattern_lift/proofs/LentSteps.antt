-- Whether a call of two arguments reads a column that is lent.
use Rattle.std.proofs.Common.{◌≡◌, ℕ, false, List, [], ◌∷◌, length, get_or, Option, Some, None, refl, sym, ap, ap₂, ◌∙◌}
use Rattle.kql_functions.specs.declared.func.PatternFunc.{PatternFunc}
use Rattle.kql_bound.specs.declared.expr.BExpr.{BExpr}
use Rattle.pattern_lift.specs.Calls.{call_of, call_with, column_name, literal_text, reads_one}
use Rattle.pattern_lift.proofs.ShapeSteps.{own-two}

pub reads-other : (lent : List (List ℕ)) (f : PatternFunc) (args : List BExpr) → (length args ≡ 2 → ⊥) → reads_one lent (call_of f args) ≡ false
unfolding call_of
reads-other lent f [] two = refl
reads-other lent f (a ∷ []) two = refl
reads-other lent f (a ∷ b ∷ []) two = absurd (two refl)
reads-other lent f (a ∷ b ∷ c ∷ rest) two = refl

pub reads-none : (lent : List (List ℕ)) (f : PatternFunc) (args : List BExpr) (a : BExpr) → length args ≡ 2 → a ≡ get_or args 0 a → None ≡ column_name a → reads_one lent (call_of f args) ≡ false
reads-none lent f args a two at none = ap (reads_one lent) (own-two f args a a two ∙ ap (λ (c : Option (List ℕ)). call_with f c (literal_text (get_or args 1 a))) (ap column_name (sym at) ∙ sym none))

pub reads-by : (lent : List (List ℕ)) (f : PatternFunc) (args : List BExpr) (a b : BExpr) (c p : Option (List ℕ)) → length args ≡ 2 → a ≡ get_or args 0 a → b ≡ get_or args 1 b → c ≡ column_name a → p ≡ literal_text b → reads_one lent (call_with f c p) ≡ reads_one lent (call_of f args)
reads-by lent f args a b c p two at_a at_b column pattern =
    ap (reads_one lent) (ap₂ (call_with f) (column ∙ ap column_name at_a) (pattern ∙ ap literal_text at_b) ∙ sym (own-two f args a b two))
