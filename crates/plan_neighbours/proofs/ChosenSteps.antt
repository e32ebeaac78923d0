-- The items that are chosen, one after another.
use Rattle.std.proofs.Common.{◌≡◌, ℕ, List, [], ◌∷◌, ◌++◌, refl, sym, ap, ◌∙◌}
use Rattle.std.specs.Prelude.{Option, None, Some, option_and_then, option_map}
use Rattle.kql_bound.specs.declared.expr.BExpr.{BExpr}
use Rattle.kql_bound.specs.declared.parts.BItem.{BItem}
use Rattle.kql_meaning.specs.FittingExpressions.{column_of}
use Rattle.plan_rules.specs.Rules.{both_of, chosen_items, item_expr, renamed_item}

-- Items in front of those that are chosen.
abbrev pub in_front : List BItem → Option (List BItem) → Option (List BItem)
in_front done o = option_map (λ more. done ++ more) o

abbrev pub one_chosen : List BItem → BItem → Option BItem
one_chosen first b = option_map (λ e. renamed_item b.names e) (option_and_then (item_expr first) (column_of b.expr))

append-assoc : (xs ys : List BItem) (z : BItem) → xs ++ (z ∷ ys) ≡ (xs ++ z ∷ []) ++ ys
append-assoc [] ys z = refl
append-assoc (x ∷ xs) ys z = ap (λ zs. x ∷ zs) (append-assoc xs ys z)

both-step : (o : Option BExpr) (names : List (List ℕ)) (r : Option (List BItem)) (done : List BItem) (made : BItem) → option_map (λ e. renamed_item names e) o ≡ Some made → in_front done (both_of o r (λ e more. Some (renamed_item names e ∷ more))) ≡ in_front (done ++ made ∷ []) r
both-step None names r done made h = absurd cc
both-step (Some e) names None done made h = refl
both-step (Some e) names (Some more) done made h =
    let same : renamed_item names e ≡ made = cc in
    ap (λ z. Some (done ++ z ∷ more)) same ∙ ap (λ x. Some x) (append-assoc done more made)

pub chosen-more : (first : List BItem) (b : BItem) (bs done : List BItem) (made : BItem) → one_chosen first b ≡ Some made → in_front done (chosen_items first (b ∷ bs)) ≡ in_front (done ++ made ∷ []) (chosen_items first bs)
unfolding chosen_items
chosen-more first b bs done made h = both-step (option_and_then (item_expr first) (column_of b.expr)) b.names (chosen_items first bs) done made h

none-step : (o : Option BExpr) (names : List (List ℕ)) (r : Option (List BItem)) → option_map (λ e. renamed_item names e) o ≡ None → both_of o r (λ e more. Some (renamed_item names e ∷ more)) ≡ None
none-step None names r h = refl
none-step (Some e) names r h = absurd cc

pub chosen-none : (first : List BItem) (b : BItem) (bs : List BItem) → one_chosen first b ≡ None → chosen_items first (b ∷ bs) ≡ None
unfolding chosen_items
chosen-none first b bs h = none-step (option_and_then (item_expr first) (column_of b.expr)) b.names (chosen_items first bs) h

pub chosen-end : (first : List BItem) → chosen_items first [] ≡ Some []
unfolding chosen_items
chosen-end first = refl

pub ruleset chosen_steps = (chosen-more, chosen-none, chosen-end)
