-- Two neighbours that change places are the same two operators.
use Rattle.std.proofs.Common.{◌≡◌, ℕ, Bool, true, false, List, [], ◌∷◌, refl, sym, ap, ap₂, ◌∙◌, inl, inr}
use Rattle.std.specs.Prelude.{◌⊎◌, Option, None, Some}
use Rattle.kql_cells.specs.declared.schema.Column.{Column}
use Rattle.kql_bound.specs.declared.plan.Op.{Op}
use Rattle.plan_rules.proofs.RuleViews.{both-some, expand-is, extend-is, filter-is, join-is, parse-is, project-is, sort-is, take-is, when-some}
use Rattle.plan_rules.specs.Rules.{both_of, expand_then_filter, extend_then_filter, extend_then_take, join_then_filter, parse_then_filter, parse_then_take, project_then_take, sort_then_filter, unique_then_filter, when}
use Rattle.plan_rules.specs.Views.{expand_of, extend_of, filter_of, join_of, parse_of, project_of, sort_of, take_of}
use Rattle.plan_push.proofs.RuleTable.{either-some}
use Rattle.plan_swaps.specs.Swaps.{filter_rule, first_some, swap_rule, take_rule}

-- A rule on two views whose operators are the two turned round.
swapped : {A B : Type 0} (a : Option A) (b : Option B) (test : A → B → Bool) (first : B → Op) (second : A → Op) (x y : Op) (zs : List Op) → ((v : A) → a ≡ Some v → x ≡ second v) → ((w : B) → b ≡ Some w → y ≡ first w) → both_of a b (λ v w. when (test v w) (first w ∷ second v ∷ [])) ≡ Some zs → zs ≡ y ∷ x ∷ []
swapped a b test first second x y zs fx fy e =
    let r = both-some a b (λ v w. when (test v w) (first w ∷ second v ∷ [])) zs e in
    let made = when-some (test r.0 r.1) (first r.1 ∷ second r.0 ∷ []) zs r.4 in
    sym made.1 ∙ ap₂ (λ f s. f ∷ s ∷ []) (sym (fy r.1 r.3)) (sym (fx r.0 r.2))

extend-filter : (x y : Op) (zs : List Op) → extend_then_filter x y ≡ Some zs → zs ≡ y ∷ x ∷ []
unfolding extend_then_filter
extend-filter x y zs e = swapped (extend_of x) (filter_of y) _ _ _ x y zs (λ v h. extend-is x v h) (λ w h. filter-is y w h) e

sort-filter : (x y : Op) (zs : List Op) → sort_then_filter x y ≡ Some zs → zs ≡ y ∷ x ∷ []
unfolding sort_then_filter
sort-filter x y zs e = swapped (sort_of x) (filter_of y) _ _ _ x y zs (λ v h. sort-is x v h) (λ w h. filter-is y w h) e

expand-filter : (x y : Op) (zs : List Op) → expand_then_filter x y ≡ Some zs → zs ≡ y ∷ x ∷ []
unfolding expand_then_filter
expand-filter x y zs e = swapped (expand_of x) (filter_of y) _ _ _ x y zs (λ v h. expand-is x v h) (λ w h. filter-is y w h) e

parse-filter : (x y : Op) (zs : List Op) → parse_then_filter x y ≡ Some zs → zs ≡ y ∷ x ∷ []
unfolding parse_then_filter
parse-filter x y zs e = swapped (parse_of x) (filter_of y) _ _ _ x y zs (λ v h. parse-is x v h) (λ w h. filter-is y w h) e

join-filter : (cs : List Column) (x y : Op) (zs : List Op) → join_then_filter cs x y ≡ Some zs → zs ≡ y ∷ x ∷ []
unfolding join_then_filter
join-filter cs x y zs e = swapped (join_of x) (filter_of y) _ _ _ x y zs (λ v h. join-is x v h) (λ w h. filter-is y w h) e

unique-filter : (cs : List Column) (x y : Op) (zs : List Op) → unique_then_filter cs x y ≡ Some zs → zs ≡ y ∷ x ∷ []
unfolding unique_then_filter
unique-filter cs x y zs e = swapped (join_of x) (filter_of y) _ _ _ x y zs (λ v h. join-is x v h) (λ w h. filter-is y w h) e

extend-take : (x y : Op) (zs : List Op) → extend_then_take x y ≡ Some zs → zs ≡ y ∷ x ∷ []
unfolding extend_then_take
extend-take x y zs e = swapped (extend_of x) (take_of y) _ _ _ x y zs (λ v h. extend-is x v h) (λ w h. take-is y w h) e

project-take : (x y : Op) (zs : List Op) → project_then_take x y ≡ Some zs → zs ≡ y ∷ x ∷ []
unfolding project_then_take
project-take x y zs e = swapped (project_of x) (take_of y) _ _ _ x y zs (λ v h. project-is x v h) (λ w h. take-is y w h) e

parse-take : (x y : Op) (zs : List Op) → parse_then_take x y ≡ Some zs → zs ≡ y ∷ x ∷ []
unfolding parse_then_take
parse-take x y zs e = swapped (parse_of x) (take_of y) (λ v w. true) _ _ x y zs (λ v h. parse-is x v h) (λ w h. take-is y w h) e

filter-swap : (cs : List Column) (x y : Op) (zs : List Op) → filter_rule cs x y ≡ Some zs → zs ≡ y ∷ x ∷ []
unfolding filter_rule
filter-swap cs x y zs e =
    let r4 = first_some (join_then_filter cs x y) (unique_then_filter cs x y) in
    let r3 = first_some (parse_then_filter x y) r4 in
    let r2 = first_some (expand_then_filter x y) r3 in
    let r1 = first_some (sort_then_filter x y) r2 in
    elim (either-some (extend_then_filter x y) r1 zs e) [
      | inl h ↦ extend-filter x y zs h
      | inr e1 ↦ elim (either-some (sort_then_filter x y) r2 zs e1) [
        | inl h ↦ sort-filter x y zs h
        | inr e2 ↦ elim (either-some (expand_then_filter x y) r3 zs e2) [
          | inl h ↦ expand-filter x y zs h
          | inr e3 ↦ elim (either-some (parse_then_filter x y) r4 zs e3) [
            | inl h ↦ parse-filter x y zs h
            | inr e4 ↦ elim (either-some (join_then_filter cs x y) (unique_then_filter cs x y) zs e4) [
              | inl h ↦ join-filter cs x y zs h
              | inr h ↦ unique-filter cs x y zs h
            ]
          ]
        ]
      ]
    ]

take-swap : (x y : Op) (zs : List Op) → take_rule x y ≡ Some zs → zs ≡ y ∷ x ∷ []
unfolding take_rule
take-swap x y zs e =
    let r1 = first_some (project_then_take x y) (parse_then_take x y) in
    elim (either-some (extend_then_take x y) r1 zs e) [
      | inl h ↦ extend-take x y zs h
      | inr e1 ↦ elim (either-some (project_then_take x y) (parse_then_take x y) zs e1) [
        | inl h ↦ project-take x y zs h
        | inr h ↦ parse-take x y zs h
      ]
    ]

pub swap-is : (cs : List Column) (x y : Op) (zs : List Op) → swap_rule cs x y ≡ Some zs → zs ≡ y ∷ x ∷ []
unfolding swap_rule
swap-is cs x y zs e = elim (either-some (take_rule x y) (filter_rule cs x y) zs e) [
  | inl h ↦ take-swap x y zs h
  | inr h ↦ filter-swap cs x y zs h
]
