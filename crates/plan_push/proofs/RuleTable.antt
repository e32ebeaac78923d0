-- Each use of a rule improves the operators, wherever they stand.
use Rattle.std.proofs.Common.{◌≡◌, ◌≤◌, ◌+◌, Bool, true, false, List, [], ◌∷◌, ◌++◌, length, refl, sym, ap, ap₂, ◌∙◌, subst, inl, inr, arith}
use Rattle.std.specs.Prelude.{◌⊎◌, Option, None, Some}
use Rattle.std.proofs.lemmas.List.{length-append}
use Rattle.kql_cells.specs.declared.schema.Column.{Column}
use Rattle.kql_bound.specs.declared.plan.Op.{Op}
use Rattle.kql_meaning.specs.Fits.{Known, ops_columns}
use Rattle.kql_fit_laws.specs.LawsOfOperators.{EachOpKeeps}
use Rattle.plan_rules.proofs.Context.{becomes-append, becomes-behind}
use Rattle.plan_rules.proofs.RuleLaws.{bare_serialize_law, expand_then_filter_law, extend_then_filter_law, extend_then_take_law, group_then_filter_law, idle_projection_law, join_then_filter_law, join_then_right_filter_law, parse_then_filter_law, parse_then_take_law, project_then_filter_law, project_then_take_law, sort_then_filter_law, sort_then_take_law, top_then_take_law, true_filter_law, two_filters_law, two_projections_law, two_sorts_law, two_takes_law, unique_then_filter_law, unseen_then_count_law}
use Rattle.plan_rules.proofs.Sizes.{ops-append}
use Rattle.plan_rules.proofs.Weights.{ops-lighter-before, ops-lighter-behind}
use Rattle.plan_rules.specs.Improves.{Improves}
use Rattle.plan_rules.specs.Rules.{bare_serialize, expand_then_filter, extend_then_filter, extend_then_take, group_then_filter, idle_projection, join_then_filter, join_then_right_filter, parse_then_filter, parse_then_take, project_then_filter, project_then_take, sort_then_filter, sort_then_take, top_then_take, true_filter, two_filters, two_projections, two_sorts, two_takes, unique_then_filter, unseen_then_count}
use Rattle.plan_neighbours.specs.Table.{change_rule, merge_rule, rename_rule, single_rule}
use Rattle.plan_swaps.specs.Swaps.{filter_rule, first_some, swap_rule, take_rule}

pub improves-append : (k : Known) (inside : Bool) (cs : List Column) (xs ys behind : List Op) → Improves k inside cs xs ys → Improves k inside cs (xs ++ behind) (ys ++ behind)
improves-append k inside cs xs ys behind h = record {
  becomes = becomes-append k inside cs xs ys behind h.becomes;
  lighter = ops-lighter-before xs ys behind h.lighter;
  no_longer = omega (arith, length-append xs behind, length-append ys behind, h.no_longer);
  no_larger = omega (arith, ops-append xs behind, ops-append ys behind, h.no_larger);
}

pub improves-behind : EachOpKeeps → (k : Known) (inside : Bool) (cs mid : List Column) (before xs ys : List Op) → ops_columns before k inside cs ≡ Some mid → Improves k inside mid xs ys → Improves k inside cs (before ++ xs) (before ++ ys)
improves-behind each k inside cs mid before xs ys e h = record {
  becomes = becomes-behind each k inside cs mid before xs ys e h.becomes;
  lighter = ops-lighter-behind before xs ys h.lighter;
  no_longer = omega (arith, length-append before xs, length-append before ys, h.no_longer);
  no_larger = omega (arith, ops-append before xs, ops-append before ys, h.no_larger);
}

pub either-some : {A : Type 0} (a b : Option A) (c : A) → first_some a b ≡ Some c → (a ≡ Some c) ⊎ (b ≡ Some c)
either-some None b c e = inr e
either-some (Some x) b c e = inl e

pub single_rule-improves : (k : Known) (inside : Bool) (cs : List Column) (x : Op) (zs : List Op) → single_rule cs x ≡ Some zs → Improves k inside cs (x ∷ []) zs
unfolding single_rule
single_rule-improves k inside cs x zs e = elim (either-some (true_filter x) (first_some (bare_serialize x) (idle_projection cs x)) zs e) [
  | inl h ↦ true_filter_law k inside cs x zs h
  | inr e2 ↦ elim (either-some (bare_serialize x) (idle_projection cs x) zs e2) [
    | inl h ↦ bare_serialize_law k inside cs x zs h
    | inr h ↦ idle_projection_law k inside cs x zs h
  ]
]

pub merge_rule-improves : (k : Known) (inside : Bool) (cs : List Column) (x y : Op) (zs : List Op) → merge_rule x y ≡ Some zs → Improves k inside cs (x ∷ y ∷ []) zs
unfolding merge_rule
merge_rule-improves k inside cs x y zs e =
    let r5 = first_some (unseen_then_count x y) (two_filters x y) in
    let r4 = first_some (two_projections x y) r5 in
    let r3 = first_some (two_sorts x y) r4 in
    let r2 = first_some (top_then_take x y) r3 in
    let r1 = first_some (sort_then_take x y) r2 in
    elim (either-some (two_takes x y) r1 zs e) [
      | inl h ↦ two_takes_law k inside cs x y zs h
      | inr e1 ↦ elim (either-some (sort_then_take x y) r2 zs e1) [
        | inl h ↦ sort_then_take_law k inside cs x y zs h
        | inr e2 ↦ elim (either-some (top_then_take x y) r3 zs e2) [
          | inl h ↦ top_then_take_law k inside cs x y zs h
          | inr e3 ↦ elim (either-some (two_sorts x y) r4 zs e3) [
            | inl h ↦ two_sorts_law k inside cs x y zs h
            | inr e4 ↦ elim (either-some (two_projections x y) r5 zs e4) [
              | inl h ↦ two_projections_law k inside cs x y zs h
              | inr e5 ↦ elim (either-some (unseen_then_count x y) (two_filters x y) zs e5) [
                | inl h ↦ unseen_then_count_law k inside cs x y zs h
                | inr h ↦ two_filters_law k inside cs x y zs h
              ]
            ]
          ]
        ]
      ]
    ]

pub filter_rule-improves : (k : Known) (inside : Bool) (cs : List Column) (x y : Op) (zs : List Op) → filter_rule cs x y ≡ Some zs → Improves k inside cs (x ∷ y ∷ []) zs
unfolding filter_rule
filter_rule-improves k inside cs x y zs e =
    let r4 = first_some (join_then_filter cs x y) (unique_then_filter cs x y) in
    let r3 = first_some (parse_then_filter x y) r4 in
    let r2 = first_some (expand_then_filter x y) r3 in
    let r1 = first_some (sort_then_filter x y) r2 in
    elim (either-some (extend_then_filter x y) r1 zs e) [
      | inl h ↦ extend_then_filter_law k inside cs x y zs h
      | inr e1 ↦ elim (either-some (sort_then_filter x y) r2 zs e1) [
        | inl h ↦ sort_then_filter_law k inside cs x y zs h
        | inr e2 ↦ elim (either-some (expand_then_filter x y) r3 zs e2) [
          | inl h ↦ expand_then_filter_law k inside cs x y zs h
          | inr e3 ↦ elim (either-some (parse_then_filter x y) r4 zs e3) [
            | inl h ↦ parse_then_filter_law k inside cs x y zs h
            | inr e4 ↦ elim (either-some (join_then_filter cs x y) (unique_then_filter cs x y) zs e4) [
              | inl h ↦ join_then_filter_law k inside cs x y zs h
              | inr h ↦ unique_then_filter_law k inside cs x y zs h
            ]
          ]
        ]
      ]
    ]

pub take_rule-improves : (k : Known) (inside : Bool) (cs : List Column) (x y : Op) (zs : List Op) → take_rule x y ≡ Some zs → Improves k inside cs (x ∷ y ∷ []) zs
unfolding take_rule
take_rule-improves k inside cs x y zs e =
    let r1 = first_some (project_then_take x y) (parse_then_take x y) in
    elim (either-some (extend_then_take x y) r1 zs e) [
      | inl h ↦ extend_then_take_law k inside cs x y zs h
      | inr e1 ↦ elim (either-some (project_then_take x y) (parse_then_take x y) zs e1) [
        | inl h ↦ project_then_take_law k inside cs x y zs h
        | inr h ↦ parse_then_take_law k inside cs x y zs h
      ]
    ]

pub swap_rule-improves : (k : Known) (inside : Bool) (cs : List Column) (x y : Op) (zs : List Op) → swap_rule cs x y ≡ Some zs → Improves k inside cs (x ∷ y ∷ []) zs
unfolding swap_rule
swap_rule-improves k inside cs x y zs e = elim (either-some (take_rule x y) (filter_rule cs x y) zs e) [
  | inl h ↦ take_rule-improves k inside cs x y zs h
  | inr h ↦ filter_rule-improves k inside cs x y zs h
]

pub rename_rule-improves : (k : Known) (inside : Bool) (cs : List Column) (x y : Op) (zs : List Op) → rename_rule k cs x y ≡ Some zs → Improves k inside cs (x ∷ y ∷ []) zs
unfolding rename_rule
rename_rule-improves k inside cs x y zs e =
    let r1 = first_some (join_then_right_filter k cs x y) (group_then_filter x y) in
    elim (either-some (project_then_filter x y) r1 zs e) [
      | inl h ↦ project_then_filter_law k inside cs x y zs h
      | inr e1 ↦ elim (either-some (join_then_right_filter k cs x y) (group_then_filter x y) zs e1) [
        | inl h ↦ join_then_right_filter_law k inside cs x y zs h
        | inr h ↦ group_then_filter_law k inside cs x y zs h
      ]
    ]

pub change_rule-improves : (k : Known) (inside : Bool) (cs : List Column) (x y : Op) (zs : List Op) → change_rule k cs x y ≡ Some zs → Improves k inside cs (x ∷ y ∷ []) zs
unfolding change_rule
change_rule-improves k inside cs x y zs e = elim (either-some (merge_rule x y) (rename_rule k cs x y) zs e) [
  | inl h ↦ merge_rule-improves k inside cs x y zs h
  | inr h ↦ rename_rule-improves k inside cs x y zs h
]
