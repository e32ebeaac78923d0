-- The table of the rules: what operators become where a rule fires at the first of them.
use Rattle.std.specs.Prelude.{List, [], ◌∷◌, ◌++◌, Option, None, Some, option_and_then}
use Rattle.kql_cells.specs.declared.schema.Column.{Column}
use Rattle.kql_bound.specs.declared.plan.Op.{Op}
use Rattle.kql_meaning.specs.Fits.{Known}
use Rattle.plan_rules.specs.Rules.{bare_serialize, group_then_filter, idle_projection, join_then_right_filter, project_then_filter, sort_then_take, top_then_take, true_filter, two_filters, two_projections, two_sorts, two_takes, unseen_then_count}
use Rattle.plan_swaps.specs.Swaps.{first_some, swap_rule}

-- One operator.
unfoldable pub single_rule : List Column → Op → Option (List Op)
single_rule cs x = first_some (true_filter x) (first_some (bare_serialize x) (idle_projection cs x))

-- Two neighbours that become one operator.
unfoldable pub merge_rule : Op → Op → Option (List Op)
merge_rule x y =
    first_some (two_takes x y)
    (first_some (sort_then_take x y)
    (first_some (top_then_take x y)
    (first_some (two_sorts x y)
    (first_some (two_projections x y)
    (first_some (unseen_then_count x y) (two_filters x y))))))

-- A filter that goes in front of its neighbour, or into it, under other names.
unfoldable pub rename_rule : Known → List Column → Op → Op → Option (List Op)
rename_rule k cs x y = first_some (project_then_filter x y) (first_some (join_then_right_filter k cs x y) (group_then_filter x y))

-- Two neighbours that become others.
unfoldable pub change_rule : Known → List Column → Op → Op → Option (List Op)
change_rule k cs x y = first_some (merge_rule x y) (rename_rule k cs x y)

-- Two neighbours: a rule that fires.
unfoldable pub pair_rule : Known → List Column → Op → Op → Option (List Op)
pair_rule k cs x y = first_some (swap_rule cs x y) (change_rule k cs x y)

-- Operators, over what a plan may name and over the columns before the first of them.
unfoldable pub rule_at : Known → List Column → List Op → Option (List Op)
rule_at k cs [] = None
rule_at k cs (x ∷ []) = single_rule cs x
rule_at k cs (x ∷ y ∷ rest) = first_some (option_and_then (λ zs. Some (zs ++ y ∷ rest)) (single_rule cs x)) (option_and_then (λ zs. Some (zs ++ rest)) (pair_rule k cs x y))
