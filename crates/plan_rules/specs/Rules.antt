-- The rules: what one operator, or two neighbours, become over tables of these columns; none where a rule does not fire.
use Rattle.std.specs.Prelude.{ℕ, Bool, true, false, not, ◌&&◌, ◌++◌, List, [], ◌∷◌, Option, None, Some, bytes_eq, cond, flat_map, is_some, map, min, option_and_then, option_map, unwrap_or, if◌then◌else◌}
use Rattle.kql_cells.specs.declared.schema.Column.{Column}
use Rattle.kql_cells.specs.declared.value.Value.{Value}
use Rattle.kql_cells.specs.declared.value.Value.TheVariants as value
use Rattle.kql_functions.specs.declared.func.Func.{Func}
use Rattle.kql_functions.specs.declared.func.Func.TheVariants as func
use Rattle.kql_functions.specs.declared.func.LogicFunc.TheVariants as logic
use Rattle.kql_bound.specs.declared.expr.BExpr.{BExpr, para-BExpr}
use Rattle.kql_bound.specs.declared.expr.BExpr.TheOpen.{BExpr-F}
use Rattle.kql_bound.specs.declared.expr.BExpr.TheVariants as V
use Rattle.kql_bound.specs.declared.literal.Lit.{Lit}
use Rattle.kql_bound.specs.declared.parts.BItem.{BItem}
use Rattle.kql_bound.specs.declared.parts.JoinKind.{JoinKind}
use Rattle.kql_bound.specs.declared.parts.JoinKind.TheVariants as join
use Rattle.kql_bound.specs.declared.parts.OnPair.{OnPair}
use Rattle.kql_bound.specs.declared.plan.Op.{Op}
use Rattle.kql_bound.specs.declared.plan.Op.TheVariants as op
use Rattle.kql_bound.specs.declared.parts.JoinPlan.{JoinPlan}
use Rattle.kql_bound.specs.declared.plan.Plan.{Plan}
use Rattle.kql_meaning.specs.FittingExpressions.{column_of, literal_of}
use Rattle.kql_meaning.specs.Fits.{Known}
use Rattle.plan_columns.specs.Made.{plan_makes}
use Rattle.kql_meaning.specs.FittingOperators.{are_distinct, expand_names}
use Rattle.kql_meaning.specs.Items.{items_names}
use Rattle.kql_meaning.specs.Join.{renamed, shown_columns}
use Rattle.kql_meaning.specs.Parse.{pattern_names}
use Rattle.kql_meaning.specs.Tables.{has_column, is_name_among, names_of}
use Rattle.plan_rules.specs.OwnNames.{inner_name, inner_or_same, own_name}
use Rattle.plan_rules.specs.Reads.{reads_only, with_names}
use Rattle.plan_rules.specs.Views.{expand_of, extend_of, filter_of, group_of_op, is_count, is_serialize, join_of, keeps_count, parse_of, project_of, sort_of, take_of, top_of}
use Rattle.kql_meaning.specs.RowByRow.{are_plain, is_plain}

-- Where two are there.
abbrev pub both_of : {A B C : Type 0} → Option A → Option B → (A → B → Option C) → Option C
both_of (Some a) (Some b) f = f a b
both_of _ _ f = None

abbrev pub when : Bool → List Op → Option (List Op)
when b ops = if b then Some ops else None

-- Whether a literal is true.
abbrev pub is_true_value : Value → Bool
is_true_value (value.Bool b) = b
is_true_value _ = false

abbrev pub is_true_literal : Option Lit → Bool
is_true_literal None = false
is_true_literal (Some l) = is_true_value l.value

abbrev pub and_func : Func
and_func = func.Logic logic.And

-- The terms of an expression: those of each argument of an `and`, so that an `and` in an `and` gives its own singly, and any other expression
-- alone.

-- An expression, and its terms where it is an `and`.
abbrev pub WithTerms : Type 0
WithTerms = BExpr × Option (List BExpr)

abbrev pub terms_or_alone : WithTerms → List BExpr
terms_or_alone w = unwrap_or w.1 (w.0 ∷ [])

abbrev pub terms_of_call : Func → List WithTerms → Option (List BExpr)
terms_of_call (func.Logic logic.And) args = Some (flat_map terms_or_alone args)
terms_of_call _ args = None

abbrev pub terms_step : BExpr-F WithTerms → Option (List BExpr)
terms_step (BExpr-F.Call f args) = terms_of_call f args
terms_step _ = None

unfoldable pub and_terms : BExpr → Option (List BExpr)
and_terms = para-BExpr (Option (List BExpr)) terms_step

unfoldable pub terms_of : BExpr → List BExpr
terms_of e = terms_or_alone (e, and_terms e)

-- Those of several.
unfoldable pub terms_in : List BExpr → List BExpr
terms_in es = flat_map terms_of es

-- Whether an expression is no `and`, as no term is.
unfoldable pub is_single : BExpr → Bool
is_single e = not (is_some (and_terms e))

unfoldable pub conjoined : BExpr → BExpr → BExpr
conjoined p q = V.Call and_func (terms_of p ++ terms_of q)

-- The kinds of join whose rows go by the left rows.
abbrev pub goes_by_left : JoinKind → Bool
goes_by_left join.Inner = true
goes_by_left join.LeftOuter = true
goes_by_left join.LeftSemi = true
goes_by_left join.LeftAnti = true
goes_by_left _ = false

abbrev pub reads_some : BExpr → Bool
reads_some q = not (reads_only (λ n. false) q)

-- The kind of join that takes the first left row of each key.
abbrev pub is_unique : JoinKind → Bool
is_unique join.InnerUnique = true
is_unique _ = false

-- A left key column: a column of the left table that is compared.
abbrev pub is_left_key : List OnPair → List Column → List ℕ → Bool
is_left_key on cs n = has_column n cs && is_name_among (map (λ (pair : OnPair). pair.left) on) n

abbrev pub has_keys : List BItem → Bool
has_keys [] = false
has_keys (b ∷ bs) = true

-- Whether items are these columns in order, each under its name.
abbrev pub is_one_name : List (List ℕ) → List ℕ → Bool
is_one_name [] n = false
is_one_name (m ∷ []) n = bytes_eq m n
is_one_name (m ∷ more) n = false

abbrev pub is_name : Option (List ℕ) → List ℕ → Bool
is_name None n = false
is_name (Some m) n = bytes_eq m n

unfoldable pub are_all_columns : List BItem → List Column → Bool
are_all_columns [] [] = true
are_all_columns (b ∷ bs) (c ∷ cs) = is_one_name b.names c.name && (is_name (column_of b.expr) c.name && are_all_columns bs cs)
are_all_columns _ _ = false

-- The expression of the item of a name, and the items of a projection each of which is a column of these.
unfoldable pub item_expr : List BItem → List ℕ → Option BExpr
item_expr [] n = None
item_expr (b ∷ bs) n = cond (is_name_among b.names n) (Some b.expr) (item_expr bs n)

abbrev pub renamed_item : List (List ℕ) → BExpr → BItem
renamed_item names e = record { names = names; expr = e }

unfoldable pub chosen_items : List BItem → List BItem → Option (List BItem)
chosen_items items [] = Some []
chosen_items items (b ∷ bs) = both_of (option_and_then (item_expr items) (column_of b.expr)) (chosen_items items bs) (λ e more. Some (renamed_item b.names e ∷ more))

-- The kinds of join that take a filter of right columns into the right plan.
abbrev pub takes_right : JoinKind → Bool
takes_right join.Inner = true
takes_right join.InnerUnique = true
takes_right join.RightOuter = true
takes_right join.RightSemi = true
takes_right join.RightAnti = true
takes_right _ = false

-- Those that give right columns alone, under the names that they have in the right table.
abbrev pub shows_right : JoinKind → Bool
shows_right join.RightSemi = true
shows_right join.RightAnti = true
shows_right _ = false

-- A right column alone: one of the right columns under the names that they have in the join, and no left one.
unfoldable pub is_right_name : JoinPlan → List Column → List Column → List ℕ → Bool
is_right_name j cs rc n =
    if shows_right j.kind then has_column n rc else not (has_column n cs) && has_column n (renamed (names_of cs) (shown_columns j rc))

-- The name that it has in the right table.
unfoldable pub right_name : JoinPlan → List Column → List Column → List ℕ → List ℕ
right_name j cs rc n = if shows_right j.kind then n else own_name (names_of cs) (shown_columns j rc) n

-- A plan with a filter at its end.
abbrev pub filtered : Plan → BExpr → Plan
filtered p q = record { source = p.source; ops = p.ops ++ op.Where q ∷ [] }

-- One operator.

-- `where true` is nothing.
unfoldable pub true_filter : Op → Option (List Op)
true_filter x = option_and_then (λ q. when (is_true_literal (literal_of q)) []) (filter_of x)

-- `serialize` without items is nothing.
unfoldable pub bare_serialize : Op → Option (List Op)
bare_serialize x = when (is_serialize x) []

-- `project` of all input columns in order under their names: nothing.
unfoldable pub idle_projection : List Column → Op → Option (List Op)
idle_projection cs x = option_and_then (λ items. when (are_all_columns items cs) []) (project_of x)

-- Two neighbours.

-- `where p`, `where q`: `where` of both.
unfoldable pub two_filters : Op → Op → Option (List Op)
two_filters x y = both_of (filter_of x) (filter_of y) (λ p q. when (is_plain q) (op.Where (conjoined p q) ∷ []))

-- `take a`, `take b`: `take` of the less.
unfoldable pub two_takes : Op → Op → Option (List Op)
two_takes x y = both_of (take_of x) (take_of y) (λ a b. when true (op.Take (min a b) ∷ []))

-- `sort K`, `take n`: `top n K`.
unfoldable pub sort_then_take : Op → Op → Option (List Op)
sort_then_take x y = both_of (sort_of x) (take_of y) (λ keys n. when true (op.Top n keys ∷ []))

-- Plain `extend I`, `where q`, q reads nothing that I sets: `where q`, `extend I`.
unfoldable pub extend_then_filter : Op → Op → Option (List Op)
extend_then_filter x y = both_of (extend_of x) (filter_of y) (λ items q.
    when (are_plain items && reads_only (λ n. not (is_name_among (items_names items) n)) q) (op.Where q ∷ op.Extend items ∷ []))

-- `sort K`, `where q`: `where q`, `sort K`.
unfoldable pub sort_then_filter : Op → Op → Option (List Op)
sort_then_filter x y = both_of (sort_of x) (filter_of y) (λ keys q. when (is_plain q) (op.Where q ∷ op.Sort keys ∷ []))

-- Plain `extend I`, `take n`: `take n`, `extend I`.
unfoldable pub extend_then_take : Op → Op → Option (List Op)
extend_then_take x y = both_of (extend_of x) (take_of y) (λ items n. when (are_plain items) (op.Take n ∷ op.Extend items ∷ []))

-- A join by left rows, `where q`, q reads left columns alone: `where q` before it.
unfoldable pub join_then_filter : List Column → Op → Op → Option (List Op)
join_then_filter cs x y = both_of (join_of x) (filter_of y) (λ j q.
    when (goes_by_left j.0.kind && (reads_only (λ n. has_column n cs) q && reads_some q)) (op.Where q ∷ op.Join j.0 j.1 ∷ []))

-- Plain `project I`, `where q`, each column that q reads is an item that is a column: `where` of q with the inner names, `project I`.
unfoldable pub project_then_filter : Op → Op → Option (List Op)
project_then_filter x y = both_of (project_of x) (filter_of y) (λ items q.
    when (are_plain items && reads_only (λ n. is_some (inner_name items n)) q) (op.Where (with_names (inner_or_same items) q) ∷ op.Project items ∷ []))

-- `top n K`, `take m`: `top` of the less, K.
unfoldable pub top_then_take : Op → Op → Option (List Op)
top_then_take x y = both_of (top_of x) (take_of y) (λ t m. when true (op.Top (min t.0 m) t.1 ∷ []))

-- `sort K1`, `sort K2`: `sort` by K2 and then K1.
unfoldable pub two_sorts : Op → Op → Option (List Op)
two_sorts x y = both_of (sort_of x) (sort_of y) (λ first second. when true (op.Sort (second ++ first) ∷ []))

-- `sort`, `extend` or `project`, `count`: `count`.
unfoldable pub unseen_then_count : Op → Op → Option (List Op)
unseen_then_count x y = when (keeps_count x && is_count y) (op.Count ∷ [])

-- `mv-expand X`, `where q`, q reads nothing that X sets: swapped.
unfoldable pub expand_then_filter : Op → Op → Option (List Op)
expand_then_filter x y = both_of (expand_of x) (filter_of y) (λ e q.
    when (reads_only (λ n. not (is_name_among (expand_names e.items) n)) q) (op.Where q ∷ op.MvExpand e ∷ []))

-- `parse X`, `where q`, q reads nothing that X sets: swapped.
unfoldable pub parse_then_filter : Op → Op → Option (List Op)
parse_then_filter x y = both_of (parse_of x) (filter_of y) (λ p q.
    when (reads_only (λ n. not (is_name_among (pattern_names p.pattern) n)) q) (op.Where q ∷ op.Parse p ∷ []))

-- Plain `project I`, `take n`: swapped.
unfoldable pub project_then_take : Op → Op → Option (List Op)
project_then_take x y = both_of (project_of x) (take_of y) (λ items n. when (are_plain items) (op.Take n ∷ op.Project items ∷ []))

-- `parse X`, `take n`: swapped.
unfoldable pub parse_then_take : Op → Op → Option (List Op)
parse_then_take x y = both_of (parse_of x) (take_of y) (λ p n. when true (op.Take n ∷ op.Parse p ∷ []))

-- `join` innerunique, `where q`, q reads left key columns alone: `where q` before it.
unfoldable pub unique_then_filter : List Column → Op → Op → Option (List Op)
unique_then_filter cs x y = both_of (join_of x) (filter_of y) (λ j q.
    when (is_unique j.0.kind && (reads_only (is_left_key j.0.on cs) q && reads_some q)) (op.Where q ∷ op.Join j.0 j.1 ∷ []))

-- `join` of kind inner, innerunique, rightouter, rightsemi or rightanti, `where q`, q reads right columns alone: `where` of q with the
-- right names at the right plan's end. The right plan has no two columns of one name, as no table has.
unfoldable pub over_right : List Column → JoinPlan → Plan → BExpr → List Column → Option (List Op)
over_right cs j p q rc =
    when (takes_right j.kind && (not j.lookup && (are_distinct (names_of rc) && (reads_only (is_right_name j cs rc) q && reads_some q))))
    (op.Join j (filtered p (with_names (right_name j cs rc) q)) ∷ [])

unfoldable pub join_then_right_filter : Known → List Column → Op → Op → Option (List Op)
join_then_right_filter k cs x y = both_of (join_of x) (filter_of y) (λ j q. over_right cs j.0 j.1 q (plan_makes j.1 k))

-- `summarize` with `by`, `where q`, q reads only keys whose expression is a column: `where` of q with the inner names, `summarize`.
unfoldable pub group_then_filter : Op → Op → Option (List Op)
group_then_filter x y = both_of (group_of_op x) (filter_of y) (λ g q.
    when (has_keys g.keys && reads_only (λ n. is_some (inner_name g.keys n)) q) (op.Where (with_names (inner_or_same g.keys) q) ∷ op.Summarize g ∷ []))

-- `project I`, `project J`, each item of J a column: `project` of the chosen items of I under J's names.
unfoldable pub two_projections : Op → Op → Option (List Op)
two_projections x y = both_of (project_of x) (project_of y) (λ first second. option_map (λ items. op.Project items ∷ []) (chosen_items first second))
