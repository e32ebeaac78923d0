-- Each operator, folded: it has the columns that it had and means the same, and no constant stands in it, but for literals.
use Rattle.std.proofs.Common.{◌≡◌, ℕ, Bool, true, false, List, refl, ap, ap₂, sym, ◌∙◌, subst, rules}
use Rattle.std.specs.Prelude.{◌&&◌, Some}
use Rattle.std.specs.List.{list_all}
use Rattle.kql_cells.specs.Table.{Grid}
use Rattle.kql_cells.specs.declared.schema.Column.{Column}
use Rattle.kql_cells.specs.declared.value.Kind.TheVariants as kind
use Rattle.kql_functions.specs.Kinds.{same_kind}
use Rattle.kql_bound.specs.declared.expr.BExpr.{BExpr}
use Rattle.kql_bound.specs.declared.parts.BItem.{BItem}
use Rattle.kql_bound.specs.declared.parts.BKey.{BKey}
use Rattle.kql_bound.specs.declared.parts.Expand.{Expand}
use Rattle.kql_bound.specs.declared.parts.ExpandItem.{ExpandItem}
use Rattle.kql_bound.specs.declared.parts.GroupPlan.{GroupPlan}
use Rattle.kql_bound.specs.declared.parts.ParsePlan.{ParsePlan}
use Rattle.kql_bound.specs.declared.parts.ScanPlan.{ScanPlan}
use Rattle.kql_bound.specs.declared.parts.SeriesItem.{SeriesItem}
use Rattle.kql_bound.specs.declared.parts.SeriesPlan.{SeriesPlan}
use Rattle.kql_bound.specs.declared.plan.Op.{Op, fold_out-Op, out-Op, the_lemmas}
use Rattle.kql_bound.specs.declared.plan.Op.TheFolds.{map-Op}
use Rattle.kql_bound.specs.declared.plan.Op.TheOpen.{Op-F}
use Rattle.kql_bound.specs.declared.plan.Op.TheVariants as V
use Rattle.kql_bound.specs.declared.plan.Plan.{Plan}
use Rattle.kql_meaning.specs.declared.position.Position.TheVariants as position
use Rattle.kql_meaning.specs.Extend.{extend_columns}
use Rattle.kql_meaning.specs.Fits.{Known, op_columns}
use Rattle.kql_meaning.specs.FittingExpressions.{scope_of}
use Rattle.kql_meaning.specs.FittingOperators.{answer_if, columns_if, expand_fits, items_fit, parse_fits, scan_fits, series_fits, sort_fits, summarize_fits, where_fits}
use Rattle.kql_meaning.specs.Items.{items_columns}
use Rattle.kql_meaning.specs.MakeSeries.{series_columns}
use Rattle.kql_meaning.specs.MvExpand.{expand_columns}
use Rattle.kql_meaning.specs.Parse.{parse_columns}
use Rattle.kql_meaning.specs.Plans.{World, op_means}
use Rattle.kql_meaning.specs.Scan.{scan_columns}
use Rattle.kql_meaning.specs.Summarize.{group_columns}
use Rattle.kql_meaning.proofs.OperatorFitLaws.{op-Extend, op-MakeSeries, op-MvExpand, op-Parse, op-Project, op-Scan, op-Sort, op-Summarize, op-Top, op-Where}
use Rattle.kql_fit_laws.proofs.RowLaws.{means}
use Rattle.plan_rules.specs.Folding.{folded, is_folded}
use Rattle.plan_rules.specs.FoldedPlans.{are_folded, are_keys_folded, folded_expand, folded_group, folded_items, folded_keys, folded_op, folded_op_test, folded_parse, folded_plan_test, folded_scan, folded_series, is_op_folded, is_plan_folded, is_step_folded}
use Rattle.plan_rules.specs.Weight.{op_weight}
use Rattle.plan_rules.proofs.FoldedExpressions.{folds-as}
use Rattle.plan_rules.proofs.FoldedExpand.{expand-columns-folded, expand-folded, expand-good}
use Rattle.plan_rules.proofs.FoldedItems.{columns-folded, extend-columns-folded, extend-folded, group-columns-folded, items-good, keys-good, parse-columns-folded, parse-folded, parse-good, project-folded, series-columns-folded, series-folded, series-good, sort-folded, summarize-folded, summarize-good, top-folded, where-folded}
use Rattle.plan_rules.proofs.FoldedPlanSteps.{folded-out}
use Rattle.plan_rules.proofs.FoldedScan.{scan-columns-folded, scan-folded, scan-good}
use Rattle.plan_rules.proofs.Weights.{weight-out}

-- Whether an operator is folded.

pub is_folded-out : (o : Op) (f : Op-F Op Plan) → out-Op o ≡ f → is_op_folded o ≡ folded_op_test (map-Op Op Plan Bool Bool is_op_folded is_plan_folded f)
unfolding is_op_folded is_plan_folded
is_folded-out o f e = fold_out-Op Bool Bool folded_op_test folded_plan_test o ∙ ap (λ (g : Op-F Op Plan). folded_op_test (map-Op Op Plan Bool Bool is_op_folded is_plan_folded g)) e

-- What is said of an operator.
pub record OpFolds (o : Op) : Type 0 where
  pub keeps : (k : Known) (inside : Bool) (cs ds : List Column) → op_columns o k inside cs ≡ Some ds → (op_columns (folded_op o) k inside cs ≡ Some ds) × (is_op_folded (folded_op o) ≡ true)
  pub meaning : (w : World) (t : Grid) → op_means (folded_op o) w t ≡ op_means o w t
  pub weighs : op_weight (folded_op o) ≡ op_weight o

pub op-folds : (o p : Op) → folded_op o ≡ p → ((k : Known) (inside : Bool) (cs ds : List Column) → op_columns o k inside cs ≡ Some ds → (op_columns p k inside cs ≡ Some ds) × (is_op_folded p ≡ true)) → ((w : World) (t : Grid) → op_means p w t ≡ op_means o w t) → op_weight p ≡ op_weight o → OpFolds o
op-folds o p e keep mean weigh = record {
  keeps = λ k inside cs ds h. subst (λ q. (op_columns q k inside cs ≡ Some ds) × (is_op_folded q ≡ true)) (sym e) (keep k inside cs ds h);
  meaning = λ w t. ap (λ q. op_means q w t) e ∙ mean w t;
  weighs = ap op_weight e ∙ weigh;
}

-- Columns, where the operator fits.

columns-kept : (b c : Bool) (X : Type 0) (cs ds : List Column) → (b ≡ true → (c ≡ true) × X) → columns_if b cs ≡ Some ds → (columns_if c cs ≡ Some ds) × X
unfolding columns_if
columns-kept true c X cs ds h e = let r = h refl in (rw r.0 e, r.1)
columns-kept false c X cs ds h e = absurd cc

pub answer-kept : (b c : Bool) (X : Type 0) (cs now ds : List Column) → now ≡ cs → (b ≡ true → (c ≡ true) × X) → answer_if b cs ≡ Some ds → (answer_if c now ≡ Some ds) × X
unfolding answer_if columns_if
answer-kept true c X cs now ds same h e = let r = h refl in (ap₂ (λ d (xs : List Column). answer_if d xs) r.0 same ∙ e, r.1)
answer-kept false c X cs now ds same h e = absurd cc

-- Each.

pub where-op : (e : BExpr) → OpFolds (V.Where e)
unfolding where_fits
where-op e = op-folds (V.Where e) (V.Where (folded e)) (folded-out (V.Where e) (Op-F.Where e) (search (rules, the_lemmas)))
    (λ k inside cs ds h.
    let r = columns-kept (where_fits e cs) (where_fits (folded e) cs) (is_folded (folded e) ≡ true) cs ds (folds-as (same_kind kind.Bool) e (scope_of cs) position.Window) (sym (op-Where e k inside cs) ∙ h) in
    (op-Where (folded e) k inside cs ∙ r.0, is_folded-out (V.Where (folded e)) (Op-F.Where (folded e)) (search (rules, the_lemmas)) ∙ r.1))
    (λ w t. means (V.Where (folded e)) (Op-F.Where (folded e)) (search (rules, the_lemmas)) w t ∙ (where-folded e t ∙ sym (means (V.Where e) (Op-F.Where e) (search (rules, the_lemmas)) w t)))
    (weight-out (V.Where (folded e)) (Op-F.Where (folded e)) (search (rules, the_lemmas)) ∙ sym (weight-out (V.Where e) (Op-F.Where e) (search (rules, the_lemmas))))

pub extend-op : (items : List BItem) → OpFolds (V.Extend items)
extend-op items = op-folds (V.Extend items) (V.Extend (folded_items items)) (folded-out (V.Extend items) (Op-F.Extend items) (search (rules, the_lemmas)))
    (λ k inside cs ds h.
    let r = answer-kept (items_fit items cs position.Window) (items_fit (folded_items items) cs position.Window) (are_folded (folded_items items) ≡ true) (extend_columns items cs) (extend_columns (folded_items items) cs) ds (extend-columns-folded items cs) (items-good items cs position.Window) (sym (op-Extend items k inside cs) ∙ h) in
    (op-Extend (folded_items items) k inside cs ∙ r.0, is_folded-out (V.Extend (folded_items items)) (Op-F.Extend (folded_items items)) (search (rules, the_lemmas)) ∙ r.1))
    (λ w t. means (V.Extend (folded_items items)) (Op-F.Extend (folded_items items)) (search (rules, the_lemmas)) w t ∙ (extend-folded items t ∙ sym (means (V.Extend items) (Op-F.Extend items) (search (rules, the_lemmas)) w t)))
    (weight-out (V.Extend (folded_items items)) (Op-F.Extend (folded_items items)) (search (rules, the_lemmas)) ∙ sym (weight-out (V.Extend items) (Op-F.Extend items) (search (rules, the_lemmas))))

pub project-op : (items : List BItem) → OpFolds (V.Project items)
project-op items = op-folds (V.Project items) (V.Project (folded_items items)) (folded-out (V.Project items) (Op-F.Project items) (search (rules, the_lemmas)))
    (λ k inside cs ds h.
    let r = answer-kept (items_fit items cs position.Window) (items_fit (folded_items items) cs position.Window) (are_folded (folded_items items) ≡ true) (items_columns items cs) (items_columns (folded_items items) cs) ds (columns-folded items cs) (items-good items cs position.Window) (sym (op-Project items k inside cs) ∙ h) in
    (op-Project (folded_items items) k inside cs ∙ r.0, is_folded-out (V.Project (folded_items items)) (Op-F.Project (folded_items items)) (search (rules, the_lemmas)) ∙ r.1))
    (λ w t. means (V.Project (folded_items items)) (Op-F.Project (folded_items items)) (search (rules, the_lemmas)) w t ∙ (project-folded items t ∙ sym (means (V.Project items) (Op-F.Project items) (search (rules, the_lemmas)) w t)))
    (weight-out (V.Project (folded_items items)) (Op-F.Project (folded_items items)) (search (rules, the_lemmas)) ∙ sym (weight-out (V.Project items) (Op-F.Project items) (search (rules, the_lemmas))))

pub sort-op : (keys : List BKey) → OpFolds (V.Sort keys)
sort-op keys = op-folds (V.Sort keys) (V.Sort (folded_keys keys)) (folded-out (V.Sort keys) (Op-F.Sort keys) (search (rules, the_lemmas)))
    (λ k inside cs ds h.
    let r = columns-kept (sort_fits keys cs) (sort_fits (folded_keys keys) cs) (are_keys_folded (folded_keys keys) ≡ true) cs ds (keys-good keys cs) (sym (op-Sort keys k inside cs) ∙ h) in
    (op-Sort (folded_keys keys) k inside cs ∙ r.0, is_folded-out (V.Sort (folded_keys keys)) (Op-F.Sort (folded_keys keys)) (search (rules, the_lemmas)) ∙ r.1))
    (λ w t. means (V.Sort (folded_keys keys)) (Op-F.Sort (folded_keys keys)) (search (rules, the_lemmas)) w t ∙ (sort-folded keys t ∙ sym (means (V.Sort keys) (Op-F.Sort keys) (search (rules, the_lemmas)) w t)))
    (weight-out (V.Sort (folded_keys keys)) (Op-F.Sort (folded_keys keys)) (search (rules, the_lemmas)) ∙ sym (weight-out (V.Sort keys) (Op-F.Sort keys) (search (rules, the_lemmas))))

pub top-op : (n : ℕ) (keys : List BKey) → OpFolds (V.Top n keys)
top-op n keys = op-folds (V.Top n keys) (V.Top n (folded_keys keys)) (folded-out (V.Top n keys) (Op-F.Top n keys) (search (rules, the_lemmas)))
    (λ k inside cs ds h.
    let r = columns-kept (sort_fits keys cs) (sort_fits (folded_keys keys) cs) (are_keys_folded (folded_keys keys) ≡ true) cs ds (keys-good keys cs) (sym (op-Top n keys k inside cs) ∙ h) in
    (op-Top n (folded_keys keys) k inside cs ∙ r.0, is_folded-out (V.Top n (folded_keys keys)) (Op-F.Top n (folded_keys keys)) (search (rules, the_lemmas)) ∙ r.1))
    (λ w t. means (V.Top n (folded_keys keys)) (Op-F.Top n (folded_keys keys)) (search (rules, the_lemmas)) w t ∙ (top-folded n keys t ∙ sym (means (V.Top n keys) (Op-F.Top n keys) (search (rules, the_lemmas)) w t)))
    (weight-out (V.Top n (folded_keys keys)) (Op-F.Top n (folded_keys keys)) (search (rules, the_lemmas)) ∙ sym (weight-out (V.Top n keys) (Op-F.Top n keys) (search (rules, the_lemmas))))

pub summarize-op : (g : GroupPlan) → OpFolds (V.Summarize g)
summarize-op g = op-folds (V.Summarize g) (V.Summarize (folded_group g)) (folded-out (V.Summarize g) (Op-F.Summarize g) (search (rules, the_lemmas)))
    (λ k inside cs ds h.
    let r = answer-kept (summarize_fits g cs) (summarize_fits (folded_group g) cs) ((are_folded (folded_group g).items && are_folded (folded_group g).keys) ≡ true) (group_columns g cs) (group_columns (folded_group g) cs) ds (group-columns-folded g cs) (summarize-good g cs) (sym (op-Summarize g k inside cs) ∙ h) in
    (op-Summarize (folded_group g) k inside cs ∙ r.0, is_folded-out (V.Summarize (folded_group g)) (Op-F.Summarize (folded_group g)) (search (rules, the_lemmas)) ∙ r.1))
    (λ w t. means (V.Summarize (folded_group g)) (Op-F.Summarize (folded_group g)) (search (rules, the_lemmas)) w t ∙ (summarize-folded g t ∙ sym (means (V.Summarize g) (Op-F.Summarize g) (search (rules, the_lemmas)) w t)))
    (weight-out (V.Summarize (folded_group g)) (Op-F.Summarize (folded_group g)) (search (rules, the_lemmas)) ∙ sym (weight-out (V.Summarize g) (Op-F.Summarize g) (search (rules, the_lemmas))))

pub series-op : (p : SeriesPlan) → OpFolds (V.MakeSeries p)
series-op p = op-folds (V.MakeSeries p) (V.MakeSeries (folded_series p)) (folded-out (V.MakeSeries p) (Op-F.MakeSeries p) (search (rules, the_lemmas)))
    (λ k inside cs ds h.
    let r = answer-kept (series_fits p cs) (series_fits (folded_series p) cs) ((list_all (λ (i : SeriesItem). is_folded i.expr) (folded_series p).items && are_folded (folded_series p).keys) ≡ true) (series_columns p cs) (series_columns (folded_series p) cs) ds (series-columns-folded p cs) (series-good p cs) (sym (op-MakeSeries p k inside cs) ∙ h) in
    (op-MakeSeries (folded_series p) k inside cs ∙ r.0, is_folded-out (V.MakeSeries (folded_series p)) (Op-F.MakeSeries (folded_series p)) (search (rules, the_lemmas)) ∙ r.1))
    (λ w t. means (V.MakeSeries (folded_series p)) (Op-F.MakeSeries (folded_series p)) (search (rules, the_lemmas)) w t ∙ (series-folded p t ∙ sym (means (V.MakeSeries p) (Op-F.MakeSeries p) (search (rules, the_lemmas)) w t)))
    (weight-out (V.MakeSeries (folded_series p)) (Op-F.MakeSeries (folded_series p)) (search (rules, the_lemmas)) ∙ sym (weight-out (V.MakeSeries p) (Op-F.MakeSeries p) (search (rules, the_lemmas))))

pub expand-op : (x : Expand) → OpFolds (V.MvExpand x)
expand-op x = op-folds (V.MvExpand x) (V.MvExpand (folded_expand x)) (folded-out (V.MvExpand x) (Op-F.MvExpand x) (search (rules, the_lemmas)))
    (λ k inside cs ds h.
    let r = answer-kept (expand_fits x cs) (expand_fits (folded_expand x) cs) (list_all (λ (i : ExpandItem). is_folded i.expr) (folded_expand x).items ≡ true) (expand_columns x cs) (expand_columns (folded_expand x) cs) ds (expand-columns-folded x cs) (expand-good x cs) (sym (op-MvExpand x k inside cs) ∙ h) in
    (op-MvExpand (folded_expand x) k inside cs ∙ r.0, is_folded-out (V.MvExpand (folded_expand x)) (Op-F.MvExpand (folded_expand x)) (search (rules, the_lemmas)) ∙ r.1))
    (λ w t. means (V.MvExpand (folded_expand x)) (Op-F.MvExpand (folded_expand x)) (search (rules, the_lemmas)) w t ∙ (expand-folded x t ∙ sym (means (V.MvExpand x) (Op-F.MvExpand x) (search (rules, the_lemmas)) w t)))
    (weight-out (V.MvExpand (folded_expand x)) (Op-F.MvExpand (folded_expand x)) (search (rules, the_lemmas)) ∙ sym (weight-out (V.MvExpand x) (Op-F.MvExpand x) (search (rules, the_lemmas))))

pub parse-op : (p : ParsePlan) → OpFolds (V.Parse p)
parse-op p = op-folds (V.Parse p) (V.Parse (folded_parse p)) (folded-out (V.Parse p) (Op-F.Parse p) (search (rules, the_lemmas)))
    (λ k inside cs ds h.
    let r = answer-kept (parse_fits p cs) (parse_fits (folded_parse p) cs) (is_folded (folded_parse p).text ≡ true) (parse_columns p cs) (parse_columns (folded_parse p) cs) ds (parse-columns-folded p cs) (parse-good p cs) (sym (op-Parse p k inside cs) ∙ h) in
    (op-Parse (folded_parse p) k inside cs ∙ r.0, is_folded-out (V.Parse (folded_parse p)) (Op-F.Parse (folded_parse p)) (search (rules, the_lemmas)) ∙ r.1))
    (λ w t. means (V.Parse (folded_parse p)) (Op-F.Parse (folded_parse p)) (search (rules, the_lemmas)) w t ∙ (parse-folded p t ∙ sym (means (V.Parse p) (Op-F.Parse p) (search (rules, the_lemmas)) w t)))
    (weight-out (V.Parse (folded_parse p)) (Op-F.Parse (folded_parse p)) (search (rules, the_lemmas)) ∙ sym (weight-out (V.Parse p) (Op-F.Parse p) (search (rules, the_lemmas))))

pub scan-op : (p : ScanPlan) → OpFolds (V.Scan p)
scan-op p = op-folds (V.Scan p) (V.Scan (folded_scan p)) (folded-out (V.Scan p) (Op-F.Scan p) (search (rules, the_lemmas)))
    (λ k inside cs ds h.
    let r = answer-kept (scan_fits p cs) (scan_fits (folded_scan p) cs) (list_all is_step_folded (folded_scan p).steps ≡ true) (scan_columns p cs) (scan_columns (folded_scan p) cs) ds (scan-columns-folded p cs) (scan-good p cs) (sym (op-Scan p k inside cs) ∙ h) in
    (op-Scan (folded_scan p) k inside cs ∙ r.0, is_folded-out (V.Scan (folded_scan p)) (Op-F.Scan (folded_scan p)) (search (rules, the_lemmas)) ∙ r.1))
    (λ w t. means (V.Scan (folded_scan p)) (Op-F.Scan (folded_scan p)) (search (rules, the_lemmas)) w t ∙ (scan-folded p t ∙ sym (means (V.Scan p) (Op-F.Scan p) (search (rules, the_lemmas)) w t)))
    (weight-out (V.Scan (folded_scan p)) (Op-F.Scan (folded_scan p)) (search (rules, the_lemmas)) ∙ sym (weight-out (V.Scan p) (Op-F.Scan p) (search (rules, the_lemmas))))
