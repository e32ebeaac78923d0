-- What an operator that fits asks of the table before it.
use Rattle.std.proofs.Common.{◌≡◌, ℕ, Bool, true, false, List, [], ◌∷◌, map, refl, sym, ap, ap₂, ◌∙◌, subst}
use Rattle.std.specs.Prelude.{None, Option, Some, is_some, option_and_then, option_map}
use Rattle.kql_cells.specs.Named.{HasDistinctNames, column_name}
use Rattle.kql_cells.specs.Table.{Grid}
use Rattle.kql_cells.specs.declared.schema.Column.{Column}
use Rattle.kql_bound.specs.declared.expr.BExpr.{BExpr}
use Rattle.kql_bound.specs.declared.parts.BItem.{BItem}
use Rattle.kql_bound.specs.declared.parts.BKey.{BKey}
use Rattle.kql_bound.specs.declared.parts.Expand.{Expand}
use Rattle.kql_bound.specs.declared.parts.GroupPlan.{GroupPlan}
use Rattle.kql_bound.specs.declared.parts.JoinPlan.{JoinPlan}
use Rattle.kql_bound.specs.declared.parts.ParsePlan.{ParsePlan}
use Rattle.kql_bound.specs.declared.parts.ScanPlan.{ScanPlan}
use Rattle.kql_bound.specs.declared.parts.SeriesPlan.{SeriesPlan}
use Rattle.kql_bound.specs.declared.plan.Op.{Op}
use Rattle.kql_bound.specs.declared.plan.Op.TheVariants as V
use Rattle.kql_bound.specs.declared.plan.Plan.{Plan}
use Rattle.kql_meaning.specs.declared.position.Position.TheVariants as position
use Rattle.kql_meaning.specs.Extend.{extend_columns}
use Rattle.kql_meaning.specs.Fits.{Known, all_columns, joined_columns, op_columns, outside_subqueries, plan_columns, plans_columns, united_columns}
use Rattle.kql_meaning.specs.FittingOperators.{answer_if, columns_if, expand_fits, items_fit, join_fits, parse_fits, series_fits, sort_fits, summarize_fits, union_fits, where_fits}
use Rattle.kql_meaning.specs.Items.{items_columns}
use Rattle.kql_meaning.specs.Join.{join_columns}
use Rattle.kql_meaning.specs.MakeSeries.{series_columns}
use Rattle.kql_meaning.specs.MvExpand.{expand_columns}
use Rattle.kql_meaning.specs.Parse.{parse_columns}
use Rattle.kql_meaning.specs.Plans.{Gives, World, plan_means}
use Rattle.kql_meaning.specs.Summarize.{group_columns}
use Rattle.kql_meaning.specs.Union.{union_columns}
use Rattle.kql_meaning.proofs.OperatorFitLaws.{join-out, op-Extend, op-MakeSeries, op-MvExpand, op-Parse, op-Project, op-Scan, op-Sort, op-Summarize, op-Top, op-Where, union-out}
use Rattle.kql_fit_laws.proofs.OperatorLaws.{each_plan_keeps}
use Rattle.kql_fit_laws.proofs.RowFacts.{answer-some}
use Rattle.scan_ops.specs.Steps.{scan_answers}
use Rattle.kql_plain.specs.AtHand.{IsSo, OpFits, PlanFits, PlansFit, plans_mean}

-- Columns that are there.

pub columns-there : (b : Bool) (cs : List Column) → is_some (columns_if b cs) ≡ true → b ≡ true
unfolding columns_if
columns-there true cs e = refl
columns-there false cs e = absurd cc

if-there : (b : Bool) (cs : List Column) → is_some (columns_if b cs) ≡ true → columns_if b cs ≡ Some cs
unfolding columns_if
if-there true cs e = refl
if-there false cs e = absurd cc

pub answer-there : (b : Bool) (cs : List Column) → is_some (answer_if b cs) ≡ true → (b ≡ true) × HasDistinctNames column_name cs
unfolding answer_if
answer-there b cs e =
    let made = answer-some b cs cs (if-there _ cs e) in
    (made.0, made.2)

-- An operator whose columns are these fits where they are there.

kept : (o : Op) (w : World) (t : Grid) (b : Bool) → ((k : Known) (inside : Bool) → op_columns o k inside t.columns ≡ columns_if b t.columns) → OpFits o w t → b ≡ true
unfolding OpFits
kept o w t b is f = columns-there b t.columns (sym (ap is_some (is f.0 f.1)) ∙ f.4)

answered : (o : Op) (w : World) (t : Grid) (b : Bool) (cs : List Column) → ((k : Known) (inside : Bool) → op_columns o k inside t.columns ≡ answer_if b cs) → OpFits o w t → (b ≡ true) × HasDistinctNames column_name cs
unfolding OpFits
answered o w t b cs is f = answer-there b cs (sym (ap is_some (is f.0 f.1)) ∙ f.4)

pub fits-Where : (e : BExpr) (w : World) (t : Grid) → OpFits (V.Where e) w t → where_fits e t.columns ≡ true
fits-Where e w t = kept (V.Where e) w t (where_fits e t.columns) (λ k inside. op-Where e k inside t.columns)

pub fits-Sort : (keys : List BKey) (w : World) (t : Grid) → OpFits (V.Sort keys) w t → sort_fits keys t.columns ≡ true
fits-Sort keys w t = kept (V.Sort keys) w t (sort_fits keys t.columns) (λ k inside. op-Sort keys k inside t.columns)

pub fits-Top : (n : ℕ) (keys : List BKey) (w : World) (t : Grid) → OpFits (V.Top n keys) w t → sort_fits keys t.columns ≡ true
fits-Top n keys w t = kept (V.Top n keys) w t (sort_fits keys t.columns) (λ k inside. op-Top n keys k inside t.columns)

extend-fits : (items : List BItem) (w : World) (t : Grid) → OpFits (V.Extend items) w t → (items_fit items t.columns position.Window ≡ true) × HasDistinctNames column_name (extend_columns items t.columns)
extend-fits items w t = answered (V.Extend items) w t (items_fit items t.columns position.Window) (extend_columns items t.columns) (λ k inside. op-Extend items k inside t.columns)

pub fits-Extend : (items : List BItem) (w : World) (t : Grid) → OpFits (V.Extend items) w t → items_fit items t.columns position.Window ≡ true
fits-Extend items w t f = (extend-fits items w t f).0

pub names-Extend : (items : List BItem) (w : World) (t : Grid) → OpFits (V.Extend items) w t → HasDistinctNames column_name (extend_columns items t.columns)
names-Extend items w t f = (extend-fits items w t f).1

project-fits : (items : List BItem) (w : World) (t : Grid) → OpFits (V.Project items) w t → (items_fit items t.columns position.Window ≡ true) × HasDistinctNames column_name (items_columns items t.columns)
project-fits items w t = answered (V.Project items) w t (items_fit items t.columns position.Window) (items_columns items t.columns) (λ k inside. op-Project items k inside t.columns)

pub fits-Project : (items : List BItem) (w : World) (t : Grid) → OpFits (V.Project items) w t → items_fit items t.columns position.Window ≡ true
fits-Project items w t f = (project-fits items w t f).0

pub names-Project : (items : List BItem) (w : World) (t : Grid) → OpFits (V.Project items) w t → HasDistinctNames column_name (items_columns items t.columns)
names-Project items w t f = (project-fits items w t f).1

pub answers-Summarize : (g : GroupPlan) (w : World) (t : Grid) → OpFits (V.Summarize g) w t → is_some (answer_if (summarize_fits g t.columns) (group_columns g t.columns)) ≡ true
unfolding OpFits
answers-Summarize g w t f = sym (ap is_some (op-Summarize g f.0 f.1 t.columns)) ∙ f.4

pub answers-MakeSeries : (p : SeriesPlan) (w : World) (t : Grid) → OpFits (V.MakeSeries p) w t → is_some (answer_if (series_fits p t.columns) (series_columns p t.columns)) ≡ true
unfolding OpFits
answers-MakeSeries p w t f = sym (ap is_some (op-MakeSeries p f.0 f.1 t.columns)) ∙ f.4

expand-fits : (x : Expand) (w : World) (t : Grid) → OpFits (V.MvExpand x) w t → (expand_fits x t.columns ≡ true) × HasDistinctNames column_name (expand_columns x t.columns)
expand-fits x w t = answered (V.MvExpand x) w t (expand_fits x t.columns) (expand_columns x t.columns) (λ k inside. op-MvExpand x k inside t.columns)

pub fits-MvExpand : (x : Expand) (w : World) (t : Grid) → OpFits (V.MvExpand x) w t → expand_fits x t.columns ≡ true
fits-MvExpand x w t f = (expand-fits x w t f).0

pub names-MvExpand : (x : Expand) (w : World) (t : Grid) → OpFits (V.MvExpand x) w t → HasDistinctNames column_name (expand_columns x t.columns)
names-MvExpand x w t f = (expand-fits x w t f).1

parse-fits : (p : ParsePlan) (w : World) (t : Grid) → OpFits (V.Parse p) w t → (parse_fits p t.columns ≡ true) × HasDistinctNames column_name (parse_columns p t.columns)
parse-fits p w t = answered (V.Parse p) w t (parse_fits p t.columns) (parse_columns p t.columns) (λ k inside. op-Parse p k inside t.columns)

pub fits-Parse : (p : ParsePlan) (w : World) (t : Grid) → OpFits (V.Parse p) w t → parse_fits p t.columns ≡ true
fits-Parse p w t f = (parse-fits p w t f).0

pub names-Parse : (p : ParsePlan) (w : World) (t : Grid) → OpFits (V.Parse p) w t → HasDistinctNames column_name (parse_columns p t.columns)
names-Parse p w t f = (parse-fits p w t f).1

pub answers-Scan : (p : ScanPlan) (w : World) (t : Grid) → OpFits (V.Scan p) w t → scan_answers p t.columns ≡ true
unfolding OpFits scan_answers
answers-Scan p w t f = sym (ap is_some (op-Scan p f.0 f.1 t.columns)) ∙ f.4

-- Operators with plans in them stand outside subqueries, and their plans fit.

pub outside-there : (inside : Bool) (o : Option (List Column)) → is_some (outside_subqueries inside o) ≡ true → is_some o ≡ true
unfolding outside_subqueries
outside-there true o e = absurd cc
outside-there false o e = e

RightFits : JoinPlan → Plan → World → Grid → Type 0
RightFits j right w t =
    PlanFits right w
    × (join_fits j t.columns (plan_means right w).columns ≡ true)
    × HasDistinctNames column_name (join_columns j.kind j t.columns (plan_means right w).columns)

right-fits : (j : JoinPlan) (right : Plan) (w : World) (t : Grid) (k : Known) → IsSo k w → (o : Option (List Column)) → plan_columns right k ≡ o → is_some (joined_columns j t.columns o) ≡ true → RightFits j right w t
unfolding RightFits PlanFits joined_columns
right-fits j right w t k s None e f = absurd cc
right-fits j right w t k s (Some cs) e f =
    let keeps = each_plan_keeps k w s.0 right cs e in
    let there = answer-there (join_fits j t.columns cs) (join_columns j.kind j t.columns cs) f in (
      (k, s, ap is_some e),
      ap (λ (ds : List Column). join_fits j t.columns ds) keeps.0 ∙ there.0,
      subst (λ (ds : List Column). HasDistinctNames column_name (join_columns j.kind j t.columns ds)) (sym keeps.0) there.1,
    )

join-fits : (j : JoinPlan) (right : Plan) (w : World) (t : Grid) → OpFits (V.Join j right) w t → RightFits j right w t
unfolding OpFits
join-fits j right w t f =
    right-fits j right w t f.0 f.2 (plan_columns right f.0) refl
    (outside-there f.1 (joined_columns j t.columns (plan_columns right f.0)) (sym (ap is_some (join-out j right f.0 f.1 t.columns)) ∙ f.4))

pub plan-Join : (j : JoinPlan) (right : Plan) (w : World) (t : Grid) → OpFits (V.Join j right) w t → PlanFits right w
unfolding RightFits
plan-Join j right w t f = (join-fits j right w t f).0

pub fits-Join : (j : JoinPlan) (right : Plan) (w : World) (t : Grid) → OpFits (V.Join j right) w t → join_fits j t.columns (plan_means right w).columns ≡ true
unfolding RightFits
fits-Join j right w t f = (join-fits j right w t f).1

pub names-Join : (j : JoinPlan) (right : Plan) (w : World) (t : Grid) → OpFits (V.Join j right) w t → HasDistinctNames column_name (join_columns j.kind j t.columns (plan_means right w).columns)
unfolding RightFits
names-Join j right w t f = (join-fits j right w t f).2

-- The columns of tables.
abbrev pub columns_of : List Grid → List (List Column)
columns_of ts = map (λ (t : Grid). t.columns) ts

pub means-each : (ps : List Plan) (w : World) → map (λ (plan : Gives). plan w) (map plan_means ps) ≡ plans_mean ps w
means-each [] w = refl
means-each (p ∷ ps) w = ap (λ (ts : List Grid). plan_means p w ∷ ts) (means-each ps w)

more-columns : (k : Known) (w : World) (p : Plan) (ps : List Plan) (all : List (List Column)) → IsSo k w → ((ms : List (List Column)) → all_columns (map plan_columns ps) k ≡ Some ms → columns_of (plans_mean ps w) ≡ ms) → (o : Option (List Column)) → plan_columns p k ≡ o → (r : Option (List (List Column))) → all_columns (map plan_columns ps) k ≡ r → option_and_then (λ one. option_map (λ more. one ∷ more) r) o ≡ Some all → columns_of (plans_mean (p ∷ ps) w) ≡ all
more-columns k w p ps all s rest None e r f g = cc
more-columns k w p ps all s rest (Some c) e None f g = cc
more-columns k w p ps all s rest (Some c) e (Some ms) f g =
    let same : c ∷ ms ≡ all = cc in
    ap₂ (λ (d : List Column) (ds : List (List Column)). d ∷ ds) (each_plan_keeps k w s.0 p c e).0 (rest ms f) ∙ same

-- The columns of the tables of plans that fit.
plans-columns : (k : Known) (w : World) (ps : List Plan) (all : List (List Column)) → IsSo k w → all_columns (map plan_columns ps) k ≡ Some all → columns_of (plans_mean ps w) ≡ all
unfolding all_columns
plans-columns k w [] all s e = let none : [] ≡ all = cc in none
plans-columns k w (p ∷ ps) all s e =
    more-columns k w p ps all s (λ ms f. plans-columns k w ps ms s f) (plan_columns p k) refl (all_columns (map plan_columns ps) k) refl e

OthersFit : Bool → List Plan → World → Grid → Type 0
OthersFit inner others w t =
    let made = columns_of (plans_mean others w) in
    PlansFit others w
    × (union_fits (union_columns inner t.columns made) (t.columns ∷ made) ≡ true)
    × HasDistinctNames column_name (union_columns inner t.columns made)

others-fit : (inner : Bool) (others : List Plan) (w : World) (t : Grid) (k : Known) → IsSo k w → (o : Option (List (List Column))) → plans_columns others k ≡ o → is_some (united_columns inner t.columns o) ≡ true → OthersFit inner others w t
unfolding OthersFit PlansFit united_columns plans_columns
others-fit inner others w t k s None e f = absurd cc
others-fit inner others w t k s (Some all) e f =
    let same = plans-columns k w others all s e in
    let there = answer-there (union_fits (union_columns inner t.columns all) (t.columns ∷ all)) (union_columns inner t.columns all) f in (
      (k, s, ap is_some e),
      ap (λ (ds : List (List Column)). union_fits (union_columns inner t.columns ds) (t.columns ∷ ds)) same ∙ there.0,
      subst (λ (ds : List (List Column)). HasDistinctNames column_name (union_columns inner t.columns ds)) (sym same) there.1,
    )

union-fits : (inner : Bool) (others : List Plan) (w : World) (t : Grid) → OpFits (V.Union inner others) w t → OthersFit inner others w t
unfolding OpFits
union-fits inner others w t f =
    others-fit inner others w t f.0 f.2 (plans_columns others f.0) refl
    (outside-there f.1 (united_columns inner t.columns (plans_columns others f.0)) (sym (ap is_some (union-out inner others f.0 f.1 t.columns)) ∙ f.4))

pub plans-Union : (inner : Bool) (others : List Plan) (w : World) (t : Grid) → OpFits (V.Union inner others) w t → PlansFit others w
unfolding OthersFit
plans-Union inner others w t f = (union-fits inner others w t f).0

pub fits-Union : (inner : Bool) (others : List Plan) (w : World) (t : Grid) → OpFits (V.Union inner others) w t → union_fits (union_columns inner t.columns (columns_of (plans_mean others w))) (t.columns ∷ columns_of (plans_mean others w)) ≡ true
unfolding OthersFit
fits-Union inner others w t f = (union-fits inner others w t f).1

pub names-Union : (inner : Bool) (others : List Plan) (w : World) (t : Grid) → OpFits (V.Union inner others) w t → HasDistinctNames column_name (union_columns inner t.columns (columns_of (plans_mean others w)))
unfolding OthersFit
names-Union inner others w t f = (union-fits inner others w t f).2

pub ruleset fit_steps = (fits-Where, fits-Sort, fits-Top, fits-Extend, names-Extend, fits-Project, names-Project, answers-Summarize, answers-MakeSeries, fits-MvExpand, names-MvExpand, fits-Parse, names-Parse, answers-Scan, plan-Join, fits-Join, names-Join, plans-Union, fits-Union, names-Union)
