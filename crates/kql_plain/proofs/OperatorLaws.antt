-- What operators mean, variant by variant, and one after another.
use Rattle.std.proofs.Common.{◌≡◌, ◌<◌, ◌≤◌, ◌+◌, ℕ, zero, suc, arith, drop, get_or, length, Bool, true, List, [], ◌∷◌, map, refl, sym, ap, ap₂, ◌∙◌, subst, rules}
use Rattle.std.specs.Prelude.{None, Option, Some, fold, is_some}
use Rattle.kql_cells.specs.Named.{HasDistinctNames, column_name}
use Rattle.kql_cells.specs.Table.{Grid}
use Rattle.kql_cells.specs.declared.schema.Column.{Column}
use Rattle.kql_bound.specs.declared.expr.BExpr.{BExpr}
use Rattle.kql_bound.specs.declared.parts.BItem.{BItem}
use Rattle.kql_bound.specs.declared.parts.BKey.{BKey}
use Rattle.kql_bound.specs.declared.parts.Expand.{Expand}
use Rattle.kql_bound.specs.declared.parts.GroupPlan.{GroupPlan}
use Rattle.kql_bound.specs.declared.parts.JoinPlan.{JoinPlan}
use Rattle.kql_bound.specs.declared.parts.ParsePlan.{ParsePlan}
use Rattle.kql_bound.specs.declared.parts.ScanPlan.{ScanPlan}
use Rattle.kql_bound.specs.declared.parts.SeriesPlan.{SeriesPlan}
use Rattle.kql_bound.specs.declared.plan.Op.{Op, out-Op, the_lemmas}
use Rattle.kql_bound.specs.declared.plan.Op.TheFolds.{map-Op}
use Rattle.kql_bound.specs.declared.plan.Op.TheOpen.{Op-F}
use Rattle.kql_bound.specs.declared.plan.Op.TheVariants as V
use Rattle.kql_bound.specs.declared.plan.Plan.{Plan}
use Rattle.kql_meaning.specs.Extend.{extend_table}
use Rattle.kql_meaning.specs.Fits.{Known, op_columns, ops_columns}
use Rattle.kql_meaning.specs.FittingOperators.{join_fits, union_fits}
use Rattle.kql_meaning.specs.Join.{join_columns, join_table}
use Rattle.kql_meaning.specs.MakeSeries.{series_table}
use Rattle.kql_meaning.specs.MvExpand.{expand_table}
use Rattle.kql_meaning.specs.Parse.{parse_table}
use Rattle.kql_meaning.specs.Plans.{Gives, Makes, World, one_after_another, op_means, op_step, plan_means}
use Rattle.kql_meaning.specs.Project.{project_table}
use Rattle.kql_meaning.specs.Scan.{scan_table}
use Rattle.kql_meaning.specs.Sort.{sort_table, top_table}
use Rattle.kql_meaning.specs.Summarize.{summarize_table}
use Rattle.kql_meaning.specs.TakeAndCount.{count_table, take_table}
use Rattle.kql_meaning.specs.Union.{union_columns, union_table}
use Rattle.kql_meaning.specs.Where.{where_table}
use Rattle.kql_meaning.proofs.OperatorFitLaws.{after, after-none, after-some, ops-fold, stays-none}
use Rattle.kql_meaning.proofs.PlanLaws.{op_means-out}
use Rattle.kql_fit_laws.proofs.OperatorLaws.{each_op_keeps}
use Rattle.kql_fit_laws.specs.LawsOfRows.{IsTable}
use Rattle.kql_plain.specs.AtHand.{IsSo, OpFits, OpsFit, PlanFits, PlansFit, plans_mean}
use Rattle.kql_plain.proofs.FitLaws.{columns_of, fit_steps, fits-Join, fits-Union, means-each, names-Join, names-Union, plan-Join, plans-Union}

-- What each means.

pub step : (o : Op) (f : Op-F Op Plan) → out-Op o ≡ f → (w : World) (t : Grid) → op_means o w t ≡ op_step (map-Op Op Plan Makes Gives op_means plan_means f) w t
step o f e w t = op_means-out o w t ∙ ap (λ (g : Op-F Op Plan). op_step (map-Op Op Plan Makes Gives op_means plan_means g) w t) e

pub means-Where : (e : BExpr) (w : World) (t : Grid) → op_means (V.Where e) w t ≡ where_table e t
means-Where e w t = step (V.Where e) (Op-F.Where e) (search (rules, the_lemmas)) w t

pub means-Extend : (items : List BItem) (w : World) (t : Grid) → op_means (V.Extend items) w t ≡ extend_table items t
means-Extend items w t = step (V.Extend items) (Op-F.Extend items) (search (rules, the_lemmas)) w t

pub means-Project : (items : List BItem) (w : World) (t : Grid) → op_means (V.Project items) w t ≡ project_table items t
means-Project items w t = step (V.Project items) (Op-F.Project items) (search (rules, the_lemmas)) w t

pub means-Take : (n : ℕ) (w : World) (t : Grid) → op_means (V.Take n) w t ≡ take_table n t
means-Take n w t = step (V.Take n) (Op-F.Take n) (search (rules, the_lemmas)) w t

pub means-Count : (w : World) (t : Grid) → op_means V.Count w t ≡ count_table t
means-Count w t = step V.Count Op-F.Count (search (rules, the_lemmas)) w t

pub means-Sort : (keys : List BKey) (w : World) (t : Grid) → op_means (V.Sort keys) w t ≡ sort_table keys t
means-Sort keys w t = step (V.Sort keys) (Op-F.Sort keys) (search (rules, the_lemmas)) w t

pub means-Top : (n : ℕ) (keys : List BKey) (w : World) (t : Grid) → op_means (V.Top n keys) w t ≡ top_table n keys t
means-Top n keys w t = step (V.Top n keys) (Op-F.Top n keys) (search (rules, the_lemmas)) w t

pub means-Serialize : (w : World) (t : Grid) → op_means V.Serialize w t ≡ t
means-Serialize w t = step V.Serialize Op-F.Serialize (search (rules, the_lemmas)) w t

pub means-Summarize : (g : GroupPlan) (w : World) (t : Grid) → op_means (V.Summarize g) w t ≡ summarize_table g t
means-Summarize g w t = step (V.Summarize g) (Op-F.Summarize g) (search (rules, the_lemmas)) w t

pub means-MakeSeries : (p : SeriesPlan) (w : World) (t : Grid) → op_means (V.MakeSeries p) w t ≡ series_table p t
means-MakeSeries p w t = step (V.MakeSeries p) (Op-F.MakeSeries p) (search (rules, the_lemmas)) w t

pub means-MvExpand : (x : Expand) (w : World) (t : Grid) → op_means (V.MvExpand x) w t ≡ expand_table x t
means-MvExpand x w t = step (V.MvExpand x) (Op-F.MvExpand x) (search (rules, the_lemmas)) w t

pub means-Parse : (p : ParsePlan) (w : World) (t : Grid) → op_means (V.Parse p) w t ≡ parse_table p t
means-Parse p w t = step (V.Parse p) (Op-F.Parse p) (search (rules, the_lemmas)) w t

pub means-Join : (j : JoinPlan) (right : Plan) (w : World) (t : Grid) → op_means (V.Join j right) w t ≡ join_table j t (plan_means right w)
means-Join j right w t = step (V.Join j right) (Op-F.Join j right) (search (rules, the_lemmas)) w t

pub means-Union : (inner : Bool) (others : List Plan) (w : World) (t : Grid) → op_means (V.Union inner others) w t ≡ union_table inner t (plans_mean others w)
means-Union inner others w t =
    step (V.Union inner others) (Op-F.Union inner others) (search (rules, the_lemmas)) w t ∙ ap (λ (ts : List Grid). union_table inner t ts) (means-each others w)

pub means-Scan : (p : ScanPlan) (w : World) (t : Grid) → op_means (V.Scan p) w t ≡ scan_table p t
means-Scan p w t = step (V.Scan p) (Op-F.Scan p) (search (rules, the_lemmas)) w t

pub ruleset op_steps = (fit_steps, means-Where, means-Extend, means-Project, means-Take, means-Count, means-Sort, means-Top, means-Serialize, means-Summarize, means-MakeSeries, means-MvExpand, means-Parse, means-Join, means-Union, means-Scan)

-- The plans in an operator fit.

pub right-fits : (o : Op) (j : JoinPlan) (right : Plan) (w : World) (t : Grid) → o ≡ V.Join j right → OpFits o w t → PlanFits right w
right-fits o j right w t is f = plan-Join j right w t (subst (λ (p : Op). OpFits p w t) is f)

pub others-all-fit : (o : Op) (inner : Bool) (others seen : List Plan) (w : World) (t : Grid) → o ≡ V.Union inner others → seen ≡ others → OpFits o w t → PlansFit seen w
others-all-fit o inner others seen w t is same f =
    subst (λ (ps : List Plan). PlansFit ps w) (sym same) (plans-Union inner others w t (subst (λ (p : Op). OpFits p w t) is f))

-- What is left of a list from a place on.

pub rest-at : {X : Type 0} (xs : List X) (i : ℕ) (x : X) → i < length xs → x ≡ get_or xs i x → drop i xs ≡ x ∷ drop (i + 1) xs
rest-at [] i x lt is = absurd (omega arith)
rest-at (y ∷ ys) zero x lt is = ap (λ z. z ∷ ys) (sym is)
rest-at (y ∷ ys) (suc i) x lt is =
    let same : suc (i + 1) ≡ suc i + 1 = omega arith in
    rest-at ys i x (omega arith) is ∙ ap (λ k. x ∷ drop k (y ∷ ys)) same

pub rest-none : {X : Type 0} (xs : List X) (i : ℕ) → length xs ≤ i → drop i xs ≡ []
rest-none [] zero le = refl
rest-none [] (suc i) le = refl
rest-none (y ∷ ys) zero le = absurd (omega arith)
rest-none (y ∷ ys) (suc i) le = rest-none ys i (omega arith)

-- One after another.

pub no-more : (w : World) (t : Grid) → one_after_another (map op_means []) w t ≡ t
unfolding one_after_another
no-more w t = refl

pub all-done : (left : List Op) (w : World) (t all : Grid) → left ≡ [] → one_after_another (map op_means left) w t ≡ all → t ≡ all
all-done left w t all none rest = sym (ap (λ (os : List Op). one_after_another (map op_means os) w t) none ∙ no-more w t) ∙ rest

pub one-more : (o : Op) (os : List Op) (w : World) (t : Grid) → one_after_another (map op_means (o ∷ os)) w t ≡ one_after_another (map op_means os) w (op_means o w t)
unfolding one_after_another
one-more o os w t = refl

columns-more : (o : Op) (os : List Op) (k : Known) (inside : Bool) (cs : List Column) → ops_columns (o ∷ os) k inside cs ≡ fold (after k inside) (op_columns o k inside cs) os
columns-more o os k inside cs = ops-fold (o ∷ os) k inside cs ∙ ap (λ (b : Option (List Column)). fold (after k inside) b os) (after-some k inside cs o)

-- Where operators fit a table, the first does, and the others fit what it makes.
parted : (o : Op) (os : List Op) (w : World) (t : Grid) (k : Known) (inside : Bool) → IsSo k w → IsTable t → (next : Option (List Column)) → op_columns o k inside t.columns ≡ next → is_some (fold (after k inside) next os) ≡ true → OpFits o w t × OpsFit os w (op_means o w t)
unfolding OpFits OpsFit
parted o os w t k inside s h None e f =
    let gone : is_some {T = List Column} None ≡ true = sym (ap is_some (stays-none (after k inside) (after-none k inside) os)) ∙ f in
    absurd cc
parted o os w t k inside s h (Some cs) e f =
    let keeps = each_op_keeps k w s.0 o inside t cs h e in (
      (k, inside, s, h, ap is_some e),
      (k, inside, s, keeps.1, ap (λ (ds : List Column). is_some (ops_columns os k inside ds)) keeps.0 ∙ (ap is_some (ops-fold os k inside cs) ∙ f)),
    )

both-fit : (o : Op) (os : List Op) (w : World) (t : Grid) → OpsFit (o ∷ os) w t → OpFits o w t × OpsFit os w (op_means o w t)
unfolding OpsFit
both-fit o os w t f =
    parted o os w t f.0 f.1 f.2 f.3 (op_columns o f.0 f.1 t.columns) refl (sym (ap is_some (columns-more o os f.0 f.1 t.columns)) ∙ f.4)

pub first-fits : (o : Op) (os : List Op) (w : World) (t : Grid) → OpsFit (o ∷ os) w t → OpFits o w t
first-fits o os w t f = (both-fit o os w t f).0

pub others-fit : (o : Op) (os : List Op) (w : World) (t : Grid) → OpsFit (o ∷ os) w t → OpsFit os w (op_means o w t)
others-fit o os w t f = (both-fit o os w t f).1

pub more-done : (o : Op) (os left : List Op) (w : World) (t next all : Grid) → left ≡ o ∷ os → next ≡ op_means o w t → one_after_another (map op_means left) w t ≡ all → one_after_another (map op_means os) w next ≡ all
more-done o os left w t next all is made rest =
    ap (λ (u : Grid). one_after_another (map op_means os) w u) made
    ∙ (sym (one-more o os w t) ∙ (ap (λ (ps : List Op). one_after_another (map op_means ps) w t) (sym is) ∙ rest))

-- An operator that changes nothing.

unchanged : (o : Op) (w : World) (t : Grid) → o ≡ V.Serialize → op_means o w t ≡ t
unchanged o w t is = ap (λ (p : Op). op_means p w t) is ∙ means-Serialize w t

pub unchanged-fits : (o : Op) (os : List Op) (w : World) (t : Grid) → o ≡ V.Serialize → OpsFit (o ∷ os) w t → OpsFit os w t
unchanged-fits o os w t is f = subst (λ (u : Grid). OpsFit os w u) (unchanged o w t is) (others-fit o os w t f)

pub unchanged-done : (o : Op) (os left : List Op) (w : World) (t next all : Grid) → left ≡ o ∷ os → o ≡ V.Serialize → next ≡ t → one_after_another (map op_means left) w t ≡ all → one_after_another (map op_means os) w next ≡ all
unchanged-done o os left w t next all here is same rest = more-done o os left w t next all here (same ∙ sym (unchanged o w t is)) rest

-- The tables of a join and of a union, as they are lent.

pub join-fits-lent : (o : Op) (j : JoinPlan) (right : Plan) (w : World) (t a b : Grid) → o ≡ V.Join j right → OpFits o w t → a ≡ t → b ≡ plan_means right w → join_fits j a.columns b.columns ≡ true
join-fits-lent o j right w t a b is f left other =
    ap₂ (λ (g h : Grid). join_fits j g.columns h.columns) left other ∙ fits-Join j right w t (subst (λ (p : Op). OpFits p w t) is f)

pub join-names-lent : (o : Op) (j : JoinPlan) (right : Plan) (w : World) (t a b : Grid) → o ≡ V.Join j right → OpFits o w t → a ≡ t → b ≡ plan_means right w → HasDistinctNames column_name (join_columns j.kind j a.columns b.columns)
join-names-lent o j right w t a b is f left other =
    subst (HasDistinctNames column_name) (sym (ap₂ (λ (g h : Grid). join_columns j.kind j g.columns h.columns) left other)) (names-Join j right w t (subst (λ (p : Op). OpFits p w t) is f))

pub joined-means : (o : Op) (j : JoinPlan) (right : Plan) (w : World) (t a b : Grid) → o ≡ V.Join j right → a ≡ t → b ≡ plan_means right w → join_table j a b ≡ op_means o w t
joined-means o j right w t a b is left other =
    ap₂ (join_table j) left other ∙ sym (ap (λ (p : Op). op_means p w t) is ∙ means-Join j right w t)

pub union-fits-lent : (o : Op) (inner : Bool) (others : List Plan) (w : World) (t a : Grid) (ts : List Grid) → o ≡ V.Union inner others → OpFits o w t → a ≡ t → ts ≡ plans_mean others w → union_fits (union_columns inner a.columns (columns_of ts)) (a.columns ∷ columns_of ts) ≡ true
union-fits-lent o inner others w t a ts is f left all =
    ap₂ (λ (g : Grid) (us : List Grid). union_fits (union_columns inner g.columns (columns_of us)) (g.columns ∷ columns_of us)) left all ∙ fits-Union inner others w t (subst (λ (p : Op). OpFits p w t) is f)

pub union-names-lent : (o : Op) (inner : Bool) (others : List Plan) (w : World) (t a : Grid) (ts : List Grid) → o ≡ V.Union inner others → OpFits o w t → a ≡ t → ts ≡ plans_mean others w → HasDistinctNames column_name (union_columns inner a.columns (columns_of ts))
union-names-lent o inner others w t a ts is f left all =
    subst (HasDistinctNames column_name) (sym (ap₂ (λ (g : Grid) (us : List Grid). union_columns inner g.columns (columns_of us)) left all)) (names-Union inner others w t (subst (λ (p : Op). OpFits p w t) is f))

pub united-means : (o : Op) (inner : Bool) (others : List Plan) (w : World) (t a : Grid) (ts : List Grid) → o ≡ V.Union inner others → a ≡ t → ts ≡ plans_mean others w → union_table inner a ts ≡ op_means o w t
united-means o inner others w t a ts is left all =
    ap₂ (union_table inner) left all ∙ sym (ap (λ (p : Op). op_means p w t) is ∙ means-Union inner others w t)
