-- The equations of the columns that are made, and that they are those of what fits.
use Rattle.std.proofs.Common.{◌≡◌, ◌<◌, ℕ, zero, suc, Bool, true, false, List, [], ◌∷◌, map, length, take, get_or, refl, sym, ap, ap₂, ◌∙◌, subst, inl, inr, arith, rules}
use Rattle.std.specs.Prelude.{Option, None, Some, fold, option_and_then, option_map, slice_get, unwrap_or}
use Rattle.kql_cells.specs.declared.schema.Column.{Column}
use Rattle.kql_bound.specs.declared.expr.BExpr.{BExpr}
use Rattle.kql_bound.specs.declared.parts.BItem.{BItem}
use Rattle.kql_bound.specs.declared.parts.BKey.{BKey}
use Rattle.kql_bound.specs.declared.parts.Expand.{Expand}
use Rattle.kql_bound.specs.declared.parts.GroupPlan.{GroupPlan}
use Rattle.kql_bound.specs.declared.parts.JoinPlan.{JoinPlan}
use Rattle.kql_bound.specs.declared.parts.ParsePlan.{ParsePlan}
use Rattle.kql_bound.specs.declared.parts.ScanPlan.{ScanPlan}
use Rattle.kql_bound.specs.declared.parts.SeriesPlan.{SeriesPlan}
use Rattle.kql_bound.specs.declared.plan.Op.{Op, out-Op, fold_out-Op, ind-Op, roll-Op, the_lemmas}
use Rattle.kql_bound.specs.declared.plan.Op.TheFolds.{map-Op, map-Plan}
use Rattle.kql_bound.specs.declared.plan.Op.TheOpen.{Op-F, Plan-F}
use Rattle.kql_bound.specs.declared.plan.Op.TheVariants as V
use Rattle.kql_bound.specs.declared.plan.Plan.{Plan, fold_out-Plan, ind-Plan, roll-Plan}
use Rattle.kql_bound.specs.declared.plan.Source.{Source}
use Rattle.kql_bound.specs.declared.plan.Source.TheVariants as source
use Rattle.kql_meaning.specs.declared.position.Position.TheVariants as position
use Rattle.kql_meaning.specs.Expressions.{column_kind}
use Rattle.kql_meaning.specs.Extend.{extend_columns}
use Rattle.kql_meaning.specs.Fits.{Known, all_columns, by_key, joined_columns, of_columns, op_columns, ops_columns, outside_subqueries, plan_columns, plans_columns, source_columns, table_columns, united_columns}
use Rattle.kql_meaning.specs.FittingExpressions.{has_kind, is_key}
use Rattle.kql_meaning.specs.FittingOperators.{answer_if, columns_if, expand_fits, items_fit, join_fits, parse_fits, range_fits, scan_fits, series_fits, sort_fits, summarize_fits, union_fits, where_fits}
use Rattle.kql_meaning.specs.Items.{items_columns}
use Rattle.kql_meaning.specs.Join.{join_columns}
use Rattle.kql_meaning.specs.MakeSeries.{series_columns}
use Rattle.kql_meaning.specs.MvExpand.{expand_columns}
use Rattle.kql_meaning.specs.Parse.{parse_columns}
use Rattle.kql_meaning.specs.Scan.{scan_columns}
use Rattle.kql_meaning.specs.Sources.{range_columns}
use Rattle.kql_meaning.specs.Summarize.{group_columns}
use Rattle.kql_meaning.specs.TakeAndCount.{count_columns}
use Rattle.kql_meaning.specs.Union.{union_columns}
use Rattle.kql_meaning.proofs.MemberLaws.{Member, member-of-map}
use Rattle.kql_meaning.proofs.OperatorFitLaws.{after, join-out, op-Count, op-Extend, op-MakeSeries, op-MvExpand, op-Parse, op-Project, op-Scan, op-Serialize, op-Sort, op-Summarize, op-Take, op-Top, op-Where, ops-fold, partition-out, plan-out, stays-none, after-none, after-some, union-out}
use Rattle.kql_fit_laws.proofs.RowFacts.{answer-some, columns-some}
use Rattle.plan_columns.specs.Made.{OpMakes, PlanMakes, op_makes, op_makes_step, ops_make, plan_makes, plan_makes_step, plans_make, source_makes}

out : (op : Op) (f : Op-F Op Plan) → out-Op op ≡ f → (known : Known) (columns : List Column) → op_makes op known columns ≡ op_makes_step (map-Op Op Plan OpMakes PlanMakes op_makes plan_makes f) known columns
unfolding op_makes plan_makes
out op f e known columns = ap (λ (g : OpMakes). g known columns) (fold_out-Op OpMakes PlanMakes op_makes_step plan_makes_step op ∙ ap (λ (g : Op-F Op Plan). op_makes_step (map-Op Op Plan OpMakes PlanMakes op_makes plan_makes g)) e)

pub made-Where : (e : BExpr) (known : Known) (columns : List Column) → op_makes (V.Where e) known columns ≡ columns
made-Where e known columns = out (V.Where e) (Op-F.Where e) (search (rules, the_lemmas)) known columns

pub made-Extend : (items : List BItem) (known : Known) (columns : List Column) → op_makes (V.Extend items) known columns ≡ extend_columns items columns
made-Extend items known columns = out (V.Extend items) (Op-F.Extend items) (search (rules, the_lemmas)) known columns

pub made-Project : (items : List BItem) (known : Known) (columns : List Column) → op_makes (V.Project items) known columns ≡ items_columns items columns
made-Project items known columns = out (V.Project items) (Op-F.Project items) (search (rules, the_lemmas)) known columns

pub made-Take : (n : ℕ) (known : Known) (columns : List Column) → op_makes (V.Take n) known columns ≡ columns
made-Take n known columns = out (V.Take n) (Op-F.Take n) (search (rules, the_lemmas)) known columns

pub made-Count : (known : Known) (columns : List Column) → op_makes V.Count known columns ≡ count_columns
made-Count known columns = out V.Count Op-F.Count (search (rules, the_lemmas)) known columns

pub made-Serialize : (known : Known) (columns : List Column) → op_makes V.Serialize known columns ≡ columns
made-Serialize known columns = out V.Serialize Op-F.Serialize (search (rules, the_lemmas)) known columns

pub made-Sort : (keys : List BKey) (known : Known) (columns : List Column) → op_makes (V.Sort keys) known columns ≡ columns
made-Sort keys known columns = out (V.Sort keys) (Op-F.Sort keys) (search (rules, the_lemmas)) known columns

pub made-Top : (n : ℕ) (keys : List BKey) (known : Known) (columns : List Column) → op_makes (V.Top n keys) known columns ≡ columns
made-Top n keys known columns = out (V.Top n keys) (Op-F.Top n keys) (search (rules, the_lemmas)) known columns

pub made-Summarize : (g : GroupPlan) (known : Known) (columns : List Column) → op_makes (V.Summarize g) known columns ≡ group_columns g columns
made-Summarize g known columns = out (V.Summarize g) (Op-F.Summarize g) (search (rules, the_lemmas)) known columns

pub made-MakeSeries : (p : SeriesPlan) (known : Known) (columns : List Column) → op_makes (V.MakeSeries p) known columns ≡ series_columns p columns
made-MakeSeries p known columns = out (V.MakeSeries p) (Op-F.MakeSeries p) (search (rules, the_lemmas)) known columns

pub made-MvExpand : (x : Expand) (known : Known) (columns : List Column) → op_makes (V.MvExpand x) known columns ≡ expand_columns x columns
made-MvExpand x known columns = out (V.MvExpand x) (Op-F.MvExpand x) (search (rules, the_lemmas)) known columns

pub made-Parse : (p : ParsePlan) (known : Known) (columns : List Column) → op_makes (V.Parse p) known columns ≡ parse_columns p columns
made-Parse p known columns = out (V.Parse p) (Op-F.Parse p) (search (rules, the_lemmas)) known columns

pub made-Scan : (p : ScanPlan) (known : Known) (columns : List Column) → op_makes (V.Scan p) known columns ≡ scan_columns p columns
made-Scan p known columns = out (V.Scan p) (Op-F.Scan p) (search (rules, the_lemmas)) known columns

pub made-Join : (j : JoinPlan) (right : Plan) (known : Known) (columns : List Column) → op_makes (V.Join j right) known columns ≡ join_columns j.kind j columns (plan_makes right known)
made-Join j right known columns = out (V.Join j right) (Op-F.Join j right) (search (rules, the_lemmas)) known columns

maps-once : (known : Known) (plans : List Plan) → map (λ (p : PlanMakes). p known) (map plan_makes plans) ≡ map (λ (p : Plan). plan_makes p known) plans
maps-once known [] = refl
maps-once known (p ∷ ps) = ap (λ cs. plan_makes p known ∷ cs) (maps-once known ps)

pub made-Union : (inner : Bool) (others : List Plan) (known : Known) (columns : List Column) → op_makes (V.Union inner others) known columns ≡ union_columns inner columns (plans_make others known)
unfolding plans_make
made-Union inner others known columns = out (V.Union inner others) (Op-F.Union inner others) (search (rules, the_lemmas)) known columns ∙ ap (union_columns inner columns) (maps-once known others)

pub made-Partition : (c : List ℕ) (ops : List Op) (known : Known) (columns : List Column) → op_makes (V.Partition c ops) known columns ≡ ops_make ops known columns
unfolding ops_make
made-Partition c ops known columns = out (V.Partition c ops) (Op-F.Partition c ops) (search (rules, the_lemmas)) known columns

pub ruleset made_steps = (made-Where, made-Extend, made-Project, made-Take, made-Count, made-Serialize, made-Sort, made-Top, made-Summarize, made-MakeSeries, made-MvExpand, made-Parse, made-Scan, made-Join, made-Union, made-Partition)

-- Lists of operators and plans.

pub ops-none : (known : Known) (columns : List Column) → ops_make [] known columns ≡ columns
unfolding ops_make
ops-none known columns = refl

pub ops-one : (op : Op) (ops : List Op) (known : Known) (columns : List Column) → ops_make (op ∷ ops) known columns ≡ ops_make ops known (op_makes op known columns)
unfolding ops_make
ops-one op ops known columns = refl

pub ops-more : (ops : List Op) (known : Known) (columns : List Column) (i j : ℕ) (d : Op) → i < length ops → j ≡ suc i → ops_make (take j ops) known columns ≡ op_makes (get_or ops i d) known (ops_make (take i ops) known columns)
unfolding ops_make
ops-more [] known columns i j d lt e = absurd (omega arith)
ops-more (op ∷ ops) known columns zero j d lt e = rw e refl
ops-more (op ∷ ops) known columns (suc i) j d lt e = rw e (ops-more ops known (op_makes op known columns) i (suc i) d (omega arith) refl)

pub ruleset ops_steps = (ops-none, ops-more)

pub plans-none : (known : Known) → plans_make [] known ≡ []
unfolding plans_make
plans-none known = refl

pub ruleset plans_steps = (plans-none)

pub plan-makes : (p : Plan) (known : Known) → plan_makes p known ≡ ops_make p.ops known (source_makes p.source known)
unfolding plan_makes op_makes ops_make
plan-makes p known = ap (λ (g : PlanMakes). g known) (fold_out-Plan OpMakes PlanMakes op_makes_step plan_makes_step p)

pub ruleset plan_steps = (plan-makes)

-- What fits makes these columns.

abbrev pub MakesItsColumns : Op → Type 0
MakesItsColumns o = (k : Known) (inside : Bool) (cs ds : List Column) → op_columns o k inside cs ≡ Some ds → op_makes o k cs ≡ ds

abbrev pub PlanMakesItsColumns : Plan → Type 0
PlanMakesItsColumns p = (k : Known) (ds : List Column) → plan_columns p k ≡ Some ds → plan_makes p k ≡ ds

some-same : {X : Type 0} (a b : X) → Some a ≡ Some b → a ≡ b
some-same a b e = cc

unwrapped : (o : Option (List Column)) (cs : List Column) → o ≡ Some cs → unwrap_or o [] ≡ cs
unwrapped None cs e = absurd cc
unwrapped (Some x) cs e = some-same x cs e

pub source-makes : (s : Source) (k : Known) (cs : List Column) → source_columns s k ≡ Some cs → source_makes s k ≡ cs
unfolding source_columns source_makes
source-makes (source.Table name) k cs e = unwrapped (table_columns k.tables name) cs e
source-makes (source.Let i) k cs e = unwrapped (slice_get k.lets i) cs e
source-makes (source.Range column from to step) k cs e = (answer-some (range_fits from to step) (range_columns column from) cs e).1
source-makes (source.Print items) k cs e = (answer-some (items_fit items [] position.Plain) (items_columns items []) cs e).1

outside-some : (inside : Bool) (columns : Option (List Column)) (cs : List Column) → outside_subqueries inside columns ≡ Some cs → columns ≡ Some cs
unfolding outside_subqueries
outside-some true columns cs e = cc
outside-some false columns cs e = e

after-next : (o : Op) (os : List Op) (k : Known) (inside : Bool) (cs ds : List Column) → MakesItsColumns o → ((mid : List Column) → fold (after k inside) (Some mid) os ≡ Some ds → ops_make os k mid ≡ ds) → (m : Option (List Column)) → op_columns o k inside cs ≡ m → fold (after k inside) m os ≡ Some ds → ops_make os k (op_makes o k cs) ≡ ds
after-next o os k inside cs ds one rest None f g = let none : None ≡ Some ds = sym (stays-none (after k inside) (after-none k inside) os) ∙ g in absurd cc
after-next o os k inside cs ds one rest (Some mid) f g = ap (ops_make os k) (one k inside cs mid f) ∙ rest mid g

-- Operators one after another, each of which does.
after-makes : (ops : List Op) → ((o : Op) → Member o ops → MakesItsColumns o) → (k : Known) (inside : Bool) (cs ds : List Column) → fold (after k inside) (Some cs) ops ≡ Some ds → ops_make ops k cs ≡ ds
unfolding ops_make
after-makes [] each k inside cs ds e = some-same cs ds e
after-makes (o ∷ os) each k inside cs ds e = after-next o os k inside cs ds (each o (inl refl)) (λ mid g. after-makes os (λ x m. each x (inr m)) k inside mid ds g) (op_columns o k inside cs) refl (ap (λ z. fold (after k inside) z os) (sym (after-some k inside cs o)) ∙ e)

plans-next : (p : Plan) (ps : List Plan) (k : Known) (all : List (List Column)) → PlanMakesItsColumns p → ((cs : List (List Column)) → all_columns (map plan_columns ps) k ≡ Some cs → plans_make ps k ≡ cs) → (o : Option (List Column)) → plan_columns p k ≡ o → (r : Option (List (List Column))) → all_columns (map plan_columns ps) k ≡ r → option_and_then (λ one. option_map (λ more. one ∷ more) r) o ≡ Some all → plans_make (p ∷ ps) k ≡ all
unfolding plans_make
plans-next p ps k all one rest None f r g h = absurd cc
plans-next p ps k all one rest (Some c) f None g h = absurd cc
plans-next p ps k all one rest (Some c) f (Some cs) g h = ap₂ (λ (x : List Column) (xs : List (List Column)). x ∷ xs) (one k c f) (rest cs g) ∙ some-same (c ∷ cs) all h

plans-make : (ps : List Plan) → ((p : Plan) → Member p ps → PlanMakesItsColumns p) → (k : Known) (all : List (List Column)) → all_columns (map plan_columns ps) k ≡ Some all → plans_make ps k ≡ all
unfolding plans_make all_columns
plans-make [] each k all e = some-same [] all e
plans-make (p ∷ ps) each k all e = plans-next p ps k all (each p (inl refl)) (λ cs g. plans-make ps (λ x m. each x (inr m)) k cs g) (plan_columns p k) refl (all_columns (map plan_columns ps) k) refl e

joined-makes : (j : JoinPlan) (p : Plan) → PlanMakesItsColumns p → (k : Known) (cs ds : List Column) (o : Option (List Column)) → plan_columns p k ≡ o → joined_columns j cs o ≡ Some ds → join_columns j.kind j cs (plan_makes p k) ≡ ds
unfolding joined_columns
joined-makes j p each k cs ds None e f = absurd cc
joined-makes j p each k cs ds (Some rc) e f = ap (join_columns j.kind j cs) (each k rc e) ∙ (answer-some (join_fits j cs rc) (join_columns j.kind j cs rc) ds f).1

united-makes : (inner : Bool) (ps : List Plan) → ((p : Plan) → Member p ps → PlanMakesItsColumns p) → (k : Known) (cs ds : List Column) (o : Option (List (List Column))) → plans_columns ps k ≡ o → united_columns inner cs o ≡ Some ds → union_columns inner cs (plans_make ps k) ≡ ds
unfolding united_columns plans_columns
united-makes inner ps each k cs ds None e f = absurd cc
united-makes inner ps each k cs ds (Some all) e f = ap (union_columns inner cs) (plans-make ps each k all e) ∙ (answer-some (union_fits (union_columns inner cs all) (cs ∷ all)) (union_columns inner cs all) ds f).1

key-some : (b : Bool) (o : Option (List Column)) (cs : List Column) → by_key b o ≡ Some cs → o ≡ Some cs
unfolding by_key
key-some true o cs e = e
key-some false o cs e = cc

abbrev bare_op : (o : Op) × MakesItsColumns o → Op
bare_op g = g.0

abbrev bare_plan : (p : Plan) × PlanMakesItsColumns p → Plan
bare_plan g = g.0

each-op : (gs : List ((o : Op) × MakesItsColumns o)) (o : Op) → Member o (map bare_op gs) → MakesItsColumns o
each-op gs o m = let q = member-of-map bare_op gs o m in subst MakesItsColumns q.2 q.0.1

each-plan : (gs : List ((p : Plan) × PlanMakesItsColumns p)) (p : Plan) → Member p (map bare_plan gs) → PlanMakesItsColumns p
each-plan gs p m = let q = member-of-map bare_plan gs p m in subst PlanMakesItsColumns q.2 q.0.1

of-op : (y : Op-F ((o : Op) × MakesItsColumns o) ((p : Plan) × PlanMakesItsColumns p)) → MakesItsColumns (roll-Op (map-Op ((o : Op) × MakesItsColumns o) ((p : Plan) × PlanMakesItsColumns p) Op Plan bare_op bare_plan y))
of-op (Op-F.Where e) = subst MakesItsColumns (sym (V.rolls-Where e)) (λ k inside cs ds h. made-Where e k cs ∙ (columns-some (where_fits e cs) cs ds (sym (op-Where e k inside cs) ∙ h)).1)
of-op (Op-F.Extend items) = subst MakesItsColumns (sym (V.rolls-Extend items)) (λ k inside cs ds h. made-Extend items k cs ∙ (answer-some (items_fit items cs position.Window) (extend_columns items cs) ds (sym (op-Extend items k inside cs) ∙ h)).1)
of-op (Op-F.Project items) = subst MakesItsColumns (sym (V.rolls-Project items)) (λ k inside cs ds h. made-Project items k cs ∙ (answer-some (items_fit items cs position.Window) (items_columns items cs) ds (sym (op-Project items k inside cs) ∙ h)).1)
of-op (Op-F.Take n) = subst MakesItsColumns (sym (V.rolls-Take n)) (λ k inside cs ds h. made-Take n k cs ∙ some-same cs ds (sym (op-Take n k inside cs) ∙ h))
of-op Op-F.Count = subst MakesItsColumns (sym V.rolls-Count) (λ k inside cs ds h. made-Count k cs ∙ some-same count_columns ds (sym (op-Count k inside cs) ∙ h))
of-op Op-F.Serialize = subst MakesItsColumns (sym V.rolls-Serialize) (λ k inside cs ds h. made-Serialize k cs ∙ some-same cs ds (sym (op-Serialize k inside cs) ∙ h))
of-op (Op-F.Sort keys) = subst MakesItsColumns (sym (V.rolls-Sort keys)) (λ k inside cs ds h. made-Sort keys k cs ∙ (columns-some (sort_fits keys cs) cs ds (sym (op-Sort keys k inside cs) ∙ h)).1)
of-op (Op-F.Top n keys) = subst MakesItsColumns (sym (V.rolls-Top n keys)) (λ k inside cs ds h. made-Top n keys k cs ∙ (columns-some (sort_fits keys cs) cs ds (sym (op-Top n keys k inside cs) ∙ h)).1)
of-op (Op-F.Summarize g) = subst MakesItsColumns (sym (V.rolls-Summarize g)) (λ k inside cs ds h. made-Summarize g k cs ∙ (answer-some (summarize_fits g cs) (group_columns g cs) ds (sym (op-Summarize g k inside cs) ∙ h)).1)
of-op (Op-F.MakeSeries p) = subst MakesItsColumns (sym (V.rolls-MakeSeries p)) (λ k inside cs ds h. made-MakeSeries p k cs ∙ (answer-some (series_fits p cs) (series_columns p cs) ds (sym (op-MakeSeries p k inside cs) ∙ h)).1)
of-op (Op-F.MvExpand x) = subst MakesItsColumns (sym (V.rolls-MvExpand x)) (λ k inside cs ds h. made-MvExpand x k cs ∙ (answer-some (expand_fits x cs) (expand_columns x cs) ds (sym (op-MvExpand x k inside cs) ∙ h)).1)
of-op (Op-F.Parse p) = subst MakesItsColumns (sym (V.rolls-Parse p)) (λ k inside cs ds h. made-Parse p k cs ∙ (answer-some (parse_fits p cs) (parse_columns p cs) ds (sym (op-Parse p k inside cs) ∙ h)).1)
of-op (Op-F.Join j right) = subst MakesItsColumns (sym (V.rolls-Join j right.0)) (λ k inside cs ds h. made-Join j right.0 k cs ∙ joined-makes j right.0 right.1 k cs ds (plan_columns right.0 k) refl (outside-some inside (joined_columns j cs (plan_columns right.0 k)) ds (sym (join-out j right.0 k inside cs) ∙ h)))
of-op (Op-F.Union inner others) = subst MakesItsColumns (sym (V.rolls-Union inner (map bare_plan others))) (λ k inside cs ds h.
    let ps = map bare_plan others in
    made-Union inner ps k cs ∙ united-makes inner ps (each-plan others) k cs ds (plans_columns ps k) refl (outside-some inside (united_columns inner cs (plans_columns ps k)) ds (sym (union-out inner ps k inside cs) ∙ h)))
of-op (Op-F.Scan p) = subst MakesItsColumns (sym (V.rolls-Scan p)) (λ k inside cs ds h. made-Scan p k cs ∙ (answer-some (scan_fits p cs) (scan_columns p cs) ds (sym (op-Scan p k inside cs) ∙ h)).1)
of-op (Op-F.Partition c ops) = subst MakesItsColumns (sym (V.rolls-Partition c (map bare_op ops))) (λ k inside cs ds h.
    let os = map bare_op ops in
    let b = has_kind is_key (column_kind c cs) in
    let within = key-some b (ops_columns os k true cs) ds (outside-some inside (by_key b (ops_columns os k true cs)) ds (sym (partition-out c os k inside cs) ∙ h)) in
    made-Partition c os k cs ∙ after-makes os (each-op ops) k true cs ds (sym (ops-fold os k true cs) ∙ within))

plan-next : (p : Plan) → ((o : Op) → Member o p.ops → MakesItsColumns o) → (k : Known) (ds : List Column) (o : Option (List Column)) → source_columns p.source k ≡ o → of_columns o (λ cs. ops_columns p.ops k false cs) ≡ Some ds → plan_makes p k ≡ ds
unfolding of_columns
plan-next p each k ds None e f = absurd cc
plan-next p each k ds (Some cs) e f = plan-makes p k ∙ (ap (ops_make p.ops k) (source-makes p.source k cs e) ∙ after-makes p.ops each k false cs ds (sym (ops-fold p.ops k false cs) ∙ f))

of-plan : (y : Plan-F ((o : Op) × MakesItsColumns o) ((p : Plan) × PlanMakesItsColumns p)) → PlanMakesItsColumns (roll-Plan (map-Plan ((o : Op) × MakesItsColumns o) ((p : Plan) × PlanMakesItsColumns p) Op Plan bare_op bare_plan y))
of-plan y k ds e =
    let p : Plan = record { source = y.source; ops = map bare_op y.ops } in
    plan-next p (each-op y.ops) k ds (source_columns p.source k) refl (sym (plan-out p k) ∙ e)

pub op-makes : (o : Op) (k : Known) (inside : Bool) (cs ds : List Column) → op_columns o k inside cs ≡ Some ds → op_makes o k cs ≡ ds
op-makes =
    ind-Op MakesItsColumns PlanMakesItsColumns (λ x y is. subst (λ (z : Op-F Op Plan). MakesItsColumns (roll-Op z)) is (of-op y))
    (λ x y is. subst (λ (z : Plan-F Op Plan). PlanMakesItsColumns (roll-Plan z)) is (of-plan y))

pub plan-makes-its : (p : Plan) (k : Known) (ds : List Column) → plan_columns p k ≡ Some ds → plan_makes p k ≡ ds
plan-makes-its =
    ind-Plan MakesItsColumns PlanMakesItsColumns (λ x y is. subst (λ (z : Op-F Op Plan). MakesItsColumns (roll-Op z)) is (of-op y))
    (λ x y is. subst (λ (z : Plan-F Op Plan). PlanMakesItsColumns (roll-Plan z)) is (of-plan y))
