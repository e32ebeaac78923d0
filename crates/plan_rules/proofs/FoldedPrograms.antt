-- Every operator, plan and program, folded: by induction over operators and plans.
use Rattle.std.proofs.Common.{◌≡◌, ℕ, suc, Bool, true, false, List, [], ◌∷◌, ◌++◌, length, map, refl, ap, ap₂, sym, ◌∙◌, subst, arith, rules}
use Rattle.std.proofs.Math.Path.{fun_ext}
use Rattle.std.specs.Prelude.{◌&&◌, IsSome, Option, None, Some, fold, is_some, option_and_then, option_map}
use Rattle.std.specs.List.{list_all}
use Rattle.std.proofs.lemmas.Bool.{and_from, and_parts}
use Rattle.kql_cells.specs.Catalogues.{Named}
use Rattle.kql_cells.specs.Table.{Grid}
use Rattle.kql_cells.specs.declared.schemas.NamedSchema.{NamedSchema}
use Rattle.kql_cells.specs.declared.schema.Column.{Column}
use Rattle.kql_bound.specs.declared.parts.BItem.{BItem}
use Rattle.kql_bound.specs.declared.parts.JoinPlan.{JoinPlan}
use Rattle.kql_bound.specs.declared.plan.Op.{Op, roll-Op, the_lemmas}
use Rattle.kql_bound.specs.declared.plan.Op.TheFolds.{map-Op, map-Plan}
use Rattle.kql_bound.specs.declared.plan.Op.TheOpen.{Op-F, Plan-F}
use Rattle.kql_bound.specs.declared.plan.Op.TheVariants as V
use Rattle.kql_bound.specs.declared.plan.Plan.{Plan, fold_out-Plan, ind-Plan, roll-Plan}
use Rattle.kql_bound.specs.declared.plan.Program.{Program}
use Rattle.kql_bound.specs.declared.plan.Source.{Source}
use Rattle.kql_bound.specs.declared.plan.Source.TheVariants as source
use Rattle.kql_meaning.specs.declared.position.Position.TheVariants as position
use Rattle.kql_meaning.specs.Expressions.{column_kind}
use Rattle.kql_meaning.specs.Fits.{Known, all_columns, by_key, fits, joined_columns, known_of, let_after, lets_columns, of_columns, op_columns, ops_columns, outside_subqueries, plan_columns, plans_columns, program_columns, source_columns, tables_stand, united_columns}
use Rattle.kql_meaning.specs.FittingExpressions.{has_kind, is_key}
use Rattle.kql_meaning.specs.FittingOperators.{answer_if, items_fit}
use Rattle.kql_meaning.specs.Items.{items_columns}
use Rattle.kql_meaning.specs.Join.{join_table}
use Rattle.kql_meaning.specs.Partition.{partition_table}
use Rattle.kql_meaning.specs.Plans.{Gives, World, lets_mean, means, one_after_another, op_means, plan_means, source_table}
use Rattle.kql_meaning.specs.Sources.{one_row, print_table}
use Rattle.kql_meaning.specs.Union.{union_table}
use Rattle.kql_meaning.proofs.OperatorFitLaws.{after, join-out, ops-fold, partition-out, plan-out, union-out}
use Rattle.kql_meaning.proofs.PlanLaws.{ops_mean-map, plan_means-out}
use Rattle.kql_fit_laws.proofs.RowLaws as row
use Rattle.plan_rules.specs.Becomes.{ProgramBecomes}
use Rattle.plan_rules.specs.Improves.{AreNoLonger, IsNoLonger, PlanIsNoLonger}
use Rattle.plan_rules.specs.FoldedPlans.{are_folded, folded_items, folded_op, folded_op_test, folded_plan, folded_plan_test, folded_program, folded_source, is_op_folded, is_plan_folded, is_program_folded, is_source_folded}
use Rattle.plan_rules.specs.Weight.{and_then, in_order, nothing, ops_weight, other, plan_weight, program_weight}
use Rattle.plan_rules.proofs.Context.{columns-cons, lost}
use Rattle.plan_rules.proofs.FoldedItems.{columns-folded, items-good, project-folded}
use Rattle.plan_rules.proofs.FoldedOperators.{OpFolds, answer-kept, expand-op, extend-op, is_folded-out, op-folds, parse-op, project-op, scan-op, series-op, sort-op, summarize-op, top-op, where-op}
use Rattle.plan_rules.proofs.FoldedPlanSteps.{folded-out, folds-plan}
use Rattle.plan_rules.proofs.FoldedSizes.{plan-small}
use Rattle.plan_rules.proofs.Weights.{weight-Join, weight-Partition, weight-Union, weight-plan}

-- Sources.

print-good : (items : List BItem) (cs : List Column) → answer_if (items_fit items [] position.Plain) (items_columns items []) ≡ Some cs → (answer_if (items_fit (folded_items items) [] position.Plain) (items_columns (folded_items items) []) ≡ Some cs) × (are_folded (folded_items items) ≡ true)
print-good items cs h = answer-kept (items_fit items [] position.Plain) (items_fit (folded_items items) [] position.Plain) (are_folded (folded_items items) ≡ true) (items_columns items []) (items_columns (folded_items items) []) cs (columns-folded items []) (items-good items [] position.Plain) h

source-good : (s : Source) (k : Known) (cs : List Column) → source_columns s k ≡ Some cs → (source_columns (folded_source s) k ≡ Some cs) × (is_source_folded (folded_source s) ≡ true)
unfolding source_columns folded_source is_source_folded
source-good (source.Table name) k cs h = (h, refl)
source-good (source.Let i) k cs h = (h, refl)
source-good (source.Range column from to step) k cs h = (h, refl)
source-good (source.Print items) k cs h = print-good items cs h

source-means : (s : Source) (w : World) → source_table (folded_source s) w ≡ source_table s w
unfolding source_table folded_source print_table
source-means (source.Table name) w = refl
source-means (source.Let i) w = refl
source-means (source.Range column from to step) w = refl
source-means (source.Print items) w = project-folded items one_row

-- What is said of a plan.
pub record PlanFolds (p : Plan) : Type 0 where
  pub keeps : (k : Known) (ds : List Column) → plan_columns p k ≡ Some ds → (plan_columns (folded_plan p) k ≡ Some ds) × (is_plan_folded (folded_plan p) ≡ true)
  pub meaning : (w : World) → plan_means (folded_plan p) w ≡ plan_means p w
  pub weighs : plan_weight (folded_plan p) ≡ plan_weight p
  pub as_long : length (folded_plan p).ops ≡ length p.ops

-- An operator, and a plan, with what is said of it.
abbrev GivenOp : Type 0
GivenOp = (o : Op) × OpFolds o

abbrev GivenPlan : Type 0
GivenPlan = (p : Plan) × PlanFolds p

abbrev bare_op : GivenOp → Op
bare_op g = g.0

abbrev bare_plan : GivenPlan → Plan
bare_plan g = g.0

-- Operators one after another.

ops-next : (o : Op) (os ps : List Op) → OpFolds o → (k : Known) (inside : Bool) (cs ds : List Column) → ((mid : List Column) → ops_columns os k inside mid ≡ Some ds → (ops_columns ps k inside mid ≡ Some ds) × (list_all is_op_folded ps ≡ true)) → (m : Option (List Column)) → op_columns o k inside cs ≡ m → fold (after k inside) m os ≡ Some ds → (ops_columns (folded_op o ∷ ps) k inside cs ≡ Some ds) × (list_all is_op_folded (folded_op o ∷ ps) ≡ true)
ops-next o os ps one k inside cs ds more None e h = let none = lost k inside os ds h in absurd cc
ops-next o os ps one k inside cs ds more (Some mid) e h =
    let a = one.keeps k inside cs mid e in
    let b = more mid (ops-fold os k inside mid ∙ h) in
    (columns-cons (folded_op o) ps k inside cs ∙ (ap (λ z. fold (after k inside) z ps) a.0 ∙ (sym (ops-fold ps k inside mid) ∙ b.0)), rw (a.1, b.1) refl)

ops-good : (gs : List GivenOp) (k : Known) (inside : Bool) (cs ds : List Column) → ops_columns (map bare_op gs) k inside cs ≡ Some ds → (ops_columns (map folded_op (map bare_op gs)) k inside cs ≡ Some ds) × (list_all is_op_folded (map folded_op (map bare_op gs)) ≡ true)
ops-good [] k inside cs ds h = (h, refl)
ops-good (g ∷ gs) k inside cs ds h =
    ops-next g.0 (map bare_op gs) (map folded_op (map bare_op gs)) g.1 k inside cs ds (λ mid e. ops-good gs k inside mid ds e) (op_columns g.0 k inside cs) refl (sym (columns-cons g.0 (map bare_op gs) k inside cs) ∙ h)

ops-mean : (gs : List GivenOp) (w : World) (t : Grid) → fold (λ before op. op_means op w before) t (map folded_op (map bare_op gs)) ≡ fold (λ before op. op_means op w before) t (map bare_op gs)
ops-mean [] w t = refl
ops-mean (g ∷ gs) w t = ap (λ (u : Grid). fold (λ before op. op_means op w before) u (map folded_op (map bare_op gs))) (g.1.meaning w t) ∙ ops-mean gs w (op_means g.0 w t)

ops-weigh : (gs : List GivenOp) → ops_weight (map folded_op (map bare_op gs)) ≡ ops_weight (map bare_op gs)
ops-weigh [] = refl
ops-weigh (g ∷ gs) = ap₂ and_then g.1.weighs (ops-weigh gs)

ops-long : (os : List Op) → length (map folded_op os) ≡ length os
ops-long [] = refl
ops-long (o ∷ os) = ap suc (ops-long os)

-- Several plans.

plans-next : (p : Plan) (ps qs : List Plan) → PlanFolds p → (k : Known) (all : List (List Column)) → ((ms : List (List Column)) → all_columns (map plan_columns ps) k ≡ Some ms → (all_columns (map plan_columns qs) k ≡ Some ms) × (list_all is_plan_folded qs ≡ true)) → (o : Option (List Column)) (r : Option (List (List Column))) → plan_columns p k ≡ o → all_columns (map plan_columns ps) k ≡ r → option_and_then (λ one. option_map (λ more. one ∷ more) r) o ≡ Some all → (option_and_then (λ one. option_map (λ more. one ∷ more) (all_columns (map plan_columns qs) k)) (plan_columns (folded_plan p) k) ≡ Some all) × (list_all is_plan_folded (folded_plan p ∷ qs) ≡ true)
plans-next p ps qs one k all more None r e f h = absurd cc
plans-next p ps qs one k all more (Some c) None e f h = absurd cc
plans-next p ps qs one k all more (Some c) (Some ms) e f h =
    let a = one.keeps k c e in
    let b = more ms f in
    (rw (a.0, b.0) h, rw (a.1, b.1) refl)

plans-good : (gs : List GivenPlan) (k : Known) (all : List (List Column)) → all_columns (map plan_columns (map bare_plan gs)) k ≡ Some all → (all_columns (map plan_columns (map folded_plan (map bare_plan gs))) k ≡ Some all) × (list_all is_plan_folded (map folded_plan (map bare_plan gs)) ≡ true)
unfolding all_columns
plans-good [] k all h = (h, refl)
plans-good (g ∷ gs) k all h =
    plans-next g.0 (map bare_plan gs) (map folded_plan (map bare_plan gs)) g.1 k all (λ ms e. plans-good gs k ms e) (plan_columns g.0 k) (all_columns (map plan_columns (map bare_plan gs)) k) refl refl h

abbrev grids : List Plan → World → List Grid
grids plans w = map (λ (plan : Gives). plan w) (map plan_means plans)

plans-mean : (gs : List GivenPlan) (w : World) → grids (map folded_plan (map bare_plan gs)) w ≡ grids (map bare_plan gs) w
plans-mean [] w = refl
plans-mean (g ∷ gs) w = ap₂ (λ (t : Grid) (ts : List Grid). t ∷ ts) (g.1.meaning w) (plans-mean gs w)

plans-weigh : (gs : List GivenPlan) → in_order (map plan_weight (map folded_plan (map bare_plan gs))) ≡ in_order (map plan_weight (map bare_plan gs))
plans-weigh [] = refl
plans-weigh (g ∷ gs) = ap₂ and_then g.1.weighs (plans-weigh gs)

-- Operators with plans and operators in them.

outside-some : (inside : Bool) (columns : Option (List Column)) (cs : List Column) → outside_subqueries inside columns ≡ Some cs → (inside ≡ false) × (columns ≡ Some cs)
unfolding outside_subqueries
outside-some true columns cs e = absurd cc
outside-some false columns cs e = (refl, e)

joined : (j : JoinPlan) (g : GivenPlan) (k : Known) (cs ds : List Column) (o : Option (List Column)) → plan_columns g.0 k ≡ o → joined_columns j cs o ≡ Some ds → (plan_columns (folded_plan g.0) k ≡ plan_columns g.0 k) × (is_plan_folded (folded_plan g.0) ≡ true)
unfolding joined_columns
joined j g k cs ds None e h = absurd cc
joined j g k cs ds (Some rc) e h = let r = g.1.keeps k rc e in (r.0 ∙ sym e, r.1)

join-op : (j : JoinPlan) (g : GivenPlan) → OpFolds (V.Join j g.0)
join-op j g =
    let q = folded_plan g.0 in
    op-folds (V.Join j g.0) (V.Join j q) (folded-out (V.Join j g.0) (Op-F.Join j g.0) (search (rules, the_lemmas)))
    (λ k inside cs ds h.
    let a = outside-some inside (joined_columns j cs (plan_columns g.0 k)) ds (sym (join-out j g.0 k inside cs) ∙ h) in
    let r = joined j g k cs ds (plan_columns g.0 k) refl a.1 in (
      join-out j q k inside cs ∙ (ap (λ o. outside_subqueries inside (joined_columns j cs o)) r.0 ∙ (sym (join-out j g.0 k inside cs) ∙ h)),
      is_folded-out (V.Join j q) (Op-F.Join j q) (search (rules, the_lemmas)) ∙ r.1,
    ))
    (λ w t. row.means (V.Join j q) (Op-F.Join j q) (search (rules, the_lemmas)) w t ∙ (ap (join_table j t) (g.1.meaning w) ∙ sym (row.means (V.Join j g.0) (Op-F.Join j g.0) (search (rules, the_lemmas)) w t)))
    (weight-Join j q ∙ (ap (λ w. and_then w other) g.1.weighs ∙ sym (weight-Join j g.0)))

all-plans : (ps : List Plan) → list_all (λ b. b) (map is_plan_folded ps) ≡ list_all is_plan_folded ps
all-plans [] = refl
all-plans (p ∷ ps) = ap (λ b. is_plan_folded p && b) (all-plans ps)

united : (inner : Bool) (gs : List GivenPlan) (k : Known) (cs ds : List Column) (o : Option (List (List Column))) → plans_columns (map bare_plan gs) k ≡ o → united_columns inner cs o ≡ Some ds → (plans_columns (map folded_plan (map bare_plan gs)) k ≡ plans_columns (map bare_plan gs) k) × (list_all is_plan_folded (map folded_plan (map bare_plan gs)) ≡ true)
unfolding united_columns plans_columns
united inner gs k cs ds None e h = absurd cc
united inner gs k cs ds (Some all) e h = let r = plans-good gs k all e in (r.0 ∙ sym e, r.1)

union-op : (inner : Bool) (gs : List GivenPlan) → OpFolds (V.Union inner (map bare_plan gs))
union-op inner gs =
    let ps = map bare_plan gs in
    let qs = map folded_plan ps in
    op-folds (V.Union inner ps) (V.Union inner qs) (folded-out (V.Union inner ps) (Op-F.Union inner ps) (search (rules, the_lemmas)))
    (λ k inside cs ds h.
    let a = outside-some inside (united_columns inner cs (plans_columns ps k)) ds (sym (union-out inner ps k inside cs) ∙ h) in
    let r = united inner gs k cs ds (plans_columns ps k) refl a.1 in (
      union-out inner qs k inside cs ∙ (ap (λ o. outside_subqueries inside (united_columns inner cs o)) r.0 ∙ (sym (union-out inner ps k inside cs) ∙ h)),
      is_folded-out (V.Union inner qs) (Op-F.Union inner qs) (search (rules, the_lemmas)) ∙ (all-plans qs ∙ r.1),
    ))
    (λ w t. row.means (V.Union inner qs) (Op-F.Union inner qs) (search (rules, the_lemmas)) w t ∙ (ap (union_table inner t) (plans-mean gs w) ∙ sym (row.means (V.Union inner ps) (Op-F.Union inner ps) (search (rules, the_lemmas)) w t)))
    (weight-Union inner qs ∙ (ap (λ w. and_then w other) (plans-weigh gs) ∙ sym (weight-Union inner ps)))

all-ops : (os : List Op) → list_all (λ b. b) (map is_op_folded os) ≡ list_all is_op_folded os
all-ops [] = refl
all-ops (o ∷ os) = ap (λ b. is_op_folded o && b) (all-ops os)

key-some : (b : Bool) (o : Option (List Column)) (cs : List Column) → by_key b o ≡ Some cs → (b ≡ true) × (o ≡ Some cs)
unfolding by_key
key-some true o cs e = (refl, e)
key-some false o cs e = absurd cc

abbrev subquery_of : List Op → World → Grid → Grid
subquery_of ops w u = one_after_another (map op_means ops) w u

partition-op : (c : List ℕ) (gs : List GivenOp) → OpFolds (V.Partition c (map bare_op gs))
partition-op c gs =
    let os = map bare_op gs in
    let ps = map folded_op os in
    op-folds (V.Partition c os) (V.Partition c ps) (folded-out (V.Partition c os) (Op-F.Partition c os) (search (rules, the_lemmas)))
    (λ k inside cs ds h.
    let b = has_kind is_key (column_kind c cs) in
    let a = outside-some inside (by_key b (ops_columns os k true cs)) ds (sym (partition-out c os k inside cs) ∙ h) in
    let some = key-some b (ops_columns os k true cs) ds a.1 in
    let r = ops-good gs k true cs ds some.1 in (
      partition-out c ps k inside cs ∙ (ap (λ o. outside_subqueries inside (by_key b o)) (r.0 ∙ sym some.1) ∙ (sym (partition-out c os k inside cs) ∙ h)),
      is_folded-out (V.Partition c ps) (Op-F.Partition c ps) (search (rules, the_lemmas)) ∙ (all-ops ps ∙ r.1),
    ))
    (λ w t. row.means (V.Partition c ps) (Op-F.Partition c ps) (search (rules, the_lemmas)) w t
    ∙ (ap (λ (f : Grid → Grid). partition_table c f t) (fun_ext (λ (u : Grid). ops_mean-map ps w u ∙ (ops-mean gs w u ∙ sym (ops_mean-map os w u))))
    ∙ sym (row.means (V.Partition c os) (Op-F.Partition c os) (search (rules, the_lemmas)) w t)))
    (weight-Partition c ps ∙ (ap (λ w. and_then w other) (ops-weigh gs) ∙ sym (weight-Partition c os)))

same-op : (o : Op) → folded_op o ≡ o → is_op_folded o ≡ true → OpFolds o
same-op o e f = op-folds o o e (λ k inside cs ds h. (h, f)) (λ w t. refl) refl

of-op : (y : Op-F GivenOp GivenPlan) → OpFolds (roll-Op (map-Op GivenOp GivenPlan Op Plan bare_op bare_plan y))
of-op (Op-F.Where e) = subst OpFolds (sym (V.rolls-Where e)) (where-op e)
of-op (Op-F.Extend items) = subst OpFolds (sym (V.rolls-Extend items)) (extend-op items)
of-op (Op-F.Project items) = subst OpFolds (sym (V.rolls-Project items)) (project-op items)
of-op (Op-F.Take n) = subst OpFolds (sym (V.rolls-Take n)) (same-op (V.Take n) (folded-out (V.Take n) (Op-F.Take n) (search (rules, the_lemmas))) (is_folded-out (V.Take n) (Op-F.Take n) (search (rules, the_lemmas))))
of-op Op-F.Count = subst OpFolds (sym V.rolls-Count) (same-op V.Count (folded-out V.Count Op-F.Count (search (rules, the_lemmas))) (is_folded-out V.Count Op-F.Count (search (rules, the_lemmas))))
of-op Op-F.Serialize = subst OpFolds (sym V.rolls-Serialize) (same-op V.Serialize (folded-out V.Serialize Op-F.Serialize (search (rules, the_lemmas))) (is_folded-out V.Serialize Op-F.Serialize (search (rules, the_lemmas))))
of-op (Op-F.Sort keys) = subst OpFolds (sym (V.rolls-Sort keys)) (sort-op keys)
of-op (Op-F.Top n keys) = subst OpFolds (sym (V.rolls-Top n keys)) (top-op n keys)
of-op (Op-F.Summarize g) = subst OpFolds (sym (V.rolls-Summarize g)) (summarize-op g)
of-op (Op-F.MakeSeries p) = subst OpFolds (sym (V.rolls-MakeSeries p)) (series-op p)
of-op (Op-F.MvExpand x) = subst OpFolds (sym (V.rolls-MvExpand x)) (expand-op x)
of-op (Op-F.Parse p) = subst OpFolds (sym (V.rolls-Parse p)) (parse-op p)
of-op (Op-F.Join j right) = subst OpFolds (sym (V.rolls-Join j right.0)) (join-op j right)
of-op (Op-F.Union inner others) = subst OpFolds (sym (V.rolls-Union inner (map bare_plan others))) (union-op inner others)
of-op (Op-F.Scan p) = subst OpFolds (sym (V.rolls-Scan p)) (scan-op p)
of-op (Op-F.Partition c ops) = subst OpFolds (sym (V.rolls-Partition c (map bare_op ops))) (partition-op c ops)

-- Plans.

plan-folded-out : (p : Plan) → is_plan_folded p ≡ (is_source_folded p.source && list_all (λ b. b) (map is_op_folded p.ops))
unfolding is_op_folded is_plan_folded
plan-folded-out p = fold_out-Plan Bool Bool folded_op_test folded_plan_test p

plan-next : (s : Source) (gs : List GivenOp) (k : Known) (ds : List Column) (o : Option (List Column)) → source_columns s k ≡ o → of_columns o (λ cs. ops_columns (map bare_op gs) k false cs) ≡ Some ds → (of_columns (source_columns (folded_source s) k) (λ cs. ops_columns (map folded_op (map bare_op gs)) k false cs) ≡ Some ds) × ((is_source_folded (folded_source s) && list_all is_op_folded (map folded_op (map bare_op gs))) ≡ true)
unfolding of_columns
plan-next s gs k ds None e h = absurd cc
plan-next s gs k ds (Some cs) e h =
    let a = source-good s k cs e in
    let b = ops-good gs k false cs ds h in
    (rw a.0 b.0, rw (a.1, b.1) refl)

of-plan : (y : Plan-F GivenOp GivenPlan) → PlanFolds (roll-Plan (map-Plan GivenOp GivenPlan Op Plan bare_op bare_plan y))
of-plan y =
    let p : Plan = record { source = y.source; ops = map bare_op y.ops } in
    let q : Plan = record { source = folded_source y.source; ops = map folded_op (map bare_op y.ops) } in
    let is : folded_plan p ≡ q = folds-plan p in
    let run = λ (w : World) (before : Grid) (op : Op). op_means op w before in
    record {
      keeps = λ k ds h.
          let r = plan-next y.source y.ops k ds (source_columns y.source k) refl (sym (plan-out p k) ∙ h) in
          let both : (plan_columns q k ≡ Some ds) × (is_plan_folded q ≡ true) = (plan-out q k ∙ r.0, plan-folded-out q ∙ (ap (λ b. is_source_folded q.source && b) (all-ops q.ops) ∙ r.1)) in
          subst (λ (x : Plan). (plan_columns x k ≡ Some ds) × (is_plan_folded x ≡ true)) (sym is) both;
      meaning = λ w. ap (λ (x : Plan). plan_means x w) is ∙ (plan_means-out q w ∙ (ap (λ (t : Grid). fold (run w) t q.ops) (source-means y.source w) ∙ (ops-mean y.ops w (source_table y.source w) ∙ sym (plan_means-out p w))));
      weighs = ap plan_weight is ∙ (weight-plan q ∙ (ops-weigh y.ops ∙ sym (weight-plan p)));
      as_long = ap (λ (x : Plan). length x.ops) is ∙ ops-long (map bare_op y.ops);
    }

pub every-plan : (p : Plan) → PlanFolds p
every-plan =
    ind-Plan OpFolds PlanFolds (λ x y is. subst (λ (z : Op-F Op Plan). OpFolds (roll-Op z)) is (of-op y))
    (λ x y is. subst (λ (z : Plan-F Op Plan). PlanFolds (roll-Plan z)) is (of-plan y))

-- Lets, each over those before it.

let-by : (tables : List NamedSchema) (ms : List (List Column)) (p : Plan) (ls : List (List Column)) (c : Option (List Column)) → plan_columns p (known_of tables ms) ≡ c → option_map (λ columns. ms ++ columns ∷ []) c ≡ Some ls → (option_map (λ columns. ms ++ columns ∷ []) (plan_columns (folded_plan p) (known_of tables ms)) ≡ Some ls) × (is_plan_folded (folded_plan p) ≡ true)
let-by tables ms p ls None e g = absurd cc
let-by tables ms p ls (Some cs) e g = let r = (every-plan p).keeps (known_of tables ms) cs e in (rw r.0 g, r.1)

let-next : (tables : List NamedSchema) (o : Option (List (List Column))) (p : Plan) (ls : List (List Column)) → let_after tables o p ≡ Some ls → (let_after tables o (folded_plan p) ≡ Some ls) × (is_plan_folded (folded_plan p) ≡ true)
unfolding let_after
let-next tables None p ls h = absurd cc
let-next tables (Some ms) p ls h = let-by tables ms p ls (plan_columns p (known_of tables ms)) refl h

none-stays : (tables : List NamedSchema) (ps : List Plan) → fold (let_after tables) None ps ≡ None
unfolding let_after
none-stays tables [] = refl
none-stays tables (p ∷ ps) = none-stays tables ps

lets-next : (tables : List NamedSchema) (p : Plan) (ps : List Plan) (o : Option (List (List Column))) (ls : List (List Column)) → ((ms : List (List Column)) → fold (let_after tables) (Some ms) ps ≡ Some ls → (fold (let_after tables) (Some ms) (map folded_plan ps) ≡ Some ls) × (list_all is_plan_folded (map folded_plan ps) ≡ true)) → (m : Option (List (List Column))) → let_after tables o p ≡ m → fold (let_after tables) m ps ≡ Some ls → (fold (let_after tables) (let_after tables o (folded_plan p)) (map folded_plan ps) ≡ Some ls) × ((is_plan_folded (folded_plan p) && list_all is_plan_folded (map folded_plan ps)) ≡ true)
lets-next tables p ps o ls more None e g = let none : None ≡ Some ls = sym (none-stays tables ps) ∙ g in absurd cc
lets-next tables p ps o ls more (Some ms) e g =
    let a = let-next tables o p ms e in
    let b = more ms g in
    (ap (λ z. fold (let_after tables) z (map folded_plan ps)) a.0 ∙ b.0, rw (a.1, b.1) refl)

lets-good : (tables : List NamedSchema) (ps : List Plan) (o : Option (List (List Column))) (ls : List (List Column)) → fold (let_after tables) o ps ≡ Some ls → (fold (let_after tables) o (map folded_plan ps) ≡ Some ls) × (list_all is_plan_folded (map folded_plan ps) ≡ true)
lets-good tables [] o ls h = (h, refl)
lets-good tables (p ∷ ps) o ls h = lets-next tables p ps o ls (λ ms g. lets-good tables ps (Some ms) ls g) (let_after tables o p) refl h

lets-same : (tables : List Named) (ps : List Plan) (done : List Grid) → fold (λ done p. done ++ plan_means p (record { tables = tables; lets = done }) ∷ []) done (map folded_plan ps) ≡ fold (λ done p. done ++ plan_means p (record { tables = tables; lets = done }) ∷ []) done ps
lets-same tables [] done = refl
lets-same tables (p ∷ ps) done =
    ap (λ (t : Grid). fold (λ done p. done ++ plan_means p (record { tables = tables; lets = done }) ∷ []) (done ++ t ∷ []) (map folded_plan ps)) ((every-plan p).meaning (record { tables = tables; lets = done }))
    ∙ lets-same tables ps (done ++ plan_means p (record { tables = tables; lets = done }) ∷ [])

-- Programs.

program-next : (p : Program) (cs : List Column) (o : Option (List (List Column))) → lets_columns p.lets p.tables ≡ o → option_and_then (λ lets. plan_columns p.main (known_of p.tables lets)) o ≡ Some cs → (option_and_then (λ lets. plan_columns (folded_plan p.main) (known_of p.tables lets)) (lets_columns (map folded_plan p.lets) p.tables) ≡ Some cs) × ((list_all is_plan_folded (map folded_plan p.lets) && is_plan_folded (folded_plan p.main)) ≡ true)
unfolding lets_columns
program-next p cs None e h = absurd cc
program-next p cs (Some ls) e h =
    let a = lets-good p.tables p.lets (Some []) ls e in
    let b = (every-plan p.main).keeps (known_of p.tables ls) cs h in
    (rw (a.0, b.0) refl, rw (a.1, b.1) refl)

pub program-good : (p : Program) (cs : List Column) → program_columns p ≡ Some cs → (program_columns (folded_program p) ≡ Some cs) × (is_program_folded (folded_program p) ≡ true)
unfolding program_columns folded_program is_program_folded
program-good p cs h = program-next p cs (lets_columns p.lets p.tables) refl h

some-of : (o : Option (List Column)) → is_some o ≡ true → (cs : List Column) × (o ≡ Some cs)
some-of None e = absurd cc
some-of (Some cs) e = (cs, refl)

pub program-fits : (p : Program) → IsSome (program_columns p) → IsSome (program_columns (folded_program p))
program-fits p h = let some = some-of (program_columns p) h in rw (program-good p some.0 some.1).0 refl

pub program-folded : (p : Program) → IsSome (program_columns p) → is_program_folded (folded_program p) ≡ true
program-folded p h = let some = some-of (program_columns p) h in (program-good p some.0 some.1).1

program-means : (p : Program) (catalogue : List Named) → means (folded_program p) catalogue ≡ means p catalogue
unfolding means lets_mean folded_program
program-means p catalogue =
    (every-plan p.main).meaning (record { tables = catalogue; lets = lets_mean (map folded_plan p.lets) catalogue })
    ∙ ap (λ (ts : List Grid). plan_means p.main (record { tables = catalogue; lets = ts })) (lets-same catalogue p.lets [])

tables-of : (p : Program) → (folded_program p).tables ≡ p.tables
unfolding folded_program
tables-of p = refl

pub program-becomes : (p : Program) → ProgramBecomes p (folded_program p)
unfolding fits
program-becomes p = record {
  tables = tables-of p;
  fitting = λ schemas e.
      let parts = and_parts (tables_stand p.tables schemas) (is_some (program_columns p)) e in
      and_from (tables_stand (folded_program p).tables schemas) (is_some (program_columns (folded_program p))) (ap (λ ts. tables_stand ts schemas) (tables-of p) ∙ parts.0) (program-fits p parts.1);
  meaning = λ catalogue tables e. program-means p catalogue;
}

pub program-weighs : (p : Program) → program_weight (folded_program p) ≡ program_weight p
unfolding folded_program
program-weighs p = weighs (p.lets ++ p.main ∷ []) p.lets p.main refl
  where
    plans : (ps : List Plan) (q : Plan) → in_order (map plan_weight (map folded_plan ps ++ folded_plan q ∷ [])) ≡ in_order (map plan_weight (ps ++ q ∷ []))
    plans [] q = ap (λ w. and_then w nothing) (every-plan q).weighs
    plans (x ∷ xs) q = ap₂ and_then (every-plan x).weighs (plans xs q)

    weighs : (all ps : List Plan) (q : Plan) → all ≡ ps ++ q ∷ [] → in_order (map plan_weight (map folded_plan ps ++ folded_plan q ∷ [])) ≡ in_order (map plan_weight all)
    weighs all ps q e = plans ps q ∙ ap (λ xs. in_order (map plan_weight xs)) (sym e)

pub program-no-longer : (p : Program) → IsNoLonger (folded_program p) p
unfolding folded_program
program-no-longer p = record { lets = lets p.lets; main = longer p.main }
  where
    longer : (q : Plan) → PlanIsNoLonger (folded_plan q) q
    longer q = record { operators = omega (arith, (every-plan q).as_long); size = plan-small q }

    lets : (ps : List Plan) → AreNoLonger (map folded_plan ps) ps
    lets [] = tt
    lets (q ∷ qs) = (longer q, lets qs)
