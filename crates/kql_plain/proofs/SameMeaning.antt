-- What a plan means does not depend on the table of a let that it does not name.
use mathlib.Core.Path.{fun_ext}
use Rattle.std.proofs.Common.{◌≡◌, ◌<◌, ℕ, Bool, false, List, [], ◌∷◌, ◌++◌, length, map, set, refl, sym, ap, ap₂, ◌∙◌, subst, inl, inr, arith}
use Rattle.std.proofs.lemmas.Bool.{eqb-false, or_parts}
use Rattle.std.proofs.lemmas.List.{get_or-set_other, length_push, set-append_left}
use Rattle.std.proofs.lemmas.List.Folds.{list_any-append}
use Rattle.kql_cells.specs.Catalogues.{Named}
use Rattle.kql_cells.specs.Table.{Grid}
use Rattle.kql_bound.specs.declared.parts.JoinPlan.{JoinPlan}
use Rattle.kql_bound.specs.declared.plan.Op.{Op, ind-Op, roll-Op}
use Rattle.kql_bound.specs.declared.plan.Op.TheFolds.{map-Op, map-Plan}
use Rattle.kql_bound.specs.declared.plan.Op.TheOpen.{Op-F, Plan-F}
use Rattle.kql_bound.specs.declared.plan.Op.TheVariants as V
use Rattle.kql_bound.specs.declared.plan.Plan.{Plan, ind-Plan, roll-Plan}
use Rattle.kql_bound.specs.declared.plan.Source.{Source}
use Rattle.kql_bound.specs.declared.plan.Source.TheVariants as source
use Rattle.kql_meaning.specs.Extend.{extend_table}
use Rattle.kql_meaning.specs.Join.{join_table}
use Rattle.kql_meaning.specs.MakeSeries.{series_table}
use Rattle.kql_meaning.specs.MvExpand.{expand_table}
use Rattle.kql_meaning.specs.Parse.{parse_table}
use Rattle.kql_meaning.specs.Partition.{partition_table}
use Rattle.kql_meaning.specs.Plans.{World, one_after_another, op_means, plan_means, source_table}
use Rattle.kql_meaning.specs.Project.{project_table}
use Rattle.kql_meaning.specs.Scan.{scan_table}
use Rattle.kql_meaning.specs.Sort.{sort_table, top_table}
use Rattle.kql_meaning.specs.Sources.{let_table}
use Rattle.kql_meaning.specs.Summarize.{summarize_table}
use Rattle.kql_meaning.specs.Tables.{nothing}
use Rattle.kql_meaning.specs.TakeAndCount.{count_table, take_table}
use Rattle.kql_meaning.specs.Union.{union_table}
use Rattle.kql_meaning.specs.Where.{where_table}
use Rattle.kql_meaning.proofs.MemberLaws.{Member, member-of-map}
use Rattle.kql_plain.specs.AtHand.{means_behind, plans_mean, with_lets, world_of}
use Rattle.kql_plain.specs.Readings.{op_names, ops_name, plan_names, plans_name, source_names}
use Rattle.kql_plain.proofs.LetLaws.{no-lets, one-let}
use Rattle.kql_plain.proofs.OperatorLaws.{means-Count, means-Extend, means-Join, means-MakeSeries, means-MvExpand, means-Parse, means-Project, means-Scan, means-Serialize, means-Sort, means-Summarize, means-Take, means-Top, means-Union, means-Where, no-more, one-more}
use Rattle.kql_plain.proofs.PartitionSteps.{means-Partition}
use Rattle.kql_plain.proofs.PlanLaws.{plan-means}
use Rattle.kql_plain.proofs.ReadingSteps.{names-Join, names-Partition, names-Union, names-plan}

module _ (tables : List Named) (i : ℕ) (x : Grid) where
  -- The tables at hand, and these with another table in the place of the let.
  abbrev before : List Grid → World
  before lets = world_of tables lets

  abbrev after : List Grid → World
  after lets = world_of tables (set lets i x)

  abbrev SameOp : Op → Type 0
  SameOp o = op_names i o ≡ false → (lets : List Grid) (t : Grid) → op_means o (after lets) t ≡ op_means o (before lets) t

  abbrev SamePlan : Plan → Type 0
  SamePlan p = plan_names i p ≡ false → (lets : List Grid) → plan_means p (after lets) ≡ plan_means p (before lets)

  same-source : (s : Source) → source_names i s ≡ false → (lets : List Grid) → source_table s (after lets) ≡ source_table s (before lets)
  unfolding source_table source_names let_table
  same-source (source.Table name) n lets = refl
  same-source (source.Let k) n lets = get_or-set_other lets i k x nothing (eqb-false k i n)
  same-source (source.Range column from to step) n lets = refl
  same-source (source.Print items) n lets = refl

  same-ops : (os : List Op) → ((o : Op) → Member o os → SameOp o) → ops_name i os ≡ false → (lets : List Grid) (t : Grid) → one_after_another (map op_means os) (after lets) t ≡ one_after_another (map op_means os) (before lets) t
  same-ops [] each n lets t = no-more (after lets) t ∙ sym (no-more (before lets) t)
  same-ops (o ∷ os) each n lets t =
      let parts = or_parts (op_names i o) (ops_name i os) n in
      one-more o os (after lets) t
      ∙ (ap (λ (u : Grid). one_after_another (map op_means os) (after lets) u) (each o (inl refl) parts.0 lets t)
      ∙ (same-ops os (λ p m. each p (inr m)) parts.1 lets (op_means o (before lets) t) ∙ sym (one-more o os (before lets) t)))

  same-plans : (ps : List Plan) → ((p : Plan) → Member p ps → SamePlan p) → plans_name i ps ≡ false → (lets : List Grid) → plans_mean ps (after lets) ≡ plans_mean ps (before lets)
  same-plans [] each n lets = refl
  same-plans (p ∷ ps) each n lets =
      let parts = or_parts (plan_names i p) (plans_name i ps) n in
      ap₂ (λ (g : Grid) (gs : List Grid). g ∷ gs) (each p (inl refl) parts.0 lets) (same-plans ps (λ q m. each q (inr m)) parts.1 lets)

  -- An operator whose meaning does not look at the tables at hand.
  fixed : (o : Op) (f : Grid → Grid) → ((w : World) (t : Grid) → op_means o w t ≡ f t) → SameOp o
  fixed o f is n lets t = is (after lets) t ∙ sym (is (before lets) t)

  same-join : (j : JoinPlan) (right : Plan) → SamePlan right → SameOp (V.Join j right)
  same-join j right same n lets t =
      means-Join j right (after lets) t ∙ (ap (λ (g : Grid). join_table j t g) (same (sym (names-Join i j right) ∙ n) lets) ∙ sym (means-Join j right (before lets) t))

  same-union : (inner : Bool) (others : List Plan) → ((p : Plan) → Member p others → SamePlan p) → SameOp (V.Union inner others)
  same-union inner others each n lets t =
      means-Union inner others (after lets) t
      ∙ (ap (λ (gs : List Grid). union_table inner t gs) (same-plans others each (sym (names-Union i inner others) ∙ n) lets) ∙ sym (means-Union inner others (before lets) t))

  same-partition : (c : List ℕ) (ops : List Op) → ((o : Op) → Member o ops → SameOp o) → SameOp (V.Partition c ops)
  same-partition c ops each n lets t =
      means-Partition c ops (after lets) t
      ∙ (ap (λ (f : Grid → Grid). partition_table c f t) (fun_ext (λ g. same-ops ops each (sym (names-Partition i c ops) ∙ n) lets g)) ∙ sym (means-Partition c ops (before lets) t))

  same-parts : (p : Plan) → ((o : Op) → Member o p.ops → SameOp o) → SamePlan p
  same-parts p each n lets =
      let parts = or_parts (ops_name i p.ops) (source_names i p.source) (sym (names-plan i p) ∙ n) in
      plan-means p (after lets)
      ∙ (ap (λ (t : Grid). one_after_another (map op_means p.ops) (after lets) t) (same-source p.source parts.1 lets)
      ∙ (same-ops p.ops each parts.0 lets (source_table p.source (before lets)) ∙ sym (plan-means p (before lets))))

  -- By induction over operators and plans.

  abbrev GivenOp : Type 0
  GivenOp = (o : Op) × SameOp o

  abbrev GivenPlan : Type 0
  GivenPlan = (p : Plan) × SamePlan p

  abbrev bare_op : GivenOp → Op
  bare_op g = g.0

  abbrev bare_plan : GivenPlan → Plan
  bare_plan g = g.0

  each-op : (gs : List GivenOp) (o : Op) → Member o (map bare_op gs) → SameOp o
  each-op gs o m = let q = member-of-map bare_op gs o m in subst SameOp q.2 q.0.1

  each-plan : (gs : List GivenPlan) (p : Plan) → Member p (map bare_plan gs) → SamePlan p
  each-plan gs p m = let q = member-of-map bare_plan gs p m in subst SamePlan q.2 q.0.1

  of-op : (y : Op-F GivenOp GivenPlan) → SameOp (roll-Op (map-Op GivenOp GivenPlan Op Plan bare_op bare_plan y))
  of-op (Op-F.Where e) = subst SameOp (sym (V.rolls-Where e)) (fixed (V.Where e) (where_table e) (means-Where e))
  of-op (Op-F.Extend items) = subst SameOp (sym (V.rolls-Extend items)) (fixed (V.Extend items) (extend_table items) (means-Extend items))
  of-op (Op-F.Project items) = subst SameOp (sym (V.rolls-Project items)) (fixed (V.Project items) (project_table items) (means-Project items))
  of-op (Op-F.Take n) = subst SameOp (sym (V.rolls-Take n)) (fixed (V.Take n) (take_table n) (means-Take n))
  of-op Op-F.Count = subst SameOp (sym V.rolls-Count) (fixed V.Count count_table means-Count)
  of-op Op-F.Serialize = subst SameOp (sym V.rolls-Serialize) (fixed V.Serialize (λ t. t) means-Serialize)
  of-op (Op-F.Sort keys) = subst SameOp (sym (V.rolls-Sort keys)) (fixed (V.Sort keys) (sort_table keys) (means-Sort keys))
  of-op (Op-F.Top n keys) = subst SameOp (sym (V.rolls-Top n keys)) (fixed (V.Top n keys) (top_table n keys) (means-Top n keys))
  of-op (Op-F.Summarize g) = subst SameOp (sym (V.rolls-Summarize g)) (fixed (V.Summarize g) (summarize_table g) (means-Summarize g))
  of-op (Op-F.MakeSeries p) = subst SameOp (sym (V.rolls-MakeSeries p)) (fixed (V.MakeSeries p) (series_table p) (means-MakeSeries p))
  of-op (Op-F.MvExpand e) = subst SameOp (sym (V.rolls-MvExpand e)) (fixed (V.MvExpand e) (expand_table e) (means-MvExpand e))
  of-op (Op-F.Parse p) = subst SameOp (sym (V.rolls-Parse p)) (fixed (V.Parse p) (parse_table p) (means-Parse p))
  of-op (Op-F.Join j right) = subst SameOp (sym (V.rolls-Join j right.0)) (same-join j right.0 right.1)
  of-op (Op-F.Union inner others) = subst SameOp (sym (V.rolls-Union inner (map bare_plan others))) (same-union inner (map bare_plan others) (each-plan others))
  of-op (Op-F.Scan p) = subst SameOp (sym (V.rolls-Scan p)) (fixed (V.Scan p) (scan_table p) (means-Scan p))
  of-op (Op-F.Partition c ops) = subst SameOp (sym (V.rolls-Partition c (map bare_op ops))) (same-partition c (map bare_op ops) (each-op ops))

  of-plan : (y : Plan-F GivenOp GivenPlan) → SamePlan (roll-Plan (map-Plan GivenOp GivenPlan Op Plan bare_op bare_plan y))
  of-plan y = same-parts (record { source = y.source; ops = map bare_op y.ops }) (each-op y.ops)

  every-op : (o : Op) → SameOp o
  every-op =
      ind-Op SameOp SamePlan (λ y z is. subst (λ (f : Op-F Op Plan). SameOp (roll-Op f)) is (of-op z))
      (λ y z is. subst (λ (f : Plan-F Op Plan). SamePlan (roll-Plan f)) is (of-plan z))

  every-plan : (p : Plan) → SamePlan p
  every-plan =
      ind-Plan SameOp SamePlan (λ y z is. subst (λ (f : Op-F Op Plan). SameOp (roll-Op f)) is (of-op z))
      (λ y z is. subst (λ (f : Plan-F Op Plan). SamePlan (roll-Plan f)) is (of-plan z))

-- Operators, lets, and a plan behind them.

pub ops-same : (tables : List Named) (i : ℕ) (x : Grid) (ops : List Op) → ops_name i ops ≡ false → (lets : List Grid) (t : Grid) → one_after_another (map op_means ops) (world_of tables (set lets i x)) t ≡ one_after_another (map op_means ops) (world_of tables lets) t
ops-same tables i x ops n lets t = same-ops tables i x ops (λ o m. every-op tables i x o) n lets t

lets-same : (tables : List Named) (i : ℕ) (x : Grid) (ps : List Plan) (made : List Grid) → plans_name i ps ≡ false → i < length made → with_lets ps tables (set made i x) ≡ set (with_lets ps tables made) i x
lets-same tables i x [] made n lt = no-lets tables (set made i x) ∙ ap (λ (ts : List Grid). set ts i x) (sym (no-lets tables made))
lets-same tables i x (p ∷ ps) made n lt =
    let parts = or_parts (plan_names i p) (plans_name i ps) n in
    let t = plan_means p (world_of tables made) in
    let longer : i < length (made ++ t ∷ []) = omega (arith, length_push made t, lt) in
    one-let p ps tables (set made i x)
    ∙ (ap (λ (u : Grid). with_lets ps tables (set made i x ++ u ∷ [])) (every-plan tables i x p parts.0 made)
    ∙ (ap (λ (ts : List Grid). with_lets ps tables ts) (sym (set-append_left made (t ∷ []) i x lt))
    ∙ (lets-same tables i x ps (made ++ t ∷ []) parts.1 longer ∙ ap (λ (ts : List Grid). set ts i x) (sym (one-let p ps tables made)))))

pub behind-same : (tables : List Named) (i : ℕ) (x : Grid) (ps : List Plan) (main : Plan) (made : List Grid) → plans_name i (ps ++ main ∷ []) ≡ false → i < length made → means_behind ps main tables (set made i x) ≡ means_behind ps main tables made
unfolding means_behind
behind-same tables i x ps main made n lt =
    let parts = or_parts (plans_name i ps) (plans_name i (main ∷ [])) (sym (list_any-append (plan_names i) ps (main ∷ [])) ∙ n) in
    ap (λ (ts : List Grid). plan_means main (world_of tables ts)) (lets-same tables i x ps made parts.0 lt)
    ∙ every-plan tables i x main (or_parts (plan_names i main) false parts.1).0 (with_lets ps tables made)
