-- A program without calls stays as it is: by induction over operators and plans.
use Rattle.std.proofs.Common.{◌≡◌, ℕ, List, [], ◌∷◌, ◌++◌, map, refl, sym, ap, ap₂, ◌∙◌, subst, append-nil}
use Rattle.std.specs.Prelude.{Option, None, Some}
use Rattle.std.specs.List.{flat_map}
use Rattle.kql_cells.specs.declared.schemas.NamedSchema.{NamedSchema}
use Rattle.kql_bound.specs.declared.plan.Op.{Op, roll-Op}
use Rattle.kql_bound.specs.declared.plan.Op.TheFolds.{map-Op, map-Plan}
use Rattle.kql_bound.specs.declared.plan.Op.TheOpen.{Op-F, Plan-F}
use Rattle.kql_bound.specs.declared.plan.Op.TheVariants as V
use Rattle.kql_bound.specs.declared.plan.Plan.{Plan, ind-Plan, roll-Plan}
use Rattle.kql_bound.specs.declared.plan.Program.{Program}
use Rattle.kql_bound.specs.declared.plan.Source.{Source}
use Rattle.pattern_lift.specs.declared.calls.Derived.{Derived}
use Rattle.pattern_lift.specs.declared.calls.PatternCall.{PatternCall}
use Rattle.pattern_lift.specs.Derived.{columns_of_table, derived, derived_at, derived_in, derived_in_op, derived_in_ops, derived_in_plans, derived_over, derived_schema}
use Rattle.pattern_lift.specs.Lifted.{lifted_from, lifted_op, lifted_over, lifted_plan, lifted_program}
use Rattle.pattern_lift.specs.Prefixes.{prefix_calls, table_read}
use Rattle.pattern_lift.proofs.PlanSteps.{derived-Join, derived-Partition, derived-Union, derived-plan, lifts-Count, lifts-Extend, lifts-Join, lifts-MakeSeries, lifts-MvExpand, lifts-Parse, lifts-Partition, lifts-Project, lifts-Scan, lifts-Serialize, lifts-Sort, lifts-Summarize, lifts-Take, lifts-Top, lifts-Union, lifts-Where, lifts-plan}
use Rattle.pattern_laws.specs.LawsOfPrograms.{StaysWithoutCalls}

no-append : {X : Type 0} (xs ys : List X) → xs ++ ys ≡ [] → (xs ≡ []) × (ys ≡ [])
no-append [] ys e = (refl, e)
no-append (x ∷ xs) ys e = absurd cc

module _ (marks : List ℕ) (tables : List NamedSchema) where
  abbrev OpStays : Op → Type 0
  OpStays o = derived_in_op marks o ≡ [] → lifted_op marks tables o ≡ o

  abbrev PlanStays : Plan → Type 0
  PlanStays p = derived_in marks p ≡ [] → lifted_plan marks tables p ≡ p

  abbrev GivenOp : Type 0
  GivenOp = (o : Op) × OpStays o

  abbrev GivenPlan : Type 0
  GivenPlan = (p : Plan) × PlanStays p

  abbrev bare_op : GivenOp → Op
  bare_op g = g.0

  abbrev bare_plan : GivenPlan → Plan
  bare_plan g = g.0

  ops-stay : (gs : List GivenOp) → derived_in_ops marks (map bare_op gs) ≡ [] → map (lifted_op marks tables) (map bare_op gs) ≡ map bare_op gs
  unfolding derived_in_ops
  ops-stay [] h = refl
  ops-stay (g ∷ gs) h =
      let p = no-append (derived_in_op marks g.0) (flat_map (derived_in_op marks) (map bare_op gs)) h in
      ap₂ (λ (o : Op) (os : List Op). o ∷ os) (g.1 p.0) (ops-stay gs p.1)

  plans-stay : (gs : List GivenPlan) → derived_in_plans marks (map bare_plan gs) ≡ [] → map (lifted_plan marks tables) (map bare_plan gs) ≡ map bare_plan gs
  unfolding derived_in_plans
  plans-stay [] h = refl
  plans-stay (g ∷ gs) h =
      let p = no-append (derived_in marks g.0) (flat_map (derived_in marks) (map bare_plan gs)) h in
      ap₂ (λ (o : Plan) (os : List Plan). o ∷ os) (g.1 p.0) (plans-stay gs p.1)

  abbrev plan_of : Source → List Op → Plan
  plan_of s ops = record { source = s; ops = ops }

  over-stays : (name : List ℕ) (s : Source) (ops : List Op) (cs : List PatternCall) → derived_over marks name cs ≡ [] → lifted_over marks (columns_of_table tables name) s cs ops ≡ plan_of s ops
  unfolding derived_over lifted_over
  over-stays name s ops [] h = refl
  over-stays name s ops (c ∷ cs) h = absurd cc

  from-stays : (s : Source) (ops : List Op) (o : Option (List ℕ)) → derived_at marks o (prefix_calls ops) ≡ [] → lifted_from marks tables s o ops ≡ plan_of s ops
  unfolding derived_at lifted_from
  from-stays s ops None h = refl
  from-stays s ops (Some name) h = over-stays name s ops (prefix_calls ops) h

  plan-stays : (s : Source) (gs : List GivenOp) → PlanStays (plan_of s (map bare_op gs))
  plan-stays s gs h =
      let ops = map bare_op gs in
      let p = no-append (derived_at marks (table_read s) (prefix_calls ops)) (derived_in_ops marks ops) (sym (derived-plan marks (plan_of s ops)) ∙ h) in
      lifts-plan marks tables (plan_of s ops)
      ∙ (ap (lifted_from marks tables s (table_read s)) (ops-stay gs p.1) ∙ from-stays s ops (table_read s) p.0)

  stays-op : (y : Op-F GivenOp GivenPlan) → OpStays (roll-Op (map-Op GivenOp GivenPlan Op Plan bare_op bare_plan y))
  stays-op (Op-F.Where e) = subst OpStays (sym (V.rolls-Where e)) (λ h. lifts-Where marks tables e)
  stays-op (Op-F.Extend items) = subst OpStays (sym (V.rolls-Extend items)) (λ h. lifts-Extend marks tables items)
  stays-op (Op-F.Project items) = subst OpStays (sym (V.rolls-Project items)) (λ h. lifts-Project marks tables items)
  stays-op (Op-F.Take n) = subst OpStays (sym (V.rolls-Take n)) (λ h. lifts-Take marks tables n)
  stays-op Op-F.Count = subst OpStays (sym V.rolls-Count) (λ h. lifts-Count marks tables)
  stays-op Op-F.Serialize = subst OpStays (sym V.rolls-Serialize) (λ h. lifts-Serialize marks tables)
  stays-op (Op-F.Sort keys) = subst OpStays (sym (V.rolls-Sort keys)) (λ h. lifts-Sort marks tables keys)
  stays-op (Op-F.Top n keys) = subst OpStays (sym (V.rolls-Top n keys)) (λ h. lifts-Top marks tables n keys)
  stays-op (Op-F.Summarize g) = subst OpStays (sym (V.rolls-Summarize g)) (λ h. lifts-Summarize marks tables g)
  stays-op (Op-F.MakeSeries p) = subst OpStays (sym (V.rolls-MakeSeries p)) (λ h. lifts-MakeSeries marks tables p)
  stays-op (Op-F.MvExpand x) = subst OpStays (sym (V.rolls-MvExpand x)) (λ h. lifts-MvExpand marks tables x)
  stays-op (Op-F.Parse p) = subst OpStays (sym (V.rolls-Parse p)) (λ h. lifts-Parse marks tables p)
  stays-op (Op-F.Scan p) = subst OpStays (sym (V.rolls-Scan p)) (λ h. lifts-Scan marks tables p)
  stays-op (Op-F.Join j right) = subst OpStays (sym (V.rolls-Join j right.0)) (λ h. lifts-Join marks tables j right.0 ∙ ap (V.Join j) (right.1 (sym (derived-Join marks j right.0) ∙ h)))
  stays-op (Op-F.Union inner others) = subst OpStays (sym (V.rolls-Union inner (map bare_plan others))) (λ h. lifts-Union marks tables inner (map bare_plan others) ∙ ap (V.Union inner) (plans-stay others (sym (derived-Union marks inner (map bare_plan others)) ∙ h)))
  stays-op (Op-F.Partition c ops) = subst OpStays (sym (V.rolls-Partition c (map bare_op ops))) (λ h. lifts-Partition marks tables c (map bare_op ops) ∙ ap (V.Partition c) (ops-stay ops (sym (derived-Partition marks c (map bare_op ops)) ∙ h)))

  stays-plan : (y : Plan-F GivenOp GivenPlan) → PlanStays (roll-Plan (map-Plan GivenOp GivenPlan Op Plan bare_op bare_plan y))
  stays-plan y = plan-stays y.source y.ops

  every-stays : (p : Plan) → PlanStays p
  every-stays =
      ind-Plan OpStays PlanStays (λ y z is. subst (λ (f : Op-F Op Plan). OpStays (roll-Op f)) is (stays-op z))
      (λ y z is. subst (λ (f : Plan-F Op Plan). PlanStays (roll-Plan f)) is (stays-plan z))

  lets-stay : (ps : List Plan) → derived_in_plans marks ps ≡ [] → map (lifted_plan marks tables) ps ≡ ps
  unfolding derived_in_plans
  lets-stay [] h = refl
  lets-stay (p ∷ ps) h =
      let q = no-append (derived_in marks p) (flat_map (derived_in marks) ps) h in
      ap₂ (λ (o : Plan) (os : List Plan). o ∷ os) (every-stays p q.0) (lets-stay ps q.1)

abbrev program_of : List NamedSchema → List Plan → Plan → Program
program_of tables lets main = record { tables = tables; lets = lets; main = main }

same-program : (ts us : List NamedSchema) (ls ms : List Plan) (m n : Plan) → ts ≡ us → ls ≡ ms → m ≡ n → program_of ts ls m ≡ program_of us ms n
same-program ts us ls ms m n a b c = ap₂ (λ (xs : List NamedSchema) (ys : List Plan). program_of xs ys m) a b ∙ ap (program_of us ms) c

pub stays_without_calls : StaysWithoutCalls
unfolding derived lifted_program
stays_without_calls marks p h =
    let q = no-append (derived_in_plans marks p.lets) (derived_in marks p.main) h in
    same-program (p.tables ++ map (derived_schema marks p.tables) (derived_in_plans marks p.lets ++ derived_in marks p.main)) p.tables (map (lifted_plan marks p.tables) p.lets) p.lets (lifted_plan marks p.tables p.main) p.main
    (ap (λ (ds : List Derived). p.tables ++ map (derived_schema marks p.tables) ds) h ∙ append-nil p.tables)
    (lets-stay marks p.tables p.lets q.0)
    (every-stays marks p.tables p.main q.1)
