-- The derived tables of a program: each is named by its first call.
use Rattle.std.proofs.Common.{◌≡◌, ℕ, List, [], ◌∷◌, map, sym, subst, inl, inr}
use Rattle.std.specs.Prelude.{Option, None, Some}
use Rattle.kql_bound.specs.declared.plan.Op.{Op, roll-Op}
use Rattle.kql_bound.specs.declared.plan.Op.TheFolds.{map-Op, map-Plan}
use Rattle.kql_bound.specs.declared.plan.Op.TheOpen.{Op-F, Plan-F}
use Rattle.kql_bound.specs.declared.plan.Op.TheVariants as V
use Rattle.kql_bound.specs.declared.plan.Plan.{Plan, ind-Plan, roll-Plan}
use Rattle.kql_meaning.proofs.MemberLaws.{Member, member-either, member-of-flat, member-of-map}
use Rattle.pattern_lift.specs.declared.calls.Derived.{Derived}
use Rattle.pattern_lift.specs.declared.calls.PatternCall.{PatternCall}
use Rattle.pattern_lift.specs.Derived.{derived_at, derived_in, derived_in_op, derived_in_ops, derived_in_plans, derived_over, name_of_call}
use Rattle.pattern_lift.specs.Prefixes.{prefix_calls, table_read}
use Rattle.pattern_lift.proofs.PlanSteps.{derived-Join, derived-Partition, derived-Union, derived-plan, derived-Where, derived-Extend, derived-Project, derived-Take, derived-Count, derived-Serialize, derived-Sort, derived-Top, derived-Summarize, derived-MakeSeries, derived-MvExpand, derived-Parse, derived-Scan}

module _ (marks : List ℕ) (Q : Derived → Type 0) (each : (table : List ℕ) (c : PatternCall) (cs : List PatternCall) → Q (record { name = name_of_call marks c; table = table; calls = c ∷ cs })) where
  abbrev All : List Derived → Type 0
  All ds = (d : Derived) → Member d ds → Q d

  abbrev OpAll : Op → Type 0
  OpAll o = All (derived_in_op marks o)

  abbrev PlanAll : Plan → Type 0
  PlanAll p = All (derived_in marks p)

  nothing : (ds : List Derived) → ds ≡ [] → All ds
  nothing ds e d m = absurd (subst (Member d) e m)

  over-all : (table : List ℕ) (cs : List PatternCall) → All (derived_over marks table cs)
  unfolding derived_over
  over-all table [] d m = absurd m
  over-all table (c ∷ cs) d (inl e) = subst Q e (each table c cs)
  over-all table (c ∷ cs) d (inr m) = absurd m

  at-all : (table : Option (List ℕ)) (cs : List PatternCall) → All (derived_at marks table cs)
  unfolding derived_at
  at-all None cs d m = absurd m
  at-all (Some table) cs d m = over-all table cs d m

  ops-all : (ops : List Op) → ((o : Op) → Member o ops → OpAll o) → All (derived_in_ops marks ops)
  unfolding derived_in_ops
  ops-all ops h d m = let q = member-of-flat (derived_in_op marks) ops d m in h q.0 q.1 d q.2

  plans-all : (ps : List Plan) → ((p : Plan) → Member p ps → PlanAll p) → All (derived_in_plans marks ps)
  unfolding derived_in_plans
  plans-all ps h d m = let q = member-of-flat (derived_in marks) ps d m in h q.0 q.1 d q.2

  plan-all : (p : Plan) → ((o : Op) → Member o p.ops → OpAll o) → PlanAll p
  plan-all p h d m = elim (member-either (derived_at marks (table_read p.source) (prefix_calls p.ops)) (derived_in_ops marks p.ops) d (subst (Member d) (derived-plan marks p) m)) [
    | inl l ↦ at-all (table_read p.source) (prefix_calls p.ops) d l
    | inr r ↦ ops-all p.ops h d r
  ]

  abbrev GivenOp : Type 0
  GivenOp = (o : Op) × OpAll o

  abbrev GivenPlan : Type 0
  GivenPlan = (p : Plan) × PlanAll p

  abbrev bare_op : GivenOp → Op
  bare_op g = g.0

  abbrev bare_plan : GivenPlan → Plan
  bare_plan g = g.0

  each-op : (gs : List GivenOp) (o : Op) → Member o (map bare_op gs) → OpAll o
  each-op gs o m = let q = member-of-map bare_op gs o m in subst OpAll q.2 q.0.1

  each-plan : (gs : List GivenPlan) (p : Plan) → Member p (map bare_plan gs) → PlanAll p
  each-plan gs p m = let q = member-of-map bare_plan gs p m in subst PlanAll q.2 q.0.1

  of-op : (y : Op-F GivenOp GivenPlan) → OpAll (roll-Op (map-Op GivenOp GivenPlan Op Plan bare_op bare_plan y))
  of-op (Op-F.Where e) = subst OpAll (sym (V.rolls-Where e)) (nothing (derived_in_op marks (V.Where e)) (derived-Where marks e))
  of-op (Op-F.Extend items) = subst OpAll (sym (V.rolls-Extend items)) (nothing (derived_in_op marks (V.Extend items)) (derived-Extend marks items))
  of-op (Op-F.Project items) = subst OpAll (sym (V.rolls-Project items)) (nothing (derived_in_op marks (V.Project items)) (derived-Project marks items))
  of-op (Op-F.Take n) = subst OpAll (sym (V.rolls-Take n)) (nothing (derived_in_op marks (V.Take n)) (derived-Take marks n))
  of-op Op-F.Count = subst OpAll (sym V.rolls-Count) (nothing (derived_in_op marks V.Count) (derived-Count marks))
  of-op Op-F.Serialize = subst OpAll (sym V.rolls-Serialize) (nothing (derived_in_op marks V.Serialize) (derived-Serialize marks))
  of-op (Op-F.Sort keys) = subst OpAll (sym (V.rolls-Sort keys)) (nothing (derived_in_op marks (V.Sort keys)) (derived-Sort marks keys))
  of-op (Op-F.Top n keys) = subst OpAll (sym (V.rolls-Top n keys)) (nothing (derived_in_op marks (V.Top n keys)) (derived-Top marks n keys))
  of-op (Op-F.Summarize g) = subst OpAll (sym (V.rolls-Summarize g)) (nothing (derived_in_op marks (V.Summarize g)) (derived-Summarize marks g))
  of-op (Op-F.MakeSeries p) = subst OpAll (sym (V.rolls-MakeSeries p)) (nothing (derived_in_op marks (V.MakeSeries p)) (derived-MakeSeries marks p))
  of-op (Op-F.MvExpand e) = subst OpAll (sym (V.rolls-MvExpand e)) (nothing (derived_in_op marks (V.MvExpand e)) (derived-MvExpand marks e))
  of-op (Op-F.Parse p) = subst OpAll (sym (V.rolls-Parse p)) (nothing (derived_in_op marks (V.Parse p)) (derived-Parse marks p))
  of-op (Op-F.Scan p) = subst OpAll (sym (V.rolls-Scan p)) (nothing (derived_in_op marks (V.Scan p)) (derived-Scan marks p))
  of-op (Op-F.Join j right) = subst OpAll (sym (V.rolls-Join j right.0)) (λ d m. right.1 d (subst (Member d) (derived-Join marks j right.0) m))
  of-op (Op-F.Union inner others) = subst OpAll (sym (V.rolls-Union inner (map bare_plan others))) (λ d m. plans-all (map bare_plan others) (each-plan others) d (subst (Member d) (derived-Union marks inner (map bare_plan others)) m))
  of-op (Op-F.Partition c ops) = subst OpAll (sym (V.rolls-Partition c (map bare_op ops))) (λ d m. ops-all (map bare_op ops) (each-op ops) d (subst (Member d) (derived-Partition marks c (map bare_op ops)) m))

  of-plan : (y : Plan-F GivenOp GivenPlan) → PlanAll (roll-Plan (map-Plan GivenOp GivenPlan Op Plan bare_op bare_plan y))
  of-plan y = plan-all (record { source = y.source; ops = map bare_op y.ops }) (each-op y.ops)

  pub every-derived : (p : Plan) → PlanAll p
  every-derived =
      ind-Plan OpAll PlanAll (λ y z is. subst (λ (f : Op-F Op Plan). OpAll (roll-Op f)) is (of-op z))
      (λ y z is. subst (λ (f : Plan-F Op Plan). PlanAll (roll-Plan f)) is (of-plan z))

  pub every-derived-of : (ps : List Plan) → All (derived_in_plans marks ps)
  every-derived-of ps = plans-all ps (λ p m. every-derived p)
