-- The calls of a program do not depend on the marks: by induction over operators and plans.
use Rattle.std.proofs.Common.{◌≡◌, ℕ, List, [], ◌∷◌, ◌++◌, map, refl, sym, ap, ap₂, ◌∙◌, subst}
use Rattle.std.specs.Prelude.{Option, None, Some}
use Rattle.std.specs.List.{flat_map}
use Rattle.std.proofs.lemmas.Grind.{flat_map-append}
use Rattle.kql_bound.specs.declared.plan.Op.{Op, roll-Op}
use Rattle.kql_bound.specs.declared.plan.Op.TheFolds.{map-Op, map-Plan}
use Rattle.kql_bound.specs.declared.plan.Op.TheOpen.{Op-F, Plan-F}
use Rattle.kql_bound.specs.declared.plan.Op.TheVariants as V
use Rattle.kql_bound.specs.declared.plan.Plan.{Plan, ind-Plan, roll-Plan}
use Rattle.kql_bound.specs.declared.plan.Program.{Program}
use Rattle.kql_bound.specs.declared.plan.Source.{Source}
use Rattle.pattern_lift.specs.declared.calls.Derived.{Derived}
use Rattle.pattern_lift.specs.declared.calls.PatternCall.{PatternCall}
use Rattle.pattern_lift.specs.Derived.{derived, derived_at, derived_in, derived_in_op, derived_in_ops, derived_in_plans, derived_over, uses}
use Rattle.pattern_lift.specs.Prefixes.{prefix_calls, table_read}
use Rattle.pattern_lift.proofs.PlanSteps.{derived-Join, derived-Partition, derived-Union, derived-plan, derived-Where, derived-Extend, derived-Project, derived-Take, derived-Count, derived-Serialize, derived-Sort, derived-Top, derived-Summarize, derived-MakeSeries, derived-MvExpand, derived-Parse, derived-Scan}
use Rattle.pattern_run.specs.Patterned.{calls_of_program}

abbrev pub called : List Derived → List PatternCall
called ds = flat_map (λ (d : Derived). d.calls) ds

both : (vs ws xs ys : List Derived) → called vs ≡ called xs → called ws ≡ called ys → called (vs ++ ws) ≡ called (xs ++ ys)
both vs ws xs ys e f =
    flat_map-append (λ (d : Derived). d.calls) vs ws ∙ (ap₂ (λ (bs cs : List PatternCall). bs ++ cs) e f ∙ sym (flat_map-append (λ (d : Derived). d.calls) xs ys))

module _ (m n : List ℕ) where
  abbrev OpSame : Op → Type 0
  OpSame o = called (derived_in_op m o) ≡ called (derived_in_op n o)

  abbrev PlanSame : Plan → Type 0
  PlanSame p = called (derived_in m p) ≡ called (derived_in n p)

  abbrev GivenOp : Type 0
  GivenOp = (o : Op) × OpSame o

  abbrev GivenPlan : Type 0
  GivenPlan = (p : Plan) × PlanSame p

  abbrev bare_op : GivenOp → Op
  bare_op g = g.0

  abbrev bare_plan : GivenPlan → Plan
  bare_plan g = g.0

  none : (vs ws : List Derived) → vs ≡ [] → ws ≡ [] → called vs ≡ called ws
  none vs ws e f = ap called (e ∙ sym f)

  over-same : (table : List ℕ) (cs : List PatternCall) → called (derived_over m table cs) ≡ called (derived_over n table cs)
  unfolding derived_over
  over-same table [] = refl
  over-same table (c ∷ cs) = refl

  at-same : (s : Option (List ℕ)) (cs : List PatternCall) → called (derived_at m s cs) ≡ called (derived_at n s cs)
  unfolding derived_at
  at-same None cs = refl
  at-same (Some table) cs = over-same table cs

  ops-same : (gs : List GivenOp) → called (derived_in_ops m (map bare_op gs)) ≡ called (derived_in_ops n (map bare_op gs))
  unfolding derived_in_ops
  ops-same [] = refl
  ops-same (g ∷ gs) =
      both (derived_in_op m g.0) (flat_map (derived_in_op m) (map bare_op gs)) (derived_in_op n g.0) (flat_map (derived_in_op n) (map bare_op gs)) g.1 (ops-same gs)

  plans-same : (gs : List GivenPlan) → called (derived_in_plans m (map bare_plan gs)) ≡ called (derived_in_plans n (map bare_plan gs))
  unfolding derived_in_plans
  plans-same [] = refl
  plans-same (g ∷ gs) =
      both (derived_in m g.0) (flat_map (derived_in m) (map bare_plan gs)) (derived_in n g.0) (flat_map (derived_in n) (map bare_plan gs)) g.1 (plans-same gs)

  plan-same : (s : Source) (gs : List GivenOp) → PlanSame (record { source = s; ops = map bare_op gs })
  plan-same s gs =
      let ops = map bare_op gs in
      let p : Plan = record { source = s; ops = ops } in
      let cs = prefix_calls ops in
      ap called (derived-plan m p)
      ∙ (both (derived_at m (table_read s) cs) (derived_in_ops m ops) (derived_at n (table_read s) cs) (derived_in_ops n ops) (at-same (table_read s) cs) (ops-same gs)
      ∙ sym (ap called (derived-plan n p)))

  same-op : (y : Op-F GivenOp GivenPlan) → OpSame (roll-Op (map-Op GivenOp GivenPlan Op Plan bare_op bare_plan y))
  same-op (Op-F.Where e) = subst OpSame (sym (V.rolls-Where e)) (none (derived_in_op m (V.Where e)) (derived_in_op n (V.Where e)) (derived-Where m e) (derived-Where n e))
  same-op (Op-F.Extend items) = subst OpSame (sym (V.rolls-Extend items)) (none (derived_in_op m (V.Extend items)) (derived_in_op n (V.Extend items)) (derived-Extend m items) (derived-Extend n items))
  same-op (Op-F.Project items) = subst OpSame (sym (V.rolls-Project items)) (none (derived_in_op m (V.Project items)) (derived_in_op n (V.Project items)) (derived-Project m items) (derived-Project n items))
  same-op (Op-F.Take k) = subst OpSame (sym (V.rolls-Take k)) (none (derived_in_op m (V.Take k)) (derived_in_op n (V.Take k)) (derived-Take m k) (derived-Take n k))
  same-op Op-F.Count = subst OpSame (sym V.rolls-Count) (none (derived_in_op m V.Count) (derived_in_op n V.Count) (derived-Count m) (derived-Count n))
  same-op Op-F.Serialize = subst OpSame (sym V.rolls-Serialize) (none (derived_in_op m V.Serialize) (derived_in_op n V.Serialize) (derived-Serialize m) (derived-Serialize n))
  same-op (Op-F.Sort keys) = subst OpSame (sym (V.rolls-Sort keys)) (none (derived_in_op m (V.Sort keys)) (derived_in_op n (V.Sort keys)) (derived-Sort m keys) (derived-Sort n keys))
  same-op (Op-F.Top k keys) = subst OpSame (sym (V.rolls-Top k keys)) (none (derived_in_op m (V.Top k keys)) (derived_in_op n (V.Top k keys)) (derived-Top m k keys) (derived-Top n k keys))
  same-op (Op-F.Summarize g) = subst OpSame (sym (V.rolls-Summarize g)) (none (derived_in_op m (V.Summarize g)) (derived_in_op n (V.Summarize g)) (derived-Summarize m g) (derived-Summarize n g))
  same-op (Op-F.MakeSeries p) = subst OpSame (sym (V.rolls-MakeSeries p)) (none (derived_in_op m (V.MakeSeries p)) (derived_in_op n (V.MakeSeries p)) (derived-MakeSeries m p) (derived-MakeSeries n p))
  same-op (Op-F.MvExpand e) = subst OpSame (sym (V.rolls-MvExpand e)) (none (derived_in_op m (V.MvExpand e)) (derived_in_op n (V.MvExpand e)) (derived-MvExpand m e) (derived-MvExpand n e))
  same-op (Op-F.Parse p) = subst OpSame (sym (V.rolls-Parse p)) (none (derived_in_op m (V.Parse p)) (derived_in_op n (V.Parse p)) (derived-Parse m p) (derived-Parse n p))
  same-op (Op-F.Scan p) = subst OpSame (sym (V.rolls-Scan p)) (none (derived_in_op m (V.Scan p)) (derived_in_op n (V.Scan p)) (derived-Scan m p) (derived-Scan n p))
  same-op (Op-F.Join j right) = subst OpSame (sym (V.rolls-Join j right.0)) (ap called (derived-Join m j right.0) ∙ (right.1 ∙ sym (ap called (derived-Join n j right.0))))
  same-op (Op-F.Union inner others) = let ps = map bare_plan others in subst OpSame (sym (V.rolls-Union inner ps)) (ap called (derived-Union m inner ps) ∙ (plans-same others ∙ sym (ap called (derived-Union n inner ps))))
  same-op (Op-F.Partition c ops) = let os = map bare_op ops in subst OpSame (sym (V.rolls-Partition c os)) (ap called (derived-Partition m c os) ∙ (ops-same ops ∙ sym (ap called (derived-Partition n c os))))

  same-plan : (y : Plan-F GivenOp GivenPlan) → PlanSame (roll-Plan (map-Plan GivenOp GivenPlan Op Plan bare_op bare_plan y))
  same-plan y = plan-same y.source y.ops

  every-same : (p : Plan) → PlanSame p
  every-same =
      ind-Plan OpSame PlanSame (λ y z is. subst (λ (f : Op-F Op Plan). OpSame (roll-Op f)) is (same-op z))
      (λ y z is. subst (λ (f : Plan-F Op Plan). PlanSame (roll-Plan f)) is (same-plan z))

  lets-same : (ps : List Plan) → called (derived_in_plans m ps) ≡ called (derived_in_plans n ps)
  unfolding derived_in_plans
  lets-same [] = refl
  lets-same (p ∷ ps) =
      both (derived_in m p) (flat_map (derived_in m) ps) (derived_in n p) (flat_map (derived_in n) ps) (every-same p) (lets-same ps)

pub calls-by : (marks : List ℕ) (p : Program) → called (derived marks p) ≡ calls_of_program p
unfolding derived uses calls_of_program
calls-by marks p =
    both (derived_in_plans marks p.lets) (derived_in marks p.main) (derived_in_plans [] p.lets) (derived_in [] p.main) (lets-same marks [] p.lets) (every-same marks [] p.main)
