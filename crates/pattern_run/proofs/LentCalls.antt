-- In a program that can be lifted the calls of a derived table read string columns of its table: by induction over operators and plans.
use Rattle.std.proofs.Common.{◌≡◌, ℕ, true, List, [], ◌∷◌, map, refl, sym, ◌∙◌, subst, inl, inr}
use Rattle.std.specs.Prelude.{◌&&◌, Option, None, Some}
use Rattle.std.specs.List.{flat_map, list_all}
use Rattle.std.proofs.lemmas.Bool.{and_parts}
use Rattle.kql_cells.specs.declared.schemas.NamedSchema.{NamedSchema}
use Rattle.kql_bound.specs.declared.plan.Op.{Op, roll-Op}
use Rattle.kql_bound.specs.declared.plan.Op.TheFolds.{map-Op, map-Plan}
use Rattle.kql_bound.specs.declared.plan.Op.TheOpen.{Op-F, Plan-F}
use Rattle.kql_bound.specs.declared.plan.Op.TheVariants as V
use Rattle.kql_bound.specs.declared.plan.Plan.{Plan, ind-Plan, roll-Plan}
use Rattle.kql_bound.specs.declared.plan.Program.{Program}
use Rattle.kql_bound.specs.declared.plan.Source.{Source}
use Rattle.kql_meaning.proofs.MemberLaws.{Member, member-either}
use Rattle.pattern_lift.specs.declared.calls.Derived.{Derived}
use Rattle.pattern_lift.specs.declared.calls.PatternCall.{PatternCall}
use Rattle.pattern_lift.specs.Calls.{is_among}
use Rattle.pattern_lift.specs.Derived.{columns_of_table, derived, derived_at, derived_in, derived_in_op, derived_in_ops, derived_in_plans, derived_over}
use Rattle.pattern_lift.specs.Prefixes.{behind, calls_along, calls_at, prefix, prefix_calls, table_read}
use Rattle.pattern_lift.proofs.PlanSteps.{derived-Join, derived-Partition, derived-Union, derived-plan, derived-Where, derived-Extend, derived-Project, derived-Take, derived-Count, derived-Serialize, derived-Sort, derived-Top, derived-Summarize, derived-MakeSeries, derived-MvExpand, derived-Parse, derived-Scan}
use Rattle.pattern_laws.specs.Liftable.{columns_read, has_no_calls, ops_are_liftable, plan_is_liftable, prefix_is_liftable, program_is_liftable, source_is_own, text_columns, within_is_liftable}
use Rattle.pattern_laws.proofs.CalledColumns.{prefix-lent}
use Rattle.pattern_laws.proofs.LiftableSteps.{liftable-plan, within-Join, within-Partition, within-Union}

module _ (marks : List ℕ) (tables : List NamedSchema) where
  abbrev pub Lent : Derived → Type 0
  Lent d = (c : PatternCall) → Member c d.calls → is_among (text_columns (columns_of_table tables d.table)) c.column ≡ true

  abbrev AreLent : List Derived → Type 0
  AreLent ds = (d : Derived) → Member d ds → Lent d

  abbrev OpLent : Op → Type 0
  OpLent o = within_is_liftable marks tables o ≡ true → AreLent (derived_in_op marks o)

  abbrev PlanLent : Plan → Type 0
  PlanLent p = plan_is_liftable marks tables p ≡ true → AreLent (derived_in marks p)

  abbrev GivenOp : Type 0
  GivenOp = (o : Op) × OpLent o

  abbrev GivenPlan : Type 0
  GivenPlan = (p : Plan) × PlanLent p

  abbrev bare_op : GivenOp → Op
  bare_op g = g.0

  abbrev bare_plan : GivenPlan → Plan
  bare_plan g = g.0

  nothing : (ds : List Derived) → ds ≡ [] → AreLent ds
  nothing ds e d m = absurd (subst (Member d) e m)

  over-lent : (table : List ℕ) (cs : List PatternCall) → ((c : PatternCall) → Member c cs → is_among (text_columns (columns_of_table tables table)) c.column ≡ true) → AreLent (derived_over marks table cs)
  unfolding derived_over
  over-lent table [] h d m = absurd m
  over-lent table (c ∷ cs) h d (inl e) = subst Lent e h
  over-lent table (c ∷ cs) h d (inr m) = absurd m

  at-lent : (s : Option (List ℕ)) (ops : List Op) → ops_are_liftable marks (columns_read tables s) ops ≡ true → AreLent (derived_at marks s (prefix_calls ops))
  unfolding derived_at ops_are_liftable prefix_calls calls_along
  at-lent None ops l d m = absurd m
  at-lent (Some table) ops l d m =
      let lent = text_columns (columns_of_table tables table) in
      let a = and_parts (prefix_is_liftable marks lent (prefix ops)) (list_all has_no_calls (behind ops)) l in
      over-lent table (flat_map calls_at (prefix ops)) (prefix-lent marks lent (prefix ops) a.0) d m

  ops-lent : (gs : List GivenOp) → list_all (within_is_liftable marks tables) (map bare_op gs) ≡ true → AreLent (derived_in_ops marks (map bare_op gs))
  unfolding derived_in_ops
  ops-lent [] l d m = absurd m
  ops-lent (g ∷ gs) l d m =
      let a = and_parts (within_is_liftable marks tables g.0) (list_all (within_is_liftable marks tables) (map bare_op gs)) l in
      elim (member-either (derived_in_op marks g.0) (flat_map (derived_in_op marks) (map bare_op gs)) d m) [
        | inl n ↦ g.1 a.0 d n
        | inr n ↦ ops-lent gs a.1 d n
      ]

  plans-lent : (gs : List GivenPlan) → list_all (plan_is_liftable marks tables) (map bare_plan gs) ≡ true → AreLent (derived_in_plans marks (map bare_plan gs))
  unfolding derived_in_plans
  plans-lent [] l d m = absurd m
  plans-lent (g ∷ gs) l d m =
      let a = and_parts (plan_is_liftable marks tables g.0) (list_all (plan_is_liftable marks tables) (map bare_plan gs)) l in
      elim (member-either (derived_in marks g.0) (flat_map (derived_in marks) (map bare_plan gs)) d m) [
        | inl n ↦ g.1 a.0 d n
        | inr n ↦ plans-lent gs a.1 d n
      ]

  -- What stands in a subquery has no calls of its own, besides what is asked of each operator.
  within-alone : (ops : List Op) → list_all (λ (o : Op). has_no_calls o && within_is_liftable marks tables o) ops ≡ true → list_all (within_is_liftable marks tables) ops ≡ true
  within-alone [] l = refl
  within-alone (o ∷ os) l =
      let a = and_parts (has_no_calls o && within_is_liftable marks tables o) (list_all (λ (x : Op). has_no_calls x && within_is_liftable marks tables x) os) l in
      rw (and_parts (has_no_calls o) (within_is_liftable marks tables o) a.0).1 (within-alone os a.1)

  plan-lent : (s : Source) (gs : List GivenOp) → PlanLent (record { source = s; ops = map bare_op gs })
  plan-lent s gs l d m =
      let ops = map bare_op gs in
      let p : Plan = record { source = s; ops = ops } in
      let a = and_parts (source_is_own marks (table_read s)) (ops_are_liftable marks (columns_read tables (table_read s)) ops && list_all (within_is_liftable marks tables) ops) (sym (liftable-plan marks tables p) ∙ l) in
      let b = and_parts (ops_are_liftable marks (columns_read tables (table_read s)) ops) (list_all (within_is_liftable marks tables) ops) a.1 in
      elim (member-either (derived_at marks (table_read s) (prefix_calls ops)) (derived_in_ops marks ops) d (subst (Member d) (derived-plan marks p) m)) [
        | inl n ↦ at-lent (table_read s) ops b.0 d n
        | inr n ↦ ops-lent gs b.1 d n
      ]

  lent-op : (y : Op-F GivenOp GivenPlan) → OpLent (roll-Op (map-Op GivenOp GivenPlan Op Plan bare_op bare_plan y))
  lent-op (Op-F.Where e) = subst OpLent (sym (V.rolls-Where e)) (λ l. nothing (derived_in_op marks (V.Where e)) (derived-Where marks e))
  lent-op (Op-F.Extend items) = subst OpLent (sym (V.rolls-Extend items)) (λ l. nothing (derived_in_op marks (V.Extend items)) (derived-Extend marks items))
  lent-op (Op-F.Project items) = subst OpLent (sym (V.rolls-Project items)) (λ l. nothing (derived_in_op marks (V.Project items)) (derived-Project marks items))
  lent-op (Op-F.Take n) = subst OpLent (sym (V.rolls-Take n)) (λ l. nothing (derived_in_op marks (V.Take n)) (derived-Take marks n))
  lent-op Op-F.Count = subst OpLent (sym V.rolls-Count) (λ l. nothing (derived_in_op marks V.Count) (derived-Count marks))
  lent-op Op-F.Serialize = subst OpLent (sym V.rolls-Serialize) (λ l. nothing (derived_in_op marks V.Serialize) (derived-Serialize marks))
  lent-op (Op-F.Sort keys) = subst OpLent (sym (V.rolls-Sort keys)) (λ l. nothing (derived_in_op marks (V.Sort keys)) (derived-Sort marks keys))
  lent-op (Op-F.Top n keys) = subst OpLent (sym (V.rolls-Top n keys)) (λ l. nothing (derived_in_op marks (V.Top n keys)) (derived-Top marks n keys))
  lent-op (Op-F.Summarize g) = subst OpLent (sym (V.rolls-Summarize g)) (λ l. nothing (derived_in_op marks (V.Summarize g)) (derived-Summarize marks g))
  lent-op (Op-F.MakeSeries p) = subst OpLent (sym (V.rolls-MakeSeries p)) (λ l. nothing (derived_in_op marks (V.MakeSeries p)) (derived-MakeSeries marks p))
  lent-op (Op-F.MvExpand e) = subst OpLent (sym (V.rolls-MvExpand e)) (λ l. nothing (derived_in_op marks (V.MvExpand e)) (derived-MvExpand marks e))
  lent-op (Op-F.Parse p) = subst OpLent (sym (V.rolls-Parse p)) (λ l. nothing (derived_in_op marks (V.Parse p)) (derived-Parse marks p))
  lent-op (Op-F.Scan p) = subst OpLent (sym (V.rolls-Scan p)) (λ l. nothing (derived_in_op marks (V.Scan p)) (derived-Scan marks p))
  lent-op (Op-F.Join j right) = subst OpLent (sym (V.rolls-Join j right.0)) (λ l d m. right.1 (sym (within-Join marks tables j right.0) ∙ l) d (subst (Member d) (derived-Join marks j right.0) m))
  lent-op (Op-F.Union inner others) = subst OpLent (sym (V.rolls-Union inner (map bare_plan others))) (λ l d m. plans-lent others (sym (within-Union marks tables inner (map bare_plan others)) ∙ l) d (subst (Member d) (derived-Union marks inner (map bare_plan others)) m))
  lent-op (Op-F.Partition c ops) = subst OpLent (sym (V.rolls-Partition c (map bare_op ops))) (λ l d m. ops-lent ops (within-alone (map bare_op ops) (sym (within-Partition marks tables c (map bare_op ops)) ∙ l)) d (subst (Member d) (derived-Partition marks c (map bare_op ops)) m))

  lent-plan : (y : Plan-F GivenOp GivenPlan) → PlanLent (roll-Plan (map-Plan GivenOp GivenPlan Op Plan bare_op bare_plan y))
  lent-plan y = plan-lent y.source y.ops

  every-lent : (p : Plan) → PlanLent p
  every-lent =
      ind-Plan OpLent PlanLent (λ y z is. subst (λ (f : Op-F Op Plan). OpLent (roll-Op f)) is (lent-op z))
      (λ y z is. subst (λ (f : Plan-F Op Plan). PlanLent (roll-Plan f)) is (lent-plan z))

  lets-lent : (ps : List Plan) → list_all (plan_is_liftable marks tables) ps ≡ true → AreLent (derived_in_plans marks ps)
  unfolding derived_in_plans
  lets-lent [] l d m = absurd m
  lets-lent (p ∷ ps) l d m =
      let a = and_parts (plan_is_liftable marks tables p) (list_all (plan_is_liftable marks tables) ps) l in
      elim (member-either (derived_in marks p) (flat_map (derived_in marks) ps) d m) [
        | inl n ↦ every-lent p a.0 d n
        | inr n ↦ lets-lent ps a.1 d n
      ]

pub program-lent : (marks : List ℕ) (p : Program) → program_is_liftable marks p ≡ true → (d : Derived) → Member d (derived marks p) → Lent marks p.tables d
unfolding program_is_liftable derived
program-lent marks p l d m =
    let a = and_parts (list_all (plan_is_liftable marks p.tables) p.lets) (plan_is_liftable marks p.tables p.main) l in
    elim (member-either (derived_in_plans marks p.lets) (derived_in marks p.main) d m) [
      | inl n ↦ lets-lent marks p.tables p.lets a.0 d n
      | inr n ↦ every-lent marks p.tables p.main a.1 d n
    ]
