-- The equations of the derived tables of operators and plans, and of what they become.
use Rattle.std.proofs.Common.{◌≡◌, ℕ, Bool, List, [], ◌∷◌, ◌++◌, map, refl, sym, ap, ap₂, ◌∙◌, rules}
use Rattle.std.specs.List.{flat_map}
use Rattle.kql_cells.specs.declared.schemas.NamedSchema.{NamedSchema}
use Rattle.kql_bound.specs.declared.expr.BExpr.{BExpr}
use Rattle.kql_bound.specs.declared.parts.BItem.{BItem}
use Rattle.kql_bound.specs.declared.parts.BKey.{BKey}
use Rattle.kql_bound.specs.declared.parts.Expand.{Expand}
use Rattle.kql_bound.specs.declared.parts.GroupPlan.{GroupPlan}
use Rattle.kql_bound.specs.declared.parts.JoinPlan.{JoinPlan}
use Rattle.kql_bound.specs.declared.parts.ParsePlan.{ParsePlan}
use Rattle.kql_bound.specs.declared.parts.ScanPlan.{ScanPlan}
use Rattle.kql_bound.specs.declared.parts.SeriesPlan.{SeriesPlan}
use Rattle.kql_bound.specs.declared.plan.Op.{Op, fold_out-Op, out-Op, para-roll-Op, roll-Op, the_lemmas}
use Rattle.kql_bound.specs.declared.plan.Op.TheFolds.{map-Op}
use Rattle.kql_bound.specs.declared.plan.Op.TheOpen.{Op-F}
use Rattle.kql_bound.specs.declared.plan.Op.TheVariants as V
use Rattle.kql_bound.specs.declared.plan.Plan.{Plan, fold_out-Plan, para-roll-Plan}
use Rattle.pattern_lift.specs.declared.calls.Derived.{Derived}
use Rattle.pattern_lift.specs.Derived.{OpPart, PlanPart, derived_at, derived_in, derived_in_op, derived_in_ops, derived_in_plans, derived_op_step, derived_plan_step}
use Rattle.pattern_lift.specs.Lifted.{lifted_from, lifted_op, lifted_plan, lifted_plan_step}
use Rattle.pattern_lift.specs.Prefixes.{prefix_calls, table_read}

-- Derived tables.

firsts : (marks : List ℕ) (ops : List Op) → map (λ (o : OpPart). o.0) (map {B = OpPart} (λ (o : Op). (o, derived_in_op marks o)) ops) ≡ ops
firsts marks [] = refl
firsts marks (o ∷ os) = ap (λ (rest : List Op). o ∷ rest) (firsts marks os)

flat-ops : (marks : List ℕ) (ops : List Op) → flat_map (λ (o : OpPart). o.1) (map {B = OpPart} (λ (o : Op). (o, derived_in_op marks o)) ops) ≡ derived_in_ops marks ops
unfolding derived_in_ops
flat-ops marks [] = refl
flat-ops marks (o ∷ os) = ap (λ (ds : List Derived). derived_in_op marks o ++ ds) (flat-ops marks os)

flat-plans : (marks : List ℕ) (ps : List Plan) → flat_map (λ (p : PlanPart). p.1) (map {B = PlanPart} (λ (p : Plan). (p, derived_in marks p)) ps) ≡ derived_in_plans marks ps
unfolding derived_in_plans
flat-plans marks [] = refl
flat-plans marks (p ∷ ps) = ap (λ (ds : List Derived). derived_in marks p ++ ds) (flat-plans marks ps)

pub derived-Where : (marks : List ℕ) (e : BExpr) → derived_in_op marks (V.Where e) ≡ []
unfolding derived_in_op
derived-Where marks e = ap (derived_in_op marks) (sym (V.rolls-Where e)) ∙ para-roll-Op (List Derived) (List Derived) derived_op_step (derived_plan_step marks) (Op-F.Where e)

pub derived-Extend : (marks : List ℕ) (items : List BItem) → derived_in_op marks (V.Extend items) ≡ []
unfolding derived_in_op
derived-Extend marks items = ap (derived_in_op marks) (sym (V.rolls-Extend items)) ∙ para-roll-Op (List Derived) (List Derived) derived_op_step (derived_plan_step marks) (Op-F.Extend items)

pub derived-Project : (marks : List ℕ) (items : List BItem) → derived_in_op marks (V.Project items) ≡ []
unfolding derived_in_op
derived-Project marks items = ap (derived_in_op marks) (sym (V.rolls-Project items)) ∙ para-roll-Op (List Derived) (List Derived) derived_op_step (derived_plan_step marks) (Op-F.Project items)

pub derived-Take : (marks : List ℕ) (n : ℕ) → derived_in_op marks (V.Take n) ≡ []
unfolding derived_in_op
derived-Take marks n = ap (derived_in_op marks) (sym (V.rolls-Take n)) ∙ para-roll-Op (List Derived) (List Derived) derived_op_step (derived_plan_step marks) (Op-F.Take n)

pub derived-Count : (marks : List ℕ) → derived_in_op marks V.Count ≡ []
unfolding derived_in_op
derived-Count marks = ap (derived_in_op marks) (sym V.rolls-Count) ∙ para-roll-Op (List Derived) (List Derived) derived_op_step (derived_plan_step marks) Op-F.Count

pub derived-Serialize : (marks : List ℕ) → derived_in_op marks V.Serialize ≡ []
unfolding derived_in_op
derived-Serialize marks = ap (derived_in_op marks) (sym V.rolls-Serialize) ∙ para-roll-Op (List Derived) (List Derived) derived_op_step (derived_plan_step marks) Op-F.Serialize

pub derived-Sort : (marks : List ℕ) (keys : List BKey) → derived_in_op marks (V.Sort keys) ≡ []
unfolding derived_in_op
derived-Sort marks keys = ap (derived_in_op marks) (sym (V.rolls-Sort keys)) ∙ para-roll-Op (List Derived) (List Derived) derived_op_step (derived_plan_step marks) (Op-F.Sort keys)

pub derived-Top : (marks : List ℕ) (n : ℕ) (keys : List BKey) → derived_in_op marks (V.Top n keys) ≡ []
unfolding derived_in_op
derived-Top marks n keys = ap (derived_in_op marks) (sym (V.rolls-Top n keys)) ∙ para-roll-Op (List Derived) (List Derived) derived_op_step (derived_plan_step marks) (Op-F.Top n keys)

pub derived-Summarize : (marks : List ℕ) (g : GroupPlan) → derived_in_op marks (V.Summarize g) ≡ []
unfolding derived_in_op
derived-Summarize marks g = ap (derived_in_op marks) (sym (V.rolls-Summarize g)) ∙ para-roll-Op (List Derived) (List Derived) derived_op_step (derived_plan_step marks) (Op-F.Summarize g)

pub derived-MakeSeries : (marks : List ℕ) (p : SeriesPlan) → derived_in_op marks (V.MakeSeries p) ≡ []
unfolding derived_in_op
derived-MakeSeries marks p = ap (derived_in_op marks) (sym (V.rolls-MakeSeries p)) ∙ para-roll-Op (List Derived) (List Derived) derived_op_step (derived_plan_step marks) (Op-F.MakeSeries p)

pub derived-MvExpand : (marks : List ℕ) (x : Expand) → derived_in_op marks (V.MvExpand x) ≡ []
unfolding derived_in_op
derived-MvExpand marks x = ap (derived_in_op marks) (sym (V.rolls-MvExpand x)) ∙ para-roll-Op (List Derived) (List Derived) derived_op_step (derived_plan_step marks) (Op-F.MvExpand x)

pub derived-Parse : (marks : List ℕ) (p : ParsePlan) → derived_in_op marks (V.Parse p) ≡ []
unfolding derived_in_op
derived-Parse marks p = ap (derived_in_op marks) (sym (V.rolls-Parse p)) ∙ para-roll-Op (List Derived) (List Derived) derived_op_step (derived_plan_step marks) (Op-F.Parse p)

pub derived-Scan : (marks : List ℕ) (p : ScanPlan) → derived_in_op marks (V.Scan p) ≡ []
unfolding derived_in_op
derived-Scan marks p = ap (derived_in_op marks) (sym (V.rolls-Scan p)) ∙ para-roll-Op (List Derived) (List Derived) derived_op_step (derived_plan_step marks) (Op-F.Scan p)

pub derived-Join : (marks : List ℕ) (j : JoinPlan) (right : Plan) → derived_in_op marks (V.Join j right) ≡ derived_in marks right
unfolding derived_in_op derived_in
derived-Join marks j right = ap (derived_in_op marks) (sym (V.rolls-Join j right)) ∙ para-roll-Op (List Derived) (List Derived) derived_op_step (derived_plan_step marks) (Op-F.Join j right)

pub derived-Union : (marks : List ℕ) (inner : Bool) (others : List Plan) → derived_in_op marks (V.Union inner others) ≡ derived_in_plans marks others
unfolding derived_in_op derived_in
derived-Union marks inner others = ap (derived_in_op marks) (sym (V.rolls-Union inner others)) ∙ (para-roll-Op (List Derived) (List Derived) derived_op_step (derived_plan_step marks) (Op-F.Union inner others) ∙ flat-plans marks others)

pub derived-Partition : (marks : List ℕ) (c : List ℕ) (ops : List Op) → derived_in_op marks (V.Partition c ops) ≡ derived_in_ops marks ops
unfolding derived_in_op derived_in
derived-Partition marks c ops = ap (derived_in_op marks) (sym (V.rolls-Partition c ops)) ∙ (para-roll-Op (List Derived) (List Derived) derived_op_step (derived_plan_step marks) (Op-F.Partition c ops) ∙ flat-ops marks ops)

pub ruleset derived_op_steps = (derived-Where, derived-Extend, derived-Project, derived-Take, derived-Count, derived-Serialize, derived-Sort, derived-Top, derived-Summarize, derived-MakeSeries, derived-MvExpand, derived-Parse, derived-Scan, derived-Join, derived-Union, derived-Partition)

pub derived-plan : (marks : List ℕ) (p : Plan) → derived_in marks p ≡ derived_at marks (table_read p.source) (prefix_calls p.ops) ++ derived_in_ops marks p.ops
unfolding derived_in_op derived_in
derived-plan marks p =
    para-roll-Plan (List Derived) (List Derived) derived_op_step (derived_plan_step marks) (record { source = p.source; ops = p.ops })
    ∙ ap₂ (λ (os : List Op) (ds : List Derived). derived_at marks (table_read p.source) (prefix_calls os) ++ ds) (firsts marks p.ops) (flat-ops marks p.ops)

pub ruleset derived_plan_steps = (derived-plan)

-- What they become.

pub lifted-out : (marks : List ℕ) (tables : List NamedSchema) (o : Op) (f : Op-F Op Plan) → out-Op o ≡ f → lifted_op marks tables o ≡ roll-Op (map-Op Op Plan Op Plan (lifted_op marks tables) (lifted_plan marks tables) f)
unfolding lifted_op lifted_plan
lifted-out marks tables o f e =
    fold_out-Op Op Plan roll-Op (lifted_plan_step marks tables) o
    ∙ ap (λ (g : Op-F Op Plan). roll-Op (map-Op Op Plan Op Plan (lifted_op marks tables) (lifted_plan marks tables) g)) e

pub lifts-Where : (marks : List ℕ) (tables : List NamedSchema) (e : BExpr) → lifted_op marks tables (V.Where e) ≡ V.Where e
lifts-Where marks tables e = lifted-out marks tables (V.Where e) (Op-F.Where e) (search (rules, the_lemmas)) ∙ V.rolls-Where e

pub lifts-Extend : (marks : List ℕ) (tables : List NamedSchema) (items : List BItem) → lifted_op marks tables (V.Extend items) ≡ V.Extend items
lifts-Extend marks tables items = lifted-out marks tables (V.Extend items) (Op-F.Extend items) (search (rules, the_lemmas)) ∙ V.rolls-Extend items

pub lifts-Project : (marks : List ℕ) (tables : List NamedSchema) (items : List BItem) → lifted_op marks tables (V.Project items) ≡ V.Project items
lifts-Project marks tables items = lifted-out marks tables (V.Project items) (Op-F.Project items) (search (rules, the_lemmas)) ∙ V.rolls-Project items

pub lifts-Take : (marks : List ℕ) (tables : List NamedSchema) (n : ℕ) → lifted_op marks tables (V.Take n) ≡ V.Take n
lifts-Take marks tables n = lifted-out marks tables (V.Take n) (Op-F.Take n) (search (rules, the_lemmas)) ∙ V.rolls-Take n

pub lifts-Count : (marks : List ℕ) (tables : List NamedSchema) → lifted_op marks tables V.Count ≡ V.Count
lifts-Count marks tables = lifted-out marks tables V.Count Op-F.Count (search (rules, the_lemmas)) ∙ V.rolls-Count

pub lifts-Serialize : (marks : List ℕ) (tables : List NamedSchema) → lifted_op marks tables V.Serialize ≡ V.Serialize
lifts-Serialize marks tables = lifted-out marks tables V.Serialize Op-F.Serialize (search (rules, the_lemmas)) ∙ V.rolls-Serialize

pub lifts-Sort : (marks : List ℕ) (tables : List NamedSchema) (keys : List BKey) → lifted_op marks tables (V.Sort keys) ≡ V.Sort keys
lifts-Sort marks tables keys = lifted-out marks tables (V.Sort keys) (Op-F.Sort keys) (search (rules, the_lemmas)) ∙ V.rolls-Sort keys

pub lifts-Top : (marks : List ℕ) (tables : List NamedSchema) (n : ℕ) (keys : List BKey) → lifted_op marks tables (V.Top n keys) ≡ V.Top n keys
lifts-Top marks tables n keys = lifted-out marks tables (V.Top n keys) (Op-F.Top n keys) (search (rules, the_lemmas)) ∙ V.rolls-Top n keys

pub lifts-Summarize : (marks : List ℕ) (tables : List NamedSchema) (g : GroupPlan) → lifted_op marks tables (V.Summarize g) ≡ V.Summarize g
lifts-Summarize marks tables g = lifted-out marks tables (V.Summarize g) (Op-F.Summarize g) (search (rules, the_lemmas)) ∙ V.rolls-Summarize g

pub lifts-MakeSeries : (marks : List ℕ) (tables : List NamedSchema) (p : SeriesPlan) → lifted_op marks tables (V.MakeSeries p) ≡ V.MakeSeries p
lifts-MakeSeries marks tables p = lifted-out marks tables (V.MakeSeries p) (Op-F.MakeSeries p) (search (rules, the_lemmas)) ∙ V.rolls-MakeSeries p

pub lifts-MvExpand : (marks : List ℕ) (tables : List NamedSchema) (x : Expand) → lifted_op marks tables (V.MvExpand x) ≡ V.MvExpand x
lifts-MvExpand marks tables x = lifted-out marks tables (V.MvExpand x) (Op-F.MvExpand x) (search (rules, the_lemmas)) ∙ V.rolls-MvExpand x

pub lifts-Parse : (marks : List ℕ) (tables : List NamedSchema) (p : ParsePlan) → lifted_op marks tables (V.Parse p) ≡ V.Parse p
lifts-Parse marks tables p = lifted-out marks tables (V.Parse p) (Op-F.Parse p) (search (rules, the_lemmas)) ∙ V.rolls-Parse p

pub lifts-Scan : (marks : List ℕ) (tables : List NamedSchema) (p : ScanPlan) → lifted_op marks tables (V.Scan p) ≡ V.Scan p
lifts-Scan marks tables p = lifted-out marks tables (V.Scan p) (Op-F.Scan p) (search (rules, the_lemmas)) ∙ V.rolls-Scan p

pub lifts-Join : (marks : List ℕ) (tables : List NamedSchema) (j : JoinPlan) (right : Plan) → lifted_op marks tables (V.Join j right) ≡ V.Join j (lifted_plan marks tables right)
lifts-Join marks tables j right = lifted-out marks tables (V.Join j right) (Op-F.Join j right) (search (rules, the_lemmas)) ∙ V.rolls-Join j (lifted_plan marks tables right)

pub lifts-Union : (marks : List ℕ) (tables : List NamedSchema) (inner : Bool) (others : List Plan) → lifted_op marks tables (V.Union inner others) ≡ V.Union inner (map (lifted_plan marks tables) others)
lifts-Union marks tables inner others = lifted-out marks tables (V.Union inner others) (Op-F.Union inner others) (search (rules, the_lemmas)) ∙ V.rolls-Union inner (map (lifted_plan marks tables) others)

pub lifts-Partition : (marks : List ℕ) (tables : List NamedSchema) (c : List ℕ) (ops : List Op) → lifted_op marks tables (V.Partition c ops) ≡ V.Partition c (map (lifted_op marks tables) ops)
lifts-Partition marks tables c ops = lifted-out marks tables (V.Partition c ops) (Op-F.Partition c ops) (search (rules, the_lemmas)) ∙ V.rolls-Partition c (map (lifted_op marks tables) ops)

pub ruleset lifted_op_steps = (lifts-Where, lifts-Extend, lifts-Project, lifts-Take, lifts-Count, lifts-Serialize, lifts-Sort, lifts-Top, lifts-Summarize, lifts-MakeSeries, lifts-MvExpand, lifts-Parse, lifts-Scan, lifts-Join, lifts-Union, lifts-Partition)

pub lifts-plan : (marks : List ℕ) (tables : List NamedSchema) (p : Plan) → lifted_plan marks tables p ≡ lifted_from marks tables p.source (table_read p.source) (map (lifted_op marks tables) p.ops)
unfolding lifted_op lifted_plan
lifts-plan marks tables p = fold_out-Plan Op Plan roll-Op (lifted_plan_step marks tables) p

pub ruleset lifted_plan_steps = (lifts-plan)
