-- The equations of what an operator and a plan become.
use Rattle.std.proofs.Common.{◌≡◌, ℕ, Bool, List, map, ap, ◌∙◌, rules}
use Rattle.kql_bound.specs.declared.expr.BExpr.{BExpr}
use Rattle.kql_bound.specs.declared.parts.BItem.{BItem}
use Rattle.kql_bound.specs.declared.parts.BKey.{BKey}
use Rattle.kql_bound.specs.declared.parts.Expand.{Expand}
use Rattle.kql_bound.specs.declared.parts.GroupPlan.{GroupPlan}
use Rattle.kql_bound.specs.declared.parts.JoinPlan.{JoinPlan}
use Rattle.kql_bound.specs.declared.parts.ParsePlan.{ParsePlan}
use Rattle.kql_bound.specs.declared.parts.ScanPlan.{ScanPlan}
use Rattle.kql_bound.specs.declared.parts.SeriesPlan.{SeriesPlan}
use Rattle.kql_bound.specs.declared.plan.Op.{Op, fold_out-Op, out-Op, the_lemmas}
use Rattle.kql_bound.specs.declared.plan.Op.TheFolds.{map-Op}
use Rattle.kql_bound.specs.declared.plan.Op.TheOpen.{Op-F}
use Rattle.kql_bound.specs.declared.plan.Op.TheVariants as V
use Rattle.kql_bound.specs.declared.plan.Plan.{Plan, fold_out-Plan}
use Rattle.plan_rules.specs.Folding.{folded}
use Rattle.plan_rules.specs.FoldedPlans.{folded_expand, folded_group, folded_items, folded_keys, folded_op, folded_op_step, folded_parse, folded_plan, folded_plan_step, folded_scan, folded_series, folded_source}

pub folded-out : (o : Op) (f : Op-F Op Plan) → out-Op o ≡ f → folded_op o ≡ folded_op_step (map-Op Op Plan Op Plan folded_op folded_plan f)
unfolding folded_op folded_plan
folded-out o f e = fold_out-Op Op Plan folded_op_step folded_plan_step o ∙ ap (λ (g : Op-F Op Plan). folded_op_step (map-Op Op Plan Op Plan folded_op folded_plan g)) e

pub folds-Where : (e : BExpr) → folded_op (V.Where e) ≡ V.Where (folded e)
folds-Where e = folded-out (V.Where e) (Op-F.Where e) (search (rules, the_lemmas))

pub folds-Extend : (items : List BItem) → folded_op (V.Extend items) ≡ V.Extend (folded_items items)
folds-Extend items = folded-out (V.Extend items) (Op-F.Extend items) (search (rules, the_lemmas))

pub folds-Project : (items : List BItem) → folded_op (V.Project items) ≡ V.Project (folded_items items)
folds-Project items = folded-out (V.Project items) (Op-F.Project items) (search (rules, the_lemmas))

pub folds-Take : (n : ℕ) → folded_op (V.Take n) ≡ V.Take n
folds-Take n = folded-out (V.Take n) (Op-F.Take n) (search (rules, the_lemmas))

pub folds-Count : folded_op V.Count ≡ V.Count
folds-Count = folded-out V.Count Op-F.Count (search (rules, the_lemmas))

pub folds-Serialize : folded_op V.Serialize ≡ V.Serialize
folds-Serialize = folded-out V.Serialize Op-F.Serialize (search (rules, the_lemmas))

pub folds-Sort : (keys : List BKey) → folded_op (V.Sort keys) ≡ V.Sort (folded_keys keys)
folds-Sort keys = folded-out (V.Sort keys) (Op-F.Sort keys) (search (rules, the_lemmas))

pub folds-Top : (n : ℕ) (keys : List BKey) → folded_op (V.Top n keys) ≡ V.Top n (folded_keys keys)
folds-Top n keys = folded-out (V.Top n keys) (Op-F.Top n keys) (search (rules, the_lemmas))

pub folds-Summarize : (g : GroupPlan) → folded_op (V.Summarize g) ≡ V.Summarize (folded_group g)
folds-Summarize g = folded-out (V.Summarize g) (Op-F.Summarize g) (search (rules, the_lemmas))

pub folds-MakeSeries : (p : SeriesPlan) → folded_op (V.MakeSeries p) ≡ V.MakeSeries (folded_series p)
folds-MakeSeries p = folded-out (V.MakeSeries p) (Op-F.MakeSeries p) (search (rules, the_lemmas))

pub folds-MvExpand : (x : Expand) → folded_op (V.MvExpand x) ≡ V.MvExpand (folded_expand x)
folds-MvExpand x = folded-out (V.MvExpand x) (Op-F.MvExpand x) (search (rules, the_lemmas))

pub folds-Parse : (p : ParsePlan) → folded_op (V.Parse p) ≡ V.Parse (folded_parse p)
folds-Parse p = folded-out (V.Parse p) (Op-F.Parse p) (search (rules, the_lemmas))

pub folds-Join : (j : JoinPlan) (right : Plan) → folded_op (V.Join j right) ≡ V.Join j (folded_plan right)
folds-Join j right = folded-out (V.Join j right) (Op-F.Join j right) (search (rules, the_lemmas))

pub folds-Union : (inner : Bool) (others : List Plan) → folded_op (V.Union inner others) ≡ V.Union inner (map folded_plan others)
folds-Union inner others = folded-out (V.Union inner others) (Op-F.Union inner others) (search (rules, the_lemmas))

pub folds-Scan : (p : ScanPlan) → folded_op (V.Scan p) ≡ V.Scan (folded_scan p)
folds-Scan p = folded-out (V.Scan p) (Op-F.Scan p) (search (rules, the_lemmas))

pub folds-Partition : (c : List ℕ) (ops : List Op) → folded_op (V.Partition c ops) ≡ V.Partition c (map folded_op ops)
folds-Partition c ops = folded-out (V.Partition c ops) (Op-F.Partition c ops) (search (rules, the_lemmas))

pub ruleset folding_op_steps = (folds-Where, folds-Extend, folds-Project, folds-Take, folds-Count, folds-Serialize, folds-Sort, folds-Top, folds-Summarize, folds-MakeSeries, folds-MvExpand, folds-Parse, folds-Join, folds-Union, folds-Scan, folds-Partition)

pub folds-plan : (p : Plan) → folded_plan p ≡ record { source = folded_source p.source; ops = map folded_op p.ops }
unfolding folded_op folded_plan
folds-plan p = fold_out-Plan Op Plan folded_op_step folded_plan_step p

pub ruleset folding_plan_steps = (folds-plan)
