-- The equations of what is settled.
use Rattle.std.proofs.Common.{◌≡◌, Bool, true, false, List, [], ◌∷◌, ◌++◌, map, refl, sym, ap, ap₂, ◌∙◌, rules}
use Rattle.std.specs.Prelude.{◌&&◌, not, Option, None, Some, is_some}
use Rattle.std.specs.List.{list_all}
use Rattle.kql_cells.specs.declared.schema.Column.{Column}
use Rattle.kql_bound.specs.declared.parts.JoinPlan.{JoinPlan}
use Rattle.kql_bound.specs.declared.plan.Op.{Op, para-roll-Op}
use Rattle.kql_bound.specs.declared.plan.Op.TheOpen.{Op-F}
use Rattle.kql_bound.specs.declared.plan.Op.TheVariants as V
use Rattle.kql_bound.specs.declared.plan.Plan.{Plan, para-roll-Plan}
use Rattle.kql_meaning.specs.Fits.{Known, op_columns, source_columns}
use Rattle.plan_neighbours.specs.Table.{rule_at}
use Rattle.plan_push.specs.Settled.{OpTest, PlanTest, if_known, settled_along, settled_op, settled_ops, settled_plan, settled_plan_step, settled_step}

abbrev tested : List Op → List (Op × OpTest)
tested ops = map {B = Op × OpTest} (λ x. (x, settled_op x)) ops

firsts : (ops : List Op) → map (λ (y : Op × OpTest). y.0) (tested ops) ≡ ops
firsts [] = refl
firsts (x ∷ xs) = ap (λ ys. x ∷ ys) (firsts xs)

pub settled-nil : (k : Known) (inside : Bool) (cs : List Column) → settled_ops [] k inside cs ≡ true
unfolding settled_ops
settled-nil k inside cs = refl

pub settled-cons : (x : Op) (xs : List Op) (k : Known) (inside : Bool) (cs : List Column) → settled_ops (x ∷ xs) k inside cs ≡ (not (is_some (rule_at k cs (x ∷ xs))) && (settled_op x k inside cs && if_known (op_columns x k inside cs) (settled_ops xs k inside)))
unfolding settled_ops
settled-cons x xs k inside cs = ap (λ ys. not (is_some (rule_at k cs (x ∷ ys))) && (settled_op x k inside cs && if_known (op_columns x k inside cs) (settled_along (tested xs) k inside))) (firsts xs)

pub settled-Join : (j : JoinPlan) (p : Plan) (k : Known) (inside : Bool) (cs : List Column) → settled_op (V.Join j p) k inside cs ≡ settled_plan p k
unfolding settled_op settled_plan
settled-Join j p k inside cs = ap (λ (f : OpTest). f k inside cs) (ap settled_op (sym (V.rolls-Join j p)) ∙ para-roll-Op OpTest PlanTest settled_step settled_plan_step (Op-F.Join j p))

pub settled-Partition : (c : _) (ops : List Op) (k : Known) (inside : Bool) (cs : List Column) → settled_op (V.Partition c ops) k inside cs ≡ settled_ops ops k true cs
unfolding settled_op settled_plan settled_ops
settled-Partition c ops k inside cs = ap (λ (f : OpTest). f k inside cs) (ap settled_op (sym (V.rolls-Partition c ops)) ∙ para-roll-Op OpTest PlanTest settled_step settled_plan_step (Op-F.Partition c ops))

pub settled-Where : (e : _) (k : Known) (inside : Bool) (cs : List Column) → settled_op (V.Where e) k inside cs ≡ true
unfolding settled_op
settled-Where e k inside cs = ap (λ (f : OpTest). f k inside cs) (ap settled_op (sym (V.rolls-Where e)) ∙ para-roll-Op OpTest PlanTest settled_step settled_plan_step (Op-F.Where e))

pub settled-Extend : (items : _) (k : Known) (inside : Bool) (cs : List Column) → settled_op (V.Extend items) k inside cs ≡ true
unfolding settled_op
settled-Extend items k inside cs = ap (λ (f : OpTest). f k inside cs) (ap settled_op (sym (V.rolls-Extend items)) ∙ para-roll-Op OpTest PlanTest settled_step settled_plan_step (Op-F.Extend items))

pub settled-Project : (items : _) (k : Known) (inside : Bool) (cs : List Column) → settled_op (V.Project items) k inside cs ≡ true
unfolding settled_op
settled-Project items k inside cs = ap (λ (f : OpTest). f k inside cs) (ap settled_op (sym (V.rolls-Project items)) ∙ para-roll-Op OpTest PlanTest settled_step settled_plan_step (Op-F.Project items))

pub settled-Take : (n : _) (k : Known) (inside : Bool) (cs : List Column) → settled_op (V.Take n) k inside cs ≡ true
unfolding settled_op
settled-Take n k inside cs = ap (λ (f : OpTest). f k inside cs) (ap settled_op (sym (V.rolls-Take n)) ∙ para-roll-Op OpTest PlanTest settled_step settled_plan_step (Op-F.Take n))

pub settled-Count : (k : Known) (inside : Bool) (cs : List Column) → settled_op V.Count k inside cs ≡ true
unfolding settled_op
settled-Count k inside cs = ap (λ (f : OpTest). f k inside cs) (ap settled_op (sym V.rolls-Count) ∙ para-roll-Op OpTest PlanTest settled_step settled_plan_step Op-F.Count)

pub settled-Serialize : (k : Known) (inside : Bool) (cs : List Column) → settled_op V.Serialize k inside cs ≡ true
unfolding settled_op
settled-Serialize k inside cs = ap (λ (f : OpTest). f k inside cs) (ap settled_op (sym V.rolls-Serialize) ∙ para-roll-Op OpTest PlanTest settled_step settled_plan_step Op-F.Serialize)

pub settled-Sort : (keys : _) (k : Known) (inside : Bool) (cs : List Column) → settled_op (V.Sort keys) k inside cs ≡ true
unfolding settled_op
settled-Sort keys k inside cs = ap (λ (f : OpTest). f k inside cs) (ap settled_op (sym (V.rolls-Sort keys)) ∙ para-roll-Op OpTest PlanTest settled_step settled_plan_step (Op-F.Sort keys))

pub settled-Top : (n : _) (keys : _) (k : Known) (inside : Bool) (cs : List Column) → settled_op (V.Top n keys) k inside cs ≡ true
unfolding settled_op
settled-Top n keys k inside cs = ap (λ (f : OpTest). f k inside cs) (ap settled_op (sym (V.rolls-Top n keys)) ∙ para-roll-Op OpTest PlanTest settled_step settled_plan_step (Op-F.Top n keys))

pub settled-Summarize : (g : _) (k : Known) (inside : Bool) (cs : List Column) → settled_op (V.Summarize g) k inside cs ≡ true
unfolding settled_op
settled-Summarize g k inside cs = ap (λ (f : OpTest). f k inside cs) (ap settled_op (sym (V.rolls-Summarize g)) ∙ para-roll-Op OpTest PlanTest settled_step settled_plan_step (Op-F.Summarize g))

pub settled-MakeSeries : (s : _) (k : Known) (inside : Bool) (cs : List Column) → settled_op (V.MakeSeries s) k inside cs ≡ true
unfolding settled_op
settled-MakeSeries s k inside cs = ap (λ (f : OpTest). f k inside cs) (ap settled_op (sym (V.rolls-MakeSeries s)) ∙ para-roll-Op OpTest PlanTest settled_step settled_plan_step (Op-F.MakeSeries s))

pub settled-MvExpand : (x : _) (k : Known) (inside : Bool) (cs : List Column) → settled_op (V.MvExpand x) k inside cs ≡ true
unfolding settled_op
settled-MvExpand x k inside cs = ap (λ (f : OpTest). f k inside cs) (ap settled_op (sym (V.rolls-MvExpand x)) ∙ para-roll-Op OpTest PlanTest settled_step settled_plan_step (Op-F.MvExpand x))

pub settled-Parse : (p : _) (k : Known) (inside : Bool) (cs : List Column) → settled_op (V.Parse p) k inside cs ≡ true
unfolding settled_op
settled-Parse p k inside cs = ap (λ (f : OpTest). f k inside cs) (ap settled_op (sym (V.rolls-Parse p)) ∙ para-roll-Op OpTest PlanTest settled_step settled_plan_step (Op-F.Parse p))

pub settled-Scan : (s : _) (k : Known) (inside : Bool) (cs : List Column) → settled_op (V.Scan s) k inside cs ≡ true
unfolding settled_op
settled-Scan s k inside cs = ap (λ (f : OpTest). f k inside cs) (ap settled_op (sym (V.rolls-Scan s)) ∙ para-roll-Op OpTest PlanTest settled_step settled_plan_step (Op-F.Scan s))

pub settled-Union : (inner : Bool) (ps : List Plan) (k : Known) (inside : Bool) (cs : List Column) → settled_op (V.Union inner ps) k inside cs ≡ list_all (λ p. settled_plan p k) ps
unfolding settled_op settled_plan
settled-Union inner ps k inside cs = ap (λ (f : OpTest). f k inside cs) (ap settled_op (sym (V.rolls-Union inner ps)) ∙ para-roll-Op OpTest PlanTest settled_step settled_plan_step (Op-F.Union inner ps)) ∙ all-map ps
  where
    all-map : (qs : List Plan) → list_all (λ (p : Plan × PlanTest). p.1 k) (map {B = Plan × PlanTest} (λ p. (p, settled_plan p)) qs) ≡ list_all (λ p. settled_plan p k) qs
    all-map [] = refl
    all-map (q ∷ qs) = ap (λ b. settled_plan q k && b) (all-map qs)

pub settled-plan-out : (p : Plan) (k : Known) → settled_plan p k ≡ if_known (source_columns p.source k) (settled_ops p.ops k false)
unfolding settled_op settled_plan settled_ops
settled-plan-out p k = ap (λ (f : PlanTest). f k) (para-roll-Plan OpTest PlanTest settled_step settled_plan_step (record { source = p.source; ops = p.ops }))

pub ruleset settled_steps = (settled-Where, settled-Extend, settled-Project, settled-Take, settled-Count, settled-Serialize, settled-Sort, settled-Top, settled-Summarize, settled-MakeSeries, settled-MvExpand, settled-Parse, settled-Scan)
