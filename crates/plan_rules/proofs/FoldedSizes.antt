-- Constants that are folded leave no operator and no expression larger.
use Rattle.std.proofs.Common.{◌≡◌, ◌≤◌, ◌+◌, ℕ, suc, List, [], ◌∷◌, length, map, refl, sym, ap, ◌∙◌, subst, arith}
use Rattle.std.specs.Prelude.{Option, None, Some, option_and_then, option_map, unwrap_or}
use Rattle.kql_functions.specs.declared.func.Func.{Func}
use Rattle.kql_bound.specs.Signs.{sign_func}
use Rattle.kql_bound.specs.declared.expr.BExpr.{BExpr, ind-BExpr, map-BExpr, roll-BExpr}
use Rattle.kql_bound.specs.declared.expr.BExpr.TheOpen.{BExpr-F}
use Rattle.kql_bound.specs.declared.expr.BExpr.TheVariants as E
use Rattle.kql_bound.specs.declared.expr.ChainSign.{ChainSign}
use Rattle.kql_bound.specs.declared.literal.Lit.{Lit}
use Rattle.kql_bound.specs.declared.parts.BItem.{BItem}
use Rattle.kql_bound.specs.declared.parts.BKey.{BKey}
use Rattle.kql_bound.specs.declared.parts.Expand.{Expand}
use Rattle.kql_bound.specs.declared.parts.ExpandItem.{ExpandItem}
use Rattle.kql_bound.specs.declared.parts.GroupPlan.{GroupPlan}
use Rattle.kql_bound.specs.declared.parts.ParsePlan.{ParsePlan}
use Rattle.kql_bound.specs.declared.parts.ScanPlan.{ScanPlan}
use Rattle.kql_bound.specs.declared.parts.ScanStep.{ScanStep}
use Rattle.kql_bound.specs.declared.parts.SeriesItem.{SeriesItem}
use Rattle.kql_bound.specs.declared.parts.SeriesPlan.{SeriesPlan}
use Rattle.kql_bound.specs.declared.plan.Op.{Op, roll-Op}
use Rattle.kql_bound.specs.declared.plan.Op.TheFolds.{map-Op, map-Plan}
use Rattle.kql_bound.specs.declared.plan.Op.TheOpen.{Op-F, Plan-F}
use Rattle.kql_bound.specs.declared.plan.Op.TheVariants as V
use Rattle.kql_bound.specs.declared.plan.Plan.{Plan, ind-Plan, roll-Plan}
use Rattle.kql_bound.specs.declared.plan.Source.{Source}
use Rattle.kql_bound.specs.declared.plan.Source.TheVariants as source
use Rattle.kql_meaning.specs.Expressions.{look}
use Rattle.plan_rules.specs.Folding.{chain_from, folded, folded_call, folded_chain, folded_path, literal_called, literal_joined, literal_or, path_from, sound_literal, sound_literals}
use Rattle.plan_rules.specs.FoldedPlans.{folded_expand, folded_group, folded_items, folded_keys, folded_op, folded_parse, folded_part, folded_plan, folded_scan, folded_series, folded_series_item, folded_source, folded_step}
use Rattle.plan_rules.specs.Size.{expand_size, expr_size, exprs_size, items_size, keys_size, largest, op_size, ops_size, plan_size, plans_size, projection_size, scan_size, series_size, source_size}
use Rattle.plan_rules.proofs.FoldSteps.{folded-Aggregate, folded-Call, folded-Chain, folded-Column, folded-Literal, folded-Path, folded-Step, folded-Window, folded_link}
use Rattle.plan_rules.proofs.FoldedReadings.{sound-is}
use Rattle.plan_rules.proofs.FoldedPlanSteps.{folds-Count, folds-Extend, folds-Join, folds-MakeSeries, folds-MvExpand, folds-Parse, folds-Partition, folds-Project, folds-Scan, folds-Serialize, folds-Sort, folds-Summarize, folds-Take, folds-Top, folds-Union, folds-Where, folds-plan}
use Rattle.plan_rules.proofs.Sizes.{add-small, linked, max-small, next-small, none-small, op_size-Extend, op_size-Join, op_size-MakeSeries, op_size-MvExpand, op_size-Parse, op_size-Partition, op_size-Project, op_size-Scan, op_size-Sort, op_size-Summarize, op_size-Top, op_size-Union, op_size-Where, size-Aggregate, size-Call, size-Chain, size-Literal, size-Path, size-Window, size-plan, stepped}

-- Expressions.

-- What a literal is.
literal-small : (e : BExpr) (a : Lit) → sound_literal e ≡ Some a → expr_size e ≡ 1
literal-small e a h = ap expr_size (sound-is e a h).0 ∙ size-Literal a

call-small : (f : Func) (es : List BExpr) → expr_size (folded_call f es) ≤ suc (exprs_size es)
unfolding folded_call
call-small f es = by (option_and_then (literal_called f) (sound_literals es))
  where
    by : (o : Option Lit) → expr_size (literal_or (E.Call f es) o) ≤ suc (exprs_size es)
    by None = omega (arith, size-Call f es)
    by (Some l) = omega (arith, size-Literal l)

chain-next : (a : Lit) (l : ChainSign × BExpr) (ls : List (ChainSign × BExpr)) → ((b : Lit) → expr_size (chain_from b ls) ≤ suc (linked ls)) → (o : Option Lit) → expr_size (unwrap_or (option_map (λ b. chain_from b ls) o) (E.Chain (E.Literal a) (l ∷ ls))) ≤ suc (linked (l ∷ ls))
chain-next a l ls more None = omega (arith, size-Chain (E.Literal a) (l ∷ ls), size-Literal a)
chain-next a l ls more (Some b) = omega (arith, more b)

chain-from-small : (ls : List (ChainSign × BExpr)) (a : Lit) → expr_size (chain_from a ls) ≤ suc (linked ls)
unfolding chain_from
chain-from-small [] a = omega (arith, size-Literal a)
chain-from-small (l ∷ ls) a = chain-next a l ls (λ b. chain-from-small ls b) (literal_joined (sign_func l.0) a l.1)

chain-small : (first : BExpr) (ls : List (ChainSign × BExpr)) → expr_size (folded_chain first ls) ≤ expr_size first + linked ls
unfolding folded_chain
chain-small first ls = by (sound_literal first) refl
  where
    by : (o : Option Lit) → sound_literal first ≡ o → expr_size (unwrap_or (option_map (λ a. chain_from a ls) o) (E.Chain first ls)) ≤ expr_size first + linked ls
    by None e = omega (arith, size-Chain first ls)
    by (Some a) e = omega (arith, chain-from-small ls a, literal-small first a e)

path-next : (a : Lit) (e : BExpr) (es : List BExpr) → ((b : Lit) → expr_size (path_from b es) ≤ suc (stepped es)) → (o : Option Lit) → expr_size (unwrap_or (option_map (λ b. path_from b es) o) (E.Path (E.Literal a) (e ∷ es))) ≤ suc (stepped (e ∷ es))
path-next a e es more None = omega (arith, size-Path (E.Literal a) (e ∷ es), size-Literal a)
path-next a e es more (Some b) = omega (arith, more b)

path-from-small : (es : List BExpr) (a : Lit) → expr_size (path_from a es) ≤ suc (stepped es)
unfolding path_from
path-from-small [] a = omega (arith, size-Literal a)
path-from-small (e ∷ es) a = path-next a e es (λ b. path-from-small es b) (literal_joined look a e)

path-small : (whole : BExpr) (es : List BExpr) → expr_size (folded_path whole es) ≤ expr_size whole + stepped es
unfolding folded_path
path-small whole es = by (sound_literal whole) refl
  where
    by : (o : Option Lit) → sound_literal whole ≡ o → expr_size (unwrap_or (option_map (λ a. path_from a es) o) (E.Path whole es)) ≤ expr_size whole + stepped es
    by None e = omega (arith, size-Path whole es)
    by (Some a) e = omega (arith, path-from-small es a, literal-small whole a e)

abbrev Shrinks : BExpr → Type 0
Shrinks e = expr_size (folded e) ≤ expr_size e

abbrev Given : Type 0
Given = (e : BExpr) × Shrinks e

abbrev bare : Given → BExpr
bare g = g.0

abbrev bare_link : ChainSign × Given → ChainSign × BExpr
bare_link l = (l.0, l.1.0)

several-small : (gs : List Given) → exprs_size (map folded (map bare gs)) ≤ exprs_size (map bare gs)
several-small [] = none-small 0
several-small (g ∷ gs) = add-small (expr_size (folded g.0)) (expr_size g.0) (exprs_size (map folded (map bare gs))) (exprs_size (map bare gs)) g.1 (several-small gs)

steps-small : (gs : List Given) → stepped (map folded (map bare gs)) ≤ stepped (map bare gs)
steps-small [] = none-small 0
steps-small (g ∷ gs) = next-small (expr_size (folded g.0)) (expr_size g.0) (stepped (map folded (map bare gs))) (stepped (map bare gs)) g.1 (steps-small gs)

links-small : (gs : List (ChainSign × Given)) → linked (map folded_link (map bare_link gs)) ≤ linked (map bare_link gs)
links-small [] = none-small 0
links-small (g ∷ gs) = next-small (expr_size (folded g.1.0)) (expr_size g.1.0) (linked (map folded_link (map bare_link gs))) (linked (map bare_link gs)) g.1.1 (links-small gs)

smaller : (e d : BExpr) → folded e ≡ d → expr_size d ≤ expr_size e → Shrinks e
smaller e d is h = subst (λ (x : BExpr). expr_size x ≤ expr_size e) (sym is) h

layer : (y : BExpr-F Given) → Shrinks (roll-BExpr (map-BExpr Given BExpr bare y))
layer (BExpr-F.Literal l) = subst Shrinks (sym (E.rolls-Literal l)) (smaller (E.Literal l) (E.Literal l) (folded-Literal l) (omega arith))
layer (BExpr-F.Column n) = subst Shrinks (sym (E.rolls-Column n)) (smaller (E.Column n) (E.Column n) (folded-Column n) (omega arith))
layer (BExpr-F.Step c) = subst Shrinks (sym (E.rolls-Step c)) (smaller (E.Step c) (E.Step c) (folded-Step c) (omega arith))
layer (BExpr-F.Call f gs) =
    let es = map bare gs in
    subst Shrinks (sym (E.rolls-Call f es)) (smaller (E.Call f es) (folded_call f (map folded es)) (folded-Call f es) (omega (arith, call-small f (map folded es), several-small gs, size-Call f es)))
layer (BExpr-F.Chain first gs) =
    let ls = map bare_link gs in
    subst Shrinks (sym (E.rolls-Chain first.0 ls)) (smaller (E.Chain first.0 ls) (folded_chain (folded first.0) (map folded_link ls)) (folded-Chain first.0 ls) (omega (arith, chain-small (folded first.0) (map folded_link ls), first.1, links-small gs, size-Chain first.0 ls)))
layer (BExpr-F.Path whole gs) =
    let es = map bare gs in
    subst Shrinks (sym (E.rolls-Path whole.0 es)) (smaller (E.Path whole.0 es) (folded_path (folded whole.0) (map folded es)) (folded-Path whole.0 es) (omega (arith, path-small (folded whole.0) (map folded es), whole.1, steps-small gs, size-Path whole.0 es)))
layer (BExpr-F.Window f gs) =
    let es = map bare gs in
    subst Shrinks (sym (E.rolls-Window f es)) (smaller (E.Window f es) (E.Window f (map folded es)) (folded-Window f es) (omega (arith, several-small gs, size-Window f es, size-Window f (map folded es))))
layer (BExpr-F.Aggregate f gs) =
    let es = map bare gs in
    subst Shrinks (sym (E.rolls-Aggregate f es)) (smaller (E.Aggregate f es) (E.Aggregate f (map folded es)) (folded-Aggregate f es) (omega (arith, several-small gs, size-Aggregate f es, size-Aggregate f (map folded es))))

pub folded-small : (e : BExpr) → expr_size (folded e) ≤ expr_size e
folded-small = ind-BExpr Shrinks (λ x y is. subst (λ (z : BExpr-F BExpr). Shrinks (roll-BExpr z)) is (layer y))

-- What operators hold.

items-small : (items : List BItem) → items_size (folded_items items) ≤ items_size items
unfolding items_size folded_items
items-small [] = none-small 0
items-small (b ∷ bs) = add-small (expr_size (folded b.expr)) (expr_size b.expr) (items_size (folded_items bs)) (items_size bs) (folded-small b.expr) (items-small bs)

abbrev sizes : List BItem → List ℕ
sizes items = map (λ (b : BItem). expr_size b.expr) items

largest-small : (items : List BItem) → largest (sizes (folded_items items)) ≤ largest (sizes items)
unfolding folded_items
largest-small [] = none-small 0
largest-small (b ∷ bs) = max-small (expr_size (folded b.expr)) (expr_size b.expr) (largest (sizes (folded_items bs))) (largest (sizes bs)) (folded-small b.expr) (largest-small bs)

items-long : (items : List BItem) → length (folded_items items) ≡ length items
unfolding folded_items
items-long [] = refl
items-long (b ∷ bs) = ap suc (items-long bs)

projection-small : (items : List BItem) → projection_size (folded_items items) ≤ projection_size items
unfolding projection_size
projection-small items = add-small (length (folded_items items)) (length items) (largest (sizes (folded_items items))) (largest (sizes items)) (omega (arith, items-long items)) (largest-small items)

keys-small : (keys : List BKey) → keys_size (folded_keys keys) ≤ keys_size keys
unfolding keys_size folded_keys
keys-small [] = none-small 0
keys-small (k ∷ ks) = add-small (expr_size (folded k.expr)) (expr_size k.expr) (keys_size (folded_keys ks)) (keys_size ks) (folded-small k.expr) (keys-small ks)

series-items : (items : List SeriesItem) → series_size (map folded_series_item items) ≤ series_size items
unfolding series_size
series-items [] = none-small 0
series-items (i ∷ is) = add-small (expr_size (folded i.expr)) (expr_size i.expr) (series_size (map folded_series_item is)) (series_size is) (folded-small i.expr) (series-items is)

expand-items : (items : List ExpandItem) → expand_size (map folded_part items) ≤ expand_size items
unfolding expand_size
expand-items [] = none-small 0
expand-items (i ∷ is) = add-small (expr_size (folded i.expr)) (expr_size i.expr) (expand_size (map folded_part is)) (expand_size is) (folded-small i.expr) (expand-items is)

scan-steps : (steps : List ScanStep) → scan_size (map folded_step steps) ≤ scan_size steps
unfolding scan_size
scan-steps [] = none-small 0
scan-steps (s ∷ ss) =
    let one = add-small (expr_size (folded s.condition)) (expr_size s.condition) (items_size (folded_items s.sets)) (items_size s.sets) (folded-small s.condition) (items-small s.sets) in
    add-small (expr_size (folded s.condition) + items_size (folded_items s.sets)) (expr_size s.condition + items_size s.sets) (scan_size (map folded_step ss)) (scan_size ss) one (scan-steps ss)

source-small : (s : Source) → source_size (folded_source s) ≤ source_size s
unfolding source_size folded_source
source-small (source.Table name) = none-small 0
source-small (source.Let i) = none-small 0
source-small (source.Range column from to step) = none-small 0
source-small (source.Print items) = items-small items

-- Operators and plans, by induction.

abbrev OpShrinks : Op → Type 0
OpShrinks o = op_size (folded_op o) ≤ op_size o

abbrev PlanShrinks : Plan → Type 0
PlanShrinks p = plan_size (folded_plan p) ≤ plan_size p

abbrev GivenOp : Type 0
GivenOp = (o : Op) × OpShrinks o

abbrev GivenPlan : Type 0
GivenPlan = (p : Plan) × PlanShrinks p

abbrev bare_op : GivenOp → Op
bare_op g = g.0

abbrev bare_plan : GivenPlan → Plan
bare_plan g = g.0

op-smaller : (o p : Op) → folded_op o ≡ p → op_size p ≤ op_size o → OpShrinks o
op-smaller o p is h = subst (λ (x : Op). op_size x ≤ op_size o) (sym is) h

ops-small : (gs : List GivenOp) → ops_size (map folded_op (map bare_op gs)) ≤ ops_size (map bare_op gs)
ops-small [] = none-small 0
ops-small (g ∷ gs) = add-small (op_size (folded_op g.0)) (op_size g.0) (ops_size (map folded_op (map bare_op gs))) (ops_size (map bare_op gs)) g.1 (ops-small gs)

plans-small : (gs : List GivenPlan) → plans_size (map folded_plan (map bare_plan gs)) ≤ plans_size (map bare_plan gs)
plans-small [] = none-small 0
plans-small (g ∷ gs) = add-small (plan_size (folded_plan g.0)) (plan_size g.0) (plans_size (map folded_plan (map bare_plan gs))) (plans_size (map bare_plan gs)) g.1 (plans-small gs)

group-small : (g : GroupPlan) → OpShrinks (V.Summarize g)
unfolding folded_group
group-small g = op-smaller (V.Summarize g) (V.Summarize (folded_group g)) (folds-Summarize g) (omega (arith, op_size-Summarize g, op_size-Summarize (folded_group g), items-small g.items, items-small g.keys))

series-small : (p : SeriesPlan) → OpShrinks (V.MakeSeries p)
unfolding folded_series
series-small p = op-smaller (V.MakeSeries p) (V.MakeSeries (folded_series p)) (folds-MakeSeries p) (omega (arith, op_size-MakeSeries p, op_size-MakeSeries (folded_series p), series-items p.items, items-small p.keys))

expand-small : (x : Expand) → OpShrinks (V.MvExpand x)
unfolding folded_expand
expand-small x = op-smaller (V.MvExpand x) (V.MvExpand (folded_expand x)) (folds-MvExpand x) (omega (arith, op_size-MvExpand x, op_size-MvExpand (folded_expand x), expand-items x.items))

parse-small : (p : ParsePlan) → OpShrinks (V.Parse p)
unfolding folded_parse
parse-small p = op-smaller (V.Parse p) (V.Parse (folded_parse p)) (folds-Parse p) (omega (arith, op_size-Parse p, op_size-Parse (folded_parse p), folded-small p.text))

scan-small : (p : ScanPlan) → OpShrinks (V.Scan p)
unfolding folded_scan
scan-small p = op-smaller (V.Scan p) (V.Scan (folded_scan p)) (folds-Scan p) (omega (arith, op_size-Scan p, op_size-Scan (folded_scan p), scan-steps p.steps))

of-op : (y : Op-F GivenOp GivenPlan) → OpShrinks (roll-Op (map-Op GivenOp GivenPlan Op Plan bare_op bare_plan y))
of-op (Op-F.Where e) = subst OpShrinks (sym (V.rolls-Where e)) (op-smaller (V.Where e) (V.Where (folded e)) (folds-Where e) (omega (arith, op_size-Where e, op_size-Where (folded e), folded-small e)))
of-op (Op-F.Extend items) = subst OpShrinks (sym (V.rolls-Extend items)) (op-smaller (V.Extend items) (V.Extend (folded_items items)) (folds-Extend items) (omega (arith, op_size-Extend items, op_size-Extend (folded_items items), items-small items)))
of-op (Op-F.Project items) = subst OpShrinks (sym (V.rolls-Project items)) (op-smaller (V.Project items) (V.Project (folded_items items)) (folds-Project items) (omega (arith, op_size-Project items, op_size-Project (folded_items items), projection-small items)))
of-op (Op-F.Take n) = subst OpShrinks (sym (V.rolls-Take n)) (op-smaller (V.Take n) (V.Take n) (folds-Take n) (omega arith))
of-op Op-F.Count = subst OpShrinks (sym V.rolls-Count) (op-smaller V.Count V.Count folds-Count (omega arith))
of-op Op-F.Serialize = subst OpShrinks (sym V.rolls-Serialize) (op-smaller V.Serialize V.Serialize folds-Serialize (omega arith))
of-op (Op-F.Sort keys) = subst OpShrinks (sym (V.rolls-Sort keys)) (op-smaller (V.Sort keys) (V.Sort (folded_keys keys)) (folds-Sort keys) (omega (arith, op_size-Sort keys, op_size-Sort (folded_keys keys), keys-small keys)))
of-op (Op-F.Top n keys) = subst OpShrinks (sym (V.rolls-Top n keys)) (op-smaller (V.Top n keys) (V.Top n (folded_keys keys)) (folds-Top n keys) (omega (arith, op_size-Top n keys, op_size-Top n (folded_keys keys), keys-small keys)))
of-op (Op-F.Summarize g) = subst OpShrinks (sym (V.rolls-Summarize g)) (group-small g)
of-op (Op-F.MakeSeries p) = subst OpShrinks (sym (V.rolls-MakeSeries p)) (series-small p)
of-op (Op-F.MvExpand x) = subst OpShrinks (sym (V.rolls-MvExpand x)) (expand-small x)
of-op (Op-F.Parse p) = subst OpShrinks (sym (V.rolls-Parse p)) (parse-small p)
of-op (Op-F.Join j right) = subst OpShrinks (sym (V.rolls-Join j right.0)) (op-smaller (V.Join j right.0) (V.Join j (folded_plan right.0)) (folds-Join j right.0) (omega (arith, op_size-Join j right.0, op_size-Join j (folded_plan right.0), right.1)))
of-op (Op-F.Union inner others) =
    let ps = map bare_plan others in
    subst OpShrinks (sym (V.rolls-Union inner ps)) (op-smaller (V.Union inner ps) (V.Union inner (map folded_plan ps)) (folds-Union inner ps) (omega (arith, op_size-Union inner ps, op_size-Union inner (map folded_plan ps), plans-small others)))
of-op (Op-F.Scan p) = subst OpShrinks (sym (V.rolls-Scan p)) (scan-small p)
of-op (Op-F.Partition c ops) =
    let os = map bare_op ops in
    subst OpShrinks (sym (V.rolls-Partition c os)) (op-smaller (V.Partition c os) (V.Partition c (map folded_op os)) (folds-Partition c os) (omega (arith, op_size-Partition c os, op_size-Partition c (map folded_op os), ops-small ops)))

of-plan : (y : Plan-F GivenOp GivenPlan) → PlanShrinks (roll-Plan (map-Plan GivenOp GivenPlan Op Plan bare_op bare_plan y))
of-plan y =
    let p : Plan = record { source = y.source; ops = map bare_op y.ops } in
    let q : Plan = record { source = folded_source y.source; ops = map folded_op (map bare_op y.ops) } in
    subst (λ (x : Plan). plan_size x ≤ plan_size p) (sym (folds-plan p)) (omega (arith, size-plan p, size-plan q, source-small y.source, ops-small y.ops))

pub plan-small : (p : Plan) → plan_size (folded_plan p) ≤ plan_size p
plan-small =
    ind-Plan OpShrinks PlanShrinks (λ x y is. subst (λ (z : Op-F Op Plan). OpShrinks (roll-Op z)) is (of-op y))
    (λ x y is. subst (λ (z : Plan-F Op Plan). PlanShrinks (roll-Plan z)) is (of-plan y))
