-- The sizes of expressions and operators, one equation for each variant, and what the rules do to them.
use Rattle.std.proofs.Common.{◌≡◌, ◌≤◌, ◌+◌, ℕ, suc, max, Bool, List, [], ◌∷◌, ◌++◌, length, map, refl, sym, ap, ap₂, ◌∙◌, subst, inl, inr, arith, rules}
use Rattle.std.specs.Prelude.{Option, None, Some, cond, option_and_then}
use Rattle.std.proofs.lemmas.Bool.{cases_Bool}
use Rattle.kql_functions.specs.declared.aggregate.Aggregate.{Aggregate}
use Rattle.kql_functions.specs.declared.func.Func.{Func}
use Rattle.kql_functions.specs.declared.func.Func.TheVariants as func
use Rattle.kql_functions.specs.declared.func.LogicFunc.TheVariants as logic
use Rattle.kql_functions.specs.declared.window.Window.{Window}
use Rattle.kql_bound.specs.declared.expr.BExpr.{BExpr, fold-roll-BExpr, ind-BExpr, map-BExpr, roll-BExpr}
use Rattle.kql_bound.specs.declared.expr.BExpr.TheOpen.{BExpr-F}
use Rattle.kql_bound.specs.declared.expr.BExpr.TheVariants as E
use Rattle.kql_bound.specs.declared.expr.ChainSign.{ChainSign}
use Rattle.kql_bound.specs.declared.expr.StepColumn.{StepColumn}
use Rattle.kql_bound.specs.declared.literal.Lit.{Lit}
use Rattle.kql_bound.specs.declared.parts.BItem.{BItem}
use Rattle.kql_bound.specs.declared.parts.BKey.{BKey}
use Rattle.kql_bound.specs.declared.parts.Expand.{Expand}
use Rattle.kql_bound.specs.declared.parts.GroupPlan.{GroupPlan}
use Rattle.kql_bound.specs.declared.parts.JoinPlan.{JoinPlan}
use Rattle.kql_bound.specs.declared.parts.ParsePlan.{ParsePlan}
use Rattle.kql_bound.specs.declared.parts.ScanPlan.{ScanPlan}
use Rattle.kql_bound.specs.declared.parts.SeriesPlan.{SeriesPlan}
use Rattle.kql_bound.specs.declared.plan.Op.{Op, fold_out-Op, out-Op, the_lemmas}
use Rattle.kql_bound.specs.declared.plan.Op.TheFolds.{map-Op}
use Rattle.kql_bound.specs.declared.plan.Op.TheOpen.{Op-F}
use Rattle.kql_bound.specs.declared.plan.Op.TheVariants as V
use Rattle.kql_bound.specs.declared.plan.Plan.{Plan, fold_out-Plan}
use Rattle.kql_meaning.specs.FittingExpressions.{column_of}
use Rattle.kql_meaning.specs.Tables.{is_name_among}
use Rattle.plan_rules.specs.Reads.{with_names}
use Rattle.plan_rules.specs.Rules.{and_func, chosen_items, conjoined, filtered, item_expr, renamed_item, terms_in, terms_of}
use Rattle.plan_rules.specs.Size.{expand_size, expr_size, expr_size_step, exprs_size, items_size, keys_size, largest, links_size, op_size, op_size_step, ops_size, plan_size, plan_size_step, plans_size, projection_size, scan_size, series_size, source_size, steps_size}
use Rattle.plan_rules.proofs.ReadSteps.{link_names, names-Aggregate, names-Call, names-Chain, names-Column, names-Literal, names-Path, names-Step, names-Window}
use Rattle.plan_rules.proofs.RuleViews.{both-some}
use Rattle.plan_rules.proofs.TermSteps.{call-terms, terms-Aggregate, terms-Chain, terms-Column, terms-Literal, terms-Path, terms-Step, terms-Window}

-- Expressions.

abbrev pub linked : List (ChainSign × BExpr) → ℕ
linked links = links_size (map {B = ChainSign × ℕ} (λ (l : ChainSign × BExpr). (l.0, expr_size l.1)) links)

abbrev pub stepped : List BExpr → ℕ
stepped steps = steps_size (map expr_size steps)

pub size-Literal : (l : Lit) → expr_size (E.Literal l) ≡ 1
unfolding expr_size
size-Literal l = ap expr_size (sym (E.rolls-Literal l)) ∙ fold-roll-BExpr ℕ expr_size_step (BExpr-F.Literal l)

pub size-Column : (n : List ℕ) → expr_size (E.Column n) ≡ 1
unfolding expr_size
size-Column n = ap expr_size (sym (E.rolls-Column n)) ∙ fold-roll-BExpr ℕ expr_size_step (BExpr-F.Column n)

pub size-Step : (c : StepColumn) → expr_size (E.Step c) ≡ 1
unfolding expr_size
size-Step c = ap expr_size (sym (E.rolls-Step c)) ∙ fold-roll-BExpr ℕ expr_size_step (BExpr-F.Step c)

pub size-Call : (f : Func) (args : List BExpr) → expr_size (E.Call f args) ≡ suc (exprs_size args)
unfolding expr_size
size-Call f args = ap expr_size (sym (E.rolls-Call f args)) ∙ fold-roll-BExpr ℕ expr_size_step (BExpr-F.Call f args)

pub size-Chain : (first : BExpr) (links : List (ChainSign × BExpr)) → expr_size (E.Chain first links) ≡ expr_size first + linked links
unfolding expr_size
size-Chain first links = ap expr_size (sym (E.rolls-Chain first links)) ∙ fold-roll-BExpr ℕ expr_size_step (BExpr-F.Chain first links)

pub size-Path : (whole : BExpr) (steps : List BExpr) → expr_size (E.Path whole steps) ≡ expr_size whole + stepped steps
unfolding expr_size
size-Path whole steps = ap expr_size (sym (E.rolls-Path whole steps)) ∙ fold-roll-BExpr ℕ expr_size_step (BExpr-F.Path whole steps)

pub size-Window : (f : Window) (args : List BExpr) → expr_size (E.Window f args) ≡ suc (exprs_size args)
unfolding expr_size
size-Window f args = ap expr_size (sym (E.rolls-Window f args)) ∙ fold-roll-BExpr ℕ expr_size_step (BExpr-F.Window f args)

pub size-Aggregate : (f : Aggregate) (args : List BExpr) → expr_size (E.Aggregate f args) ≡ suc (exprs_size args)
unfolding expr_size
size-Aggregate f args = ap expr_size (sym (E.rolls-Aggregate f args)) ∙ fold-roll-BExpr ℕ expr_size_step (BExpr-F.Aggregate f args)

-- Each expression has a node.

abbrev HasNode : BExpr → Type 0
HasNode e = 1 ≤ expr_size e

abbrev Node : Type 0
Node = (e : BExpr) × HasNode e

abbrev node : Node → BExpr
node g = g.0

abbrev node_link : ChainSign × Node → ChainSign × BExpr
node_link l = (l.0, l.1.0)

node-layer : (y : BExpr-F Node) → HasNode (roll-BExpr (map-BExpr Node BExpr node y))
node-layer (BExpr-F.Literal l) = subst HasNode (sym (E.rolls-Literal l)) (omega (arith, size-Literal l))
node-layer (BExpr-F.Column n) = subst HasNode (sym (E.rolls-Column n)) (omega (arith, size-Column n))
node-layer (BExpr-F.Step c) = subst HasNode (sym (E.rolls-Step c)) (omega (arith, size-Step c))
node-layer (BExpr-F.Call f gs) = subst HasNode (sym (E.rolls-Call f (map node gs))) (omega (arith, size-Call f (map node gs)))
node-layer (BExpr-F.Chain first gs) = subst HasNode (sym (E.rolls-Chain first.0 (map node_link gs))) (omega (arith, size-Chain first.0 (map node_link gs), first.1))
node-layer (BExpr-F.Path whole gs) = subst HasNode (sym (E.rolls-Path whole.0 (map node gs))) (omega (arith, size-Path whole.0 (map node gs), whole.1))
node-layer (BExpr-F.Window f gs) = subst HasNode (sym (E.rolls-Window f (map node gs))) (omega (arith, size-Window f (map node gs)))
node-layer (BExpr-F.Aggregate f gs) = subst HasNode (sym (E.rolls-Aggregate f (map node gs))) (omega (arith, size-Aggregate f (map node gs)))

pub positive : (e : BExpr) → 1 ≤ expr_size e
positive = ind-BExpr HasNode (λ x y is. subst (λ (z : BExpr-F BExpr). HasNode (roll-BExpr z)) is (node-layer y))

-- Operators and plans.

pub size-out : (o : Op) (f : Op-F Op Plan) → out-Op o ≡ f → op_size o ≡ op_size_step (map-Op Op Plan ℕ ℕ op_size plan_size f)
unfolding op_size plan_size
size-out o f e = fold_out-Op ℕ ℕ op_size_step plan_size_step o ∙ ap (λ (g : Op-F Op Plan). op_size_step (map-Op Op Plan ℕ ℕ op_size plan_size g)) e

pub op_size-Where : (q : BExpr) → op_size (V.Where q) ≡ suc (expr_size q)
op_size-Where q = size-out (V.Where q) (Op-F.Where q) (search (rules, the_lemmas))

pub op_size-Extend : (items : List BItem) → op_size (V.Extend items) ≡ suc (items_size items)
op_size-Extend items = size-out (V.Extend items) (Op-F.Extend items) (search (rules, the_lemmas))

pub op_size-Project : (items : List BItem) → op_size (V.Project items) ≡ suc (projection_size items)
op_size-Project items = size-out (V.Project items) (Op-F.Project items) (search (rules, the_lemmas))

pub op_size-Take : (n : ℕ) → op_size (V.Take n) ≡ 1
op_size-Take n = size-out (V.Take n) (Op-F.Take n) (search (rules, the_lemmas))

pub op_size-Count : op_size V.Count ≡ 1
op_size-Count = size-out V.Count Op-F.Count (search (rules, the_lemmas))

pub op_size-Serialize : op_size V.Serialize ≡ 1
op_size-Serialize = size-out V.Serialize Op-F.Serialize (search (rules, the_lemmas))

pub op_size-Sort : (keys : List BKey) → op_size (V.Sort keys) ≡ suc (keys_size keys)
op_size-Sort keys = size-out (V.Sort keys) (Op-F.Sort keys) (search (rules, the_lemmas))

pub op_size-Top : (n : ℕ) (keys : List BKey) → op_size (V.Top n keys) ≡ suc (keys_size keys)
op_size-Top n keys = size-out (V.Top n keys) (Op-F.Top n keys) (search (rules, the_lemmas))

pub op_size-Summarize : (g : GroupPlan) → op_size (V.Summarize g) ≡ suc (items_size g.items + items_size g.keys)
op_size-Summarize g = size-out (V.Summarize g) (Op-F.Summarize g) (search (rules, the_lemmas))

pub op_size-MakeSeries : (p : SeriesPlan) → op_size (V.MakeSeries p) ≡ suc (series_size p.items + items_size p.keys)
op_size-MakeSeries p = size-out (V.MakeSeries p) (Op-F.MakeSeries p) (search (rules, the_lemmas))

pub op_size-MvExpand : (x : Expand) → op_size (V.MvExpand x) ≡ suc (expand_size x.items)
op_size-MvExpand x = size-out (V.MvExpand x) (Op-F.MvExpand x) (search (rules, the_lemmas))

pub op_size-Parse : (p : ParsePlan) → op_size (V.Parse p) ≡ suc (expr_size p.text)
op_size-Parse p = size-out (V.Parse p) (Op-F.Parse p) (search (rules, the_lemmas))

pub op_size-Join : (j : JoinPlan) (p : Plan) → op_size (V.Join j p) ≡ suc (plan_size p)
op_size-Join j p = size-out (V.Join j p) (Op-F.Join j p) (search (rules, the_lemmas))

pub op_size-Union : (inner : Bool) (ps : List Plan) → op_size (V.Union inner ps) ≡ suc (plans_size ps)
op_size-Union inner ps = size-out (V.Union inner ps) (Op-F.Union inner ps) (search (rules, the_lemmas))

pub op_size-Scan : (p : ScanPlan) → op_size (V.Scan p) ≡ suc (scan_size p.steps)
op_size-Scan p = size-out (V.Scan p) (Op-F.Scan p) (search (rules, the_lemmas))

pub op_size-Partition : (c : List ℕ) (ops : List Op) → op_size (V.Partition c ops) ≡ suc (ops_size ops)
op_size-Partition c ops = size-out (V.Partition c ops) (Op-F.Partition c ops) (search (rules, the_lemmas))

pub size-plan : (p : Plan) → plan_size p ≡ source_size p.source + ops_size p.ops
unfolding op_size plan_size
size-plan p = fold_out-Plan ℕ ℕ op_size_step plan_size_step p

-- Sums and greatest numbers.

pub none-small : (n : ℕ) → 0 ≤ n
none-small n = omega arith

plus-none : (b : ℕ) → b ≡ 0 + b
plus-none b = omega arith

plus-more : (a b c d : ℕ) → b ≡ c + d → a + b ≡ (a + c) + d
plus-more a b c d h = omega (arith, h)

pub add-small : (a b c d : ℕ) → a ≤ b → c ≤ d → a + c ≤ b + d
add-small a b c d h g = omega (arith, h, g)

pub next-small : (a b c d : ℕ) → a ≤ b → c ≤ d → suc a + c ≤ suc b + d
next-small a b c d h g = omega (arith, h, g)

pub max-small : (a b c d : ℕ) → a ≤ b → c ≤ d → max a c ≤ max b d
max-small a b c d h g = omega (arith, h, g)

first-small : (a b : ℕ) → a ≤ max a b
first-small a b = omega arith

later-small : (a b c : ℕ) → c ≤ b → c ≤ max a b
later-small a b c h = omega (arith, h)

max-within : (a b c : ℕ) → a ≤ c → b ≤ c → max a b ≤ c
max-within a b c h g = omega (arith, h, g)

-- Lists one behind another.

pub exprs-append : (xs ys : List BExpr) → exprs_size (xs ++ ys) ≡ exprs_size xs + exprs_size ys
exprs-append [] ys = plus-none (exprs_size ys)
exprs-append (x ∷ xs) ys = plus-more (expr_size x) (exprs_size (xs ++ ys)) (exprs_size xs) (exprs_size ys) (exprs-append xs ys)

pub ops-append : (xs ys : List Op) → ops_size (xs ++ ys) ≡ ops_size xs + ops_size ys
ops-append [] ys = plus-none (ops_size ys)
ops-append (x ∷ xs) ys = plus-more (op_size x) (ops_size (xs ++ ys)) (ops_size xs) (ops_size ys) (ops-append xs ys)

pub plans-append : (xs ys : List Plan) → plans_size (xs ++ ys) ≡ plans_size xs + plans_size ys
plans-append [] ys = plus-none (plans_size ys)
plans-append (x ∷ xs) ys = plus-more (plan_size x) (plans_size (xs ++ ys)) (plans_size xs) (plans_size ys) (plans-append xs ys)

pub keys_size-append : (xs ys : List BKey) → keys_size (xs ++ ys) ≡ keys_size xs + keys_size ys
unfolding keys_size
keys_size-append [] ys = plus-none (keys_size ys)
keys_size-append (x ∷ xs) ys = plus-more (expr_size x.expr) (keys_size (xs ++ ys)) (keys_size xs) (keys_size ys) (keys_size-append xs ys)

-- Other names.

abbrev Renames : (List ℕ → List ℕ) → BExpr → Type 0
Renames f e = expr_size (with_names f e) ≡ expr_size e

abbrev Renamed : (List ℕ → List ℕ) → Type 0
Renamed f = (e : BExpr) × Renames f e

abbrev named : (f : List ℕ → List ℕ) → Renamed f → BExpr
named f g = g.0

abbrev named_link : (f : List ℕ → List ℕ) → ChainSign × Renamed f → ChainSign × BExpr
named_link f l = (l.0, l.1.0)

names-several : (f : List ℕ → List ℕ) (gs : List (Renamed f)) → exprs_size (map (with_names f) (map (named f) gs)) ≡ exprs_size (map (named f) gs)
names-several f [] = refl
names-several f (g ∷ gs) = ap₂ (λ a b. a + b) g.1 (names-several f gs)

names-steps : (f : List ℕ → List ℕ) (gs : List (Renamed f)) → stepped (map (with_names f) (map (named f) gs)) ≡ stepped (map (named f) gs)
names-steps f [] = refl
names-steps f (g ∷ gs) = ap₂ (λ a b. suc a + b) g.1 (names-steps f gs)

names-links : (f : List ℕ → List ℕ) (gs : List (ChainSign × Renamed f)) → linked (map (link_names f) (map (named_link f) gs)) ≡ linked (map (named_link f) gs)
names-links f [] = refl
names-links f (g ∷ gs) = ap₂ (λ a b. suc a + b) g.1.1 (names-links f gs)

names-layer : (f : List ℕ → List ℕ) (y : BExpr-F (Renamed f)) → Renames f (roll-BExpr (map-BExpr (Renamed f) BExpr (named f) y))
names-layer f (BExpr-F.Literal l) = subst (Renames f) (sym (E.rolls-Literal l)) (ap expr_size (names-Literal f l))
names-layer f (BExpr-F.Column n) = subst (Renames f) (sym (E.rolls-Column n)) (ap expr_size (names-Column f n) ∙ (size-Column (f n) ∙ sym (size-Column n)))
names-layer f (BExpr-F.Step c) = subst (Renames f) (sym (E.rolls-Step c)) (ap expr_size (names-Step f c))
names-layer f (BExpr-F.Call g gs) =
    let es = map (named f) gs in
    subst (Renames f) (sym (E.rolls-Call g es)) (ap expr_size (names-Call f g es) ∙ (size-Call g (map (with_names f) es) ∙ (ap suc (names-several f gs) ∙ sym (size-Call g es))))
names-layer f (BExpr-F.Chain first gs) =
    let ls = map (named_link f) gs in
    subst (Renames f) (sym (E.rolls-Chain first.0 ls)) (ap expr_size (names-Chain f first.0 ls) ∙ (size-Chain (with_names f first.0) (map (link_names f) ls) ∙ (ap₂ (λ a b. a + b) first.1 (names-links f gs) ∙ sym (size-Chain first.0 ls))))
names-layer f (BExpr-F.Path whole gs) =
    let es = map (named f) gs in
    subst (Renames f) (sym (E.rolls-Path whole.0 es)) (ap expr_size (names-Path f whole.0 es) ∙ (size-Path (with_names f whole.0) (map (with_names f) es) ∙ (ap₂ (λ a b. a + b) whole.1 (names-steps f gs) ∙ sym (size-Path whole.0 es))))
names-layer f (BExpr-F.Window g gs) =
    let es = map (named f) gs in
    subst (Renames f) (sym (E.rolls-Window g es)) (ap expr_size (names-Window f g es) ∙ (size-Window g (map (with_names f) es) ∙ (ap suc (names-several f gs) ∙ sym (size-Window g es))))
names-layer f (BExpr-F.Aggregate g gs) =
    let es = map (named f) gs in
    subst (Renames f) (sym (E.rolls-Aggregate g es)) (ap expr_size (names-Aggregate f g es) ∙ (size-Aggregate g (map (with_names f) es) ∙ (ap suc (names-several f gs) ∙ sym (size-Aggregate g es))))

pub names-size : (f : List ℕ → List ℕ) (e : BExpr) → expr_size (with_names f e) ≡ expr_size e
names-size f = ind-BExpr (Renames f) (λ x y is. subst (λ (z : BExpr-F BExpr). Renames f (roll-BExpr z)) is (names-layer f y))

-- The terms of an expression.

abbrev AreSmall : BExpr → List BExpr → Type 0
AreSmall e ts = exprs_size ts ≤ expr_size e

abbrev Splits : BExpr → Type 0
Splits e = AreSmall e (terms_of e)

abbrev Split : Type 0
Split = (e : BExpr) × Splits e

abbrev split : Split → BExpr
split g = g.0

abbrev split_link : ChainSign × Split → ChainSign × BExpr
split_link l = (l.0, l.1.0)

one-small : (e : BExpr) → exprs_size (e ∷ []) ≤ expr_size e
one-small e = omega arith

alone-small : (e : BExpr) → terms_of e ≡ e ∷ [] → Splits e
alone-small e is = subst (AreSmall e) (sym is) (one-small e)

terms-several : (gs : List Split) → exprs_size (terms_in (map split gs)) ≤ exprs_size (map split gs)
unfolding terms_in
terms-several [] = none-small 0
terms-several (g ∷ gs) =
    subst (λ n. n ≤ expr_size g.0 + exprs_size (map split gs)) (sym (exprs-append (terms_of g.0) (terms_in (map split gs))))
    (add-small (exprs_size (terms_of g.0)) (expr_size g.0) (exprs_size (terms_in (map split gs))) (exprs_size (map split gs)) g.1 (terms-several gs))

and-small : (gs : List Split) → AreSmall (E.Call (func.Logic logic.And) (map split gs)) (terms_in (map split gs))
and-small gs = omega (arith, size-Call (func.Logic logic.And) (map split gs), terms-several gs)

terms-layer : (y : BExpr-F Split) → Splits (roll-BExpr (map-BExpr Split BExpr split y))
terms-layer (BExpr-F.Literal l) = subst Splits (sym (E.rolls-Literal l)) (alone-small (E.Literal l) (terms-Literal l))
terms-layer (BExpr-F.Column n) = subst Splits (sym (E.rolls-Column n)) (alone-small (E.Column n) (terms-Column n))
terms-layer (BExpr-F.Step c) = subst Splits (sym (E.rolls-Step c)) (alone-small (E.Step c) (terms-Step c))
terms-layer (BExpr-F.Call f gs) = subst Splits (sym (E.rolls-Call f (map split gs))) (call-terms AreSmall (λ e none. one-small e) f (map split gs) (and-small gs))
terms-layer (BExpr-F.Chain first gs) = subst Splits (sym (E.rolls-Chain first.0 (map split_link gs))) (alone-small (E.Chain first.0 (map split_link gs)) (terms-Chain first.0 (map split_link gs)))
terms-layer (BExpr-F.Path whole gs) = subst Splits (sym (E.rolls-Path whole.0 (map split gs))) (alone-small (E.Path whole.0 (map split gs)) (terms-Path whole.0 (map split gs)))
terms-layer (BExpr-F.Window f gs) = subst Splits (sym (E.rolls-Window f (map split gs))) (alone-small (E.Window f (map split gs)) (terms-Window f (map split gs)))
terms-layer (BExpr-F.Aggregate f gs) = subst Splits (sym (E.rolls-Aggregate f (map split gs))) (alone-small (E.Aggregate f (map split gs)) (terms-Aggregate f (map split gs)))

terms-small : (e : BExpr) → Splits e
terms-small = ind-BExpr Splits (λ x y is. subst (λ (z : BExpr-F BExpr). Splits (roll-BExpr z)) is (terms-layer y))

pub conjoined-small : (p q : BExpr) → expr_size (conjoined p q) ≤ suc (expr_size p + expr_size q)
unfolding conjoined
conjoined-small p q = omega (arith, size-Call and_func (terms_of p ++ terms_of q), exprs-append (terms_of p) (terms_of q), terms-small p, terms-small q)

-- The chosen items of a projection.

abbrev sizes : List BItem → List ℕ
sizes items = map (λ (b : BItem). expr_size b.expr) items

item-next : (b : BItem) (bs : List BItem) (n : List ℕ) → item_expr (b ∷ bs) n ≡ cond (is_name_among b.names n) (Some b.expr) (item_expr bs n)
unfolding item_expr
item-next b bs n = refl

no-item : (n : List ℕ) (e : BExpr) → item_expr [] n ≡ Some e → expr_size e ≤ largest (sizes [])
unfolding item_expr
no-item n e h = absurd cc

item-small : (items : List BItem) (n : List ℕ) (e : BExpr) → item_expr items n ≡ Some e → expr_size e ≤ largest (sizes items)
item-small [] n e h = no-item n e h
item-small (b ∷ bs) n e h = elim (cases_Bool (is_name_among b.names n)) [
  | inl t ↦
      let c : Some b.expr ≡ Some e = let i = sym (item-next b bs n) ∙ h in rw t at i in
      let same : b.expr ≡ e = cc in
      subst (λ (x : BExpr). expr_size x ≤ largest (sizes (b ∷ bs))) same (first-small (expr_size b.expr) (largest (sizes bs)))
  | inr f ↦
      let c : item_expr bs n ≡ Some e = let i = sym (item-next b bs n) ∙ h in rw f at i in
      later-small (expr_size b.expr) (largest (sizes bs)) (expr_size e) (item-small bs n e c)
]

column-small : (items : List BItem) (o : Option (List ℕ)) (e : BExpr) → option_and_then (item_expr items) o ≡ Some e → expr_size e ≤ largest (sizes items)
column-small items None e h = absurd cc
column-small items (Some n) e h = item-small items n e h

both-small : (n a m b k c : ℕ) → n ≡ k → a ≤ b → n + a ≤ (m + b) + (k + c)
both-small n a m b k c h g = omega (arith, h, g)

-- As many items, and none larger than the largest there was.
record Fewer (first second items : List BItem) : Type 0 where
  many : length items ≡ length second
  small : largest (sizes items) ≤ largest (sizes first)

same-items : (xs ys : List BItem) → Some xs ≡ Some ys → xs ≡ ys
same-items xs ys e = cc

chosen-fewer : (first second items : List BItem) → chosen_items first second ≡ Some items → Fewer first second items
unfolding chosen_items
chosen-fewer first [] items h = subst (Fewer first []) (same-items [] items h) (record { many = refl; small = none-small (largest (sizes first)) })
chosen-fewer first (b ∷ bs) items h =
    let both = both-some (option_and_then (item_expr first) (column_of b.expr)) (chosen_items first bs) (λ e more. Some (renamed_item b.names e ∷ more)) items h in
    let rest = chosen-fewer first bs both.1 both.3 in
    subst (Fewer first (b ∷ bs)) (same-items (renamed_item b.names both.0 ∷ both.1) items both.4) (record {
      many = ap suc rest.many;
      small = max-within (expr_size both.0) (largest (sizes both.1)) (largest (sizes first)) (column-small first (column_of b.expr) both.0 both.2) rest.small;
    })

pub chosen-small : (first second items : List BItem) → chosen_items first second ≡ Some items → projection_size items ≤ projection_size first + projection_size second
unfolding projection_size
chosen-small first second items h = let f = chosen-fewer first second items h in both-small (length items) (largest (sizes items)) (length first) (largest (sizes first)) (length second) (largest (sizes second)) f.many f.small

-- Rules of each kind.

-- A filter under other names that goes in front of its neighbour.
pub renamed-small : (x : Op) (f : List ℕ → List ℕ) (q : BExpr) → ops_size (V.Where (with_names f q) ∷ x ∷ []) ≤ ops_size (x ∷ V.Where q ∷ [])
renamed-small x f q = omega (arith, op_size-Where q, op_size-Where (with_names f q), names-size f q)

-- One that goes into a join.
pub into-small : (j : JoinPlan) (p : Plan) (f : List ℕ → List ℕ) (q : BExpr) → ops_size (V.Join j (filtered p (with_names f q)) ∷ []) ≤ ops_size (V.Join j p ∷ V.Where q ∷ [])
into-small j p f q =
    let r = with_names f q in
    omega (arith, op_size-Join j (filtered p r), op_size-Join j p, size-plan (filtered p r), size-plan p, ops-append p.ops (V.Where r ∷ []), op_size-Where q, op_size-Where r, names-size f q)
