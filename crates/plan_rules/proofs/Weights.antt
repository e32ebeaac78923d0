-- The load of operators falls where that of some among them does.
use Rattle.std.proofs.Common.{◌≡◌, ◌≤◌, ◌<◌, ◌+◌, ◌*◌, ℕ, List, [], ◌∷◌, ◌++◌, map, sym, ap, ap₂, ◌∙◌, subst, arith, rules}
use Rattle.std.proofs.Math.Nat.{mul-le-mul_left, mul-le-mul_right}
use Rattle.kql_bound.specs.declared.expr.BExpr.{BExpr}
use Rattle.kql_bound.specs.declared.parts.BItem.{BItem}
use Rattle.kql_bound.specs.declared.parts.BKey.{BKey}
use Rattle.kql_bound.specs.declared.parts.Expand.{Expand}
use Rattle.kql_bound.specs.declared.parts.GroupPlan.{GroupPlan}
use Rattle.kql_bound.specs.declared.parts.JoinPlan.{JoinPlan}
use Rattle.kql_bound.specs.declared.parts.ParsePlan.{ParsePlan}
use Rattle.kql_bound.specs.declared.plan.Op.{Op, out-Op, fold_out-Op, the_lemmas}
use Rattle.kql_bound.specs.declared.plan.Op.TheFolds.{map-Op}
use Rattle.kql_bound.specs.declared.plan.Op.TheOpen.{Op-F}
use Rattle.kql_bound.specs.declared.plan.Op.TheVariants as V
use Rattle.kql_bound.specs.declared.plan.Plan.{Plan, fold_out-Plan}
use Rattle.plan_rules.specs.Weight.{IsLighter, Weight, and_then, in_order, mover, nothing, op_weight, ops_weight, other, plan_weight, plan_weight_step, weight_step}

pub weight-out : (o : Op) (f : Op-F Op Plan) → out-Op o ≡ f → op_weight o ≡ weight_step (map-Op Op Plan Weight Weight op_weight plan_weight f)
unfolding op_weight plan_weight
weight-out o f e = fold_out-Op Weight Weight weight_step plan_weight_step o ∙ ap (λ (g : Op-F Op Plan). weight_step (map-Op Op Plan Weight Weight op_weight plan_weight g)) e

pub weight-Where : (q : BExpr) → op_weight (V.Where q) ≡ mover
weight-Where q = weight-out (V.Where q) (Op-F.Where q) (search (rules, the_lemmas))

pub weight-Take : (n : ℕ) → op_weight (V.Take n) ≡ mover
weight-Take n = weight-out (V.Take n) (Op-F.Take n) (search (rules, the_lemmas))

pub weight-Extend : (items : List BItem) → op_weight (V.Extend items) ≡ other
weight-Extend items = weight-out (V.Extend items) (Op-F.Extend items) (search (rules, the_lemmas))

pub weight-Project : (items : List BItem) → op_weight (V.Project items) ≡ other
weight-Project items = weight-out (V.Project items) (Op-F.Project items) (search (rules, the_lemmas))

pub weight-Sort : (keys : List BKey) → op_weight (V.Sort keys) ≡ other
weight-Sort keys = weight-out (V.Sort keys) (Op-F.Sort keys) (search (rules, the_lemmas))

pub weight-Top : (n : ℕ) (keys : List BKey) → op_weight (V.Top n keys) ≡ other
weight-Top n keys = weight-out (V.Top n keys) (Op-F.Top n keys) (search (rules, the_lemmas))

pub weight-Count : op_weight V.Count ≡ other
weight-Count = weight-out V.Count Op-F.Count (search (rules, the_lemmas))

pub weight-Summarize : (g : GroupPlan) → op_weight (V.Summarize g) ≡ other
weight-Summarize g = weight-out (V.Summarize g) (Op-F.Summarize g) (search (rules, the_lemmas))

pub weight-MvExpand : (x : Expand) → op_weight (V.MvExpand x) ≡ other
weight-MvExpand x = weight-out (V.MvExpand x) (Op-F.MvExpand x) (search (rules, the_lemmas))

pub weight-Parse : (p : ParsePlan) → op_weight (V.Parse p) ≡ other
weight-Parse p = weight-out (V.Parse p) (Op-F.Parse p) (search (rules, the_lemmas))

pub weight-Serialize : op_weight V.Serialize ≡ other
weight-Serialize = weight-out V.Serialize Op-F.Serialize (search (rules, the_lemmas))

pub weight-Join : (j : JoinPlan) (p : Plan) → op_weight (V.Join j p) ≡ and_then (plan_weight p) other
weight-Join j p = weight-out (V.Join j p) (Op-F.Join j p) (search (rules, the_lemmas))

pub weight-Union : (inner : _) (ps : List Plan) → op_weight (V.Union inner ps) ≡ and_then (in_order (map plan_weight ps)) other
weight-Union inner ps = weight-out (V.Union inner ps) (Op-F.Union inner ps) (search (rules, the_lemmas))

pub weight-Partition : (c : List ℕ) (ops : List Op) → op_weight (V.Partition c ops) ≡ and_then (ops_weight ops) other
weight-Partition c ops = weight-out (V.Partition c ops) (Op-F.Partition c ops) (search (rules, the_lemmas))

pub weight-plan : (p : Plan) → plan_weight p ≡ ops_weight p.ops
unfolding op_weight plan_weight
weight-plan p = fold_out-Plan Weight Weight weight_step plan_weight_step p

-- Before and behind.

pub lighter-before : (a b c : Weight) → IsLighter a b → IsLighter (and_then a c) (and_then b c)
lighter-before a b c h =
    let m : a.others * c.movers ≤ b.others * c.movers = mul-le-mul_right c.movers h.others in
    record { movers = omega (arith, h.movers); others = omega (arith, h.others); load = omega (arith, h.load, m) }

pub lighter-behind : (a b c : Weight) → IsLighter a b → IsLighter (and_then c a) (and_then c b)
lighter-behind a b c h =
    let m : c.others * a.movers ≤ c.others * b.movers = mul-le-mul_left c.others h.movers in
    record { movers = omega (arith, h.movers); others = omega (arith, h.others); load = omega (arith, h.load, m) }

weight-same : (a b : Weight) → a.movers ≡ b.movers → a.others ≡ b.others → a.load ≡ b.load → a ≡ b
weight-same a b e f g =
    let made : ℕ → ℕ → ℕ → Weight = λ m o l. record { movers = m; others = o; load = l } in
    ap (λ m. made m a.others a.load) e ∙ ap₂ (made b.movers) f g

pub then-nothing : (a : Weight) → and_then nothing a ≡ a
then-nothing a = weight-same (and_then nothing a) a (omega arith) (omega arith) (omega arith)

pub then-then : (a b c : Weight) → and_then (and_then a b) c ≡ and_then a (and_then b c)
then-then a b c = weight-same (and_then (and_then a b) c) (and_then a (and_then b c)) (omega arith) (omega arith) (grind arith)

pub order-append : (xs ys : List Weight) → in_order (xs ++ ys) ≡ and_then (in_order xs) (in_order ys)
order-append [] ys = sym (then-nothing (in_order ys))
order-append (x ∷ xs) ys = ap (and_then x) (order-append xs ys) ∙ sym (then-then x (in_order xs) (in_order ys))

weight-append : (xs ys : List Op) → ops_weight (xs ++ ys) ≡ and_then (ops_weight xs) (ops_weight ys)
weight-append [] ys = sym (then-nothing (ops_weight ys))
weight-append (x ∷ xs) ys = ap (and_then (op_weight x)) (weight-append xs ys) ∙ sym (then-then (op_weight x) (ops_weight xs) (ops_weight ys))

pub ops-lighter-before : (xs ys behind : List Op) → IsLighter (ops_weight ys) (ops_weight xs) → IsLighter (ops_weight (ys ++ behind)) (ops_weight (xs ++ behind))
ops-lighter-before xs ys behind h =
    subst (λ a. IsLighter a (ops_weight (xs ++ behind))) (sym (weight-append ys behind))
    (subst (λ b. IsLighter (and_then (ops_weight ys) (ops_weight behind)) b) (sym (weight-append xs behind)) (lighter-before (ops_weight ys) (ops_weight xs) (ops_weight behind) h))

pub ops-lighter-behind : (before xs ys : List Op) → IsLighter (ops_weight ys) (ops_weight xs) → IsLighter (ops_weight (before ++ ys)) (ops_weight (before ++ xs))
ops-lighter-behind [] xs ys h = h
ops-lighter-behind (o ∷ os) xs ys h = lighter-behind (ops_weight (os ++ ys)) (ops_weight (os ++ xs)) (op_weight o) (ops-lighter-behind os xs ys h)

-- A plan in an operator.

pub join-lighter : (j : JoinPlan) (p q : Plan) → IsLighter (plan_weight q) (plan_weight p) → IsLighter (op_weight (V.Join j q)) (op_weight (V.Join j p))
join-lighter j p q h =
    subst (λ a. IsLighter a (op_weight (V.Join j p))) (sym (weight-Join j q))
    (subst (λ b. IsLighter (and_then (plan_weight q) other) b) (sym (weight-Join j p)) (lighter-before (plan_weight q) (plan_weight p) other h))

-- Rules of each kind, over the weights of the operators.

-- A mover in front of another operator.
pub swap-lighter : (x m : Op) (w : Weight) → op_weight m ≡ mover → op_weight x ≡ w → 0 < w.others → IsLighter (ops_weight (m ∷ x ∷ [])) (ops_weight (x ∷ m ∷ []))
swap-lighter x m w e f h = rw (e, f) (record { movers = omega arith; others = omega arith; load = omega (arith, h) })

-- Another mover in front of it.
pub move-lighter : (x m n : Op) (w : Weight) → op_weight m ≡ mover → op_weight n ≡ mover → op_weight x ≡ w → 0 < w.others → IsLighter (ops_weight (n ∷ x ∷ [])) (ops_weight (x ∷ m ∷ []))
move-lighter x m n w e f g h = rw (e, f, g) (record { movers = omega arith; others = omega arith; load = omega (arith, h) })

-- Two operators that become one.
pub two-to-one : (x y z : Op) (a b c : Weight) → op_weight x ≡ a → op_weight y ≡ b → op_weight z ≡ c → c.movers ≤ a.movers + b.movers → c.others ≤ a.others + b.others → c.load < a.load + b.load → IsLighter (ops_weight (z ∷ [])) (ops_weight (x ∷ y ∷ []))
two-to-one x y z a b c e f g p q r = rw (e, f, g) (record { movers = omega (arith, p); others = omega (arith, q); load = omega (arith, r) })

-- An operator that becomes nothing.
pub one-to-none : (x : Op) (a : Weight) → op_weight x ≡ a → 0 < a.load → IsLighter (ops_weight []) (ops_weight (x ∷ []))
one-to-none x a e h = rw e (record { movers = omega arith; others = omega arith; load = omega (arith, h) })

-- A mover behind a join that goes to its right plan's end.
pub into-lighter : (j : JoinPlan) (p q : Plan) (m : Op) → op_weight m ≡ mover → plan_weight q ≡ and_then (plan_weight p) mover → IsLighter (ops_weight (V.Join j q ∷ [])) (ops_weight (V.Join j p ∷ m ∷ []))
into-lighter j p q m e f = rw (weight-Join j q, weight-Join j p, e, f) (record { movers = omega arith; others = omega arith; load = omega arith })

pub weight-more : (p q : Plan) (m : Op) → op_weight m ≡ mover → q.ops ≡ p.ops ++ m ∷ [] → plan_weight q ≡ and_then (plan_weight p) mover
weight-more p q m e f =
    let one : ops_weight (m ∷ []) ≡ mover = rw e (weight-same (and_then mover nothing) mover (omega arith) (omega arith) (omega arith)) in
    weight-plan q ∙ (ap ops_weight f ∙ (weight-append p.ops (m ∷ []) ∙ ap₂ and_then (sym (weight-plan p)) one))
