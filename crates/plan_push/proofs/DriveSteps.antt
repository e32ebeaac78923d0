-- What the search for a place at which a rule fires goes by.
use Rattle.std.proofs.Common.{◌≡◌, ◌≤◌, ◌<◌, ◌+◌, ℕ, zero, suc, Bool, true, false, List, [], ◌∷◌, ◌++◌, take, drop, length, get_or, map, refl, sym, ap, ap₂, ◌∙◌, subst, inl, inr, arith, rules}
use Rattle.std.specs.Prelude.{◌&&◌, not, ◌-◌, fold, IfOk, IsSome, MatchOption, None, Option, Result, Some, is_some, option_map}
use Rattle.std.specs.List.{list_all}
use Rattle.std.proofs.lemmas.Bool.{cases_Bool}
use Rattle.std.proofs.lemmas.Result.{IfOk-weaker}
use Rattle.kql_cells.specs.declared.schema.Column.{Column}
use Rattle.kql_bound.specs.declared.parts.JoinPlan.{JoinPlan}
use Rattle.kql_bound.specs.declared.plan.Op.{Op}
use Rattle.kql_bound.specs.declared.plan.Op.TheVariants as V
use Rattle.kql_bound.specs.declared.plan.Plan.{Plan}
use Rattle.kql_meaning.specs.Expressions.{column_kind}
use Rattle.kql_meaning.specs.Fits.{Known, by_key, joined_columns, of_columns, op_columns, ops_columns, outside_subqueries, plan_columns, plans_columns, source_columns, united_columns}
use Rattle.kql_meaning.specs.FittingExpressions.{has_kind, is_key}
use Rattle.kql_meaning.proofs.OperatorFitLaws.{after, after-some, join-out, ops-fold, ops-more, partition-out, plan-out, union-out}
use Rattle.kql_fit_laws.specs.LawsOfOperators.{EachOpKeeps, EachSourceKeeps}
use Rattle.plan_rules.proofs.Context.{columns-append, columns-next, lost, plan-becomes}
use Rattle.plan_push.proofs.SettledSteps.{settled-Join, settled-Partition, settled-Union, settled-cons, settled-nil, settled-plan-out}
use Rattle.plan_rules.proofs.Subplans.{join-becomes, partition-becomes, union-becomes}
use Rattle.plan_rules.proofs.Sizes.{op_size-Join, op_size-Partition, op_size-Union, size-plan}
use Rattle.plan_rules.proofs.Weights.{lighter-before, weight-Join, weight-Partition, weight-Union, weight-plan}
use Rattle.plan_rules.specs.Becomes.{Becomes}
use Rattle.plan_rules.specs.Improves.{Improves, PlanImproves, PlansImprove}
use Rattle.plan_neighbours.specs.Table.{rule_at}
use Rattle.plan_push.specs.Settled.{if_known, settled_op, settled_ops, settled_plan}
use Rattle.plan_rules.specs.Size.{source_size}
use Rattle.plan_rules.specs.Weight.{IsLighter, Weight, and_then, in_order, nothing, op_weight, ops_weight, other, plan_weight}
use Rattle.plan_push.proofs.RuleTable.{improves-append, improves-behind}
use Rattle.plan_push.proofs.WalkSteps.{still-rest, still-rule}
use Rattle.plan_push.specs.Walk.{is_still}
use Rattle.plan_columns.specs.Made.{op_makes, plan_makes, source_makes}
use Rattle.plan_columns.proofs.MadeLaws.{op-makes, plan-makes-its, source-makes}

-- Something that is there.

pub there : {X : Type 0} (o : Option X) → IsSome o → (x : X) × (o ≡ Some x)
there None h = absurd cc
there (Some x) h = (x, refl)

is-there : {X : Type 0} (o : Option X) (x : X) → o ≡ Some x → IsSome o
is-there None x e = absurd cc
is-there (Some y) x e = refl

outside-some : (inside : Bool) (columns : Option (List Column)) (cs : List Column) → outside_subqueries inside columns ≡ Some cs → columns ≡ Some cs
unfolding outside_subqueries
outside-some true columns cs e = cc
outside-some false columns cs e = e

-- The columns that are made of what fits.

pub made-some : (o : Op) (k : Known) (inside : Bool) (cs next : List Column) → IsSome (op_columns o k inside cs) → next ≡ op_makes o k cs → op_columns o k inside cs ≡ Some next
made-some o k inside cs next h e = let ds = there (op_columns o k inside cs) h in ds.1 ∙ ap (λ c. Some c) (sym (op-makes o k inside cs ds.0 ds.1) ∙ sym e)

pub plan-made-some : (p : Plan) (k : Known) (next : List Column) → IsSome (plan_columns p k) → next ≡ plan_makes p k → plan_columns p k ≡ Some next
plan-made-some p k next h e = let ds = there (plan_columns p k) h in ds.1 ∙ ap (λ c. Some c) (sym (plan-makes-its p k ds.0 ds.1) ∙ sym e)

source-there : (p : Plan) (k : Known) (o : Option (List Column)) → source_columns p.source k ≡ o → IsSome (of_columns o (λ cs. ops_columns p.ops k false cs)) → IsSome o
unfolding of_columns
source-there p k None e h = h
source-there p k (Some cs) e h = refl

pub source-made-some : (p : Plan) (k : Known) (next : List Column) → IsSome (plan_columns p k) → next ≡ source_makes p.source k → source_columns p.source k ≡ Some next
source-made-some p k next h e =
    let cs = there (source_columns p.source k) (source-there p k (source_columns p.source k) refl (subst (λ o. IsSome o) (plan-out p k) h)) in
    cs.1 ∙ ap (λ c. Some c) (sym (source-makes p.source k cs.0 cs.1) ∙ sym e)

-- Plans and operators in an operator that fits.

joined-right : (j : JoinPlan) (cs ds : List Column) (o : Option (List Column)) → joined_columns j cs o ≡ Some ds → IsSome o
unfolding joined_columns
joined-right j cs ds None e = absurd cc
joined-right j cs ds (Some rc) e = refl

pub join-fits : (j : JoinPlan) (p : Plan) (k : Known) (inside : Bool) (cs : List Column) → IsSome (op_columns (V.Join j p) k inside cs) → IsSome (plan_columns p k)
join-fits j p k inside cs h =
    let ds = there (op_columns (V.Join j p) k inside cs) h in
    joined-right j cs ds.0 (plan_columns p k) (outside-some inside (joined_columns j cs (plan_columns p k)) ds.0 (sym (join-out j p k inside cs) ∙ ds.1))

united-others : (inner : Bool) (cs ds : List Column) (o : Option (List (List Column))) → united_columns inner cs o ≡ Some ds → IsSome o
unfolding united_columns
united-others inner cs ds None e = absurd cc
united-others inner cs ds (Some rc) e = refl

pub union-fits : (inner : Bool) (ps : List Plan) (k : Known) (inside : Bool) (cs : List Column) → IsSome (op_columns (V.Union inner ps) k inside cs) → IsSome (plans_columns ps k)
union-fits inner ps k inside cs h =
    let ds = there (op_columns (V.Union inner ps) k inside cs) h in
    united-others inner cs ds.0 (plans_columns ps k) (outside-some inside (united_columns inner cs (plans_columns ps k)) ds.0 (sym (union-out inner ps k inside cs) ∙ ds.1))

key-ops : (b : Bool) (o : Option (List Column)) (cs : List Column) → by_key b o ≡ Some cs → IsSome o
unfolding by_key
key-ops true o cs e = is-there o cs e
key-ops false o cs e = absurd cc

pub partition-fits : (c : List ℕ) (ops : List Op) (k : Known) (inside : Bool) (cs : List Column) → IsSome (op_columns (V.Partition c ops) k inside cs) → IsSome (ops_columns ops k true cs)
partition-fits c ops k inside cs h =
    let ds = there (op_columns (V.Partition c ops) k inside cs) h in
    key-ops (has_kind is_key (column_kind c cs)) (ops_columns ops k true cs) ds.0 (outside-some inside (by_key (has_kind is_key (column_kind c cs)) (ops_columns ops k true cs)) ds.0 (sym (partition-out c ops k inside cs) ∙ ds.1))

-- What is found in them.

abbrev pub OpFound : Op → Known → Bool → List Column → Option Op → Type 0
OpFound o k inside cs made = MatchOption made (settled_op o k inside cs ≡ true) (λ p. Improves k inside cs (o ∷ []) (p ∷ []))

one-lighter : (a b : Op) (v w : Weight) → op_weight a ≡ and_then v other → op_weight b ≡ and_then w other → IsLighter w v → IsLighter (ops_weight (b ∷ [])) (ops_weight (a ∷ []))
one-lighter a b v w e f h = rw (e, f) (lighter-before (and_then w other) (and_then v other) nothing (lighter-before w v other h))

pub join-found : (j : JoinPlan) (p : Plan) (k : Known) (inside : Bool) (cs : List Column) (o : Option Plan) → MatchOption o (settled_plan p k ≡ true) (λ q. PlanImproves k p q) → OpFound (V.Join j p) k inside cs (option_map (λ q. V.Join j q) o)
join-found j p k inside cs None h = settled-Join j p k inside cs ∙ h
join-found j p k inside cs (Some q) h = record {
  becomes = join-becomes k inside cs j p q h.becomes;
  lighter = one-lighter (V.Join j p) (V.Join j q) (plan_weight p) (plan_weight q) (weight-Join j p) (weight-Join j q) h.lighter;
  no_longer = omega arith;
  no_larger = omega (arith, op_size-Join j p, op_size-Join j q, h.no_longer.size);
}

pub union-found : (inner : Bool) (ps : List Plan) (k : Known) (inside : Bool) (cs : List Column) (o : Option (List Plan)) → MatchOption o (list_all (λ p. settled_plan p k) ps ≡ true) (λ qs. PlansImprove k ps qs) → OpFound (V.Union inner ps) k inside cs (option_map (λ qs. V.Union inner qs) o)
union-found inner ps k inside cs None h = settled-Union inner ps k inside cs ∙ h
union-found inner ps k inside cs (Some qs) h = record {
  becomes = union-becomes k inside cs inner ps qs h.becomes;
  lighter = one-lighter (V.Union inner ps) (V.Union inner qs) (in_order (map plan_weight ps)) (in_order (map plan_weight qs)) (weight-Union inner ps) (weight-Union inner qs) h.lighter;
  no_longer = omega arith;
  no_larger = omega (arith, op_size-Union inner ps, op_size-Union inner qs, h.no_larger);
}

abbrev pub OpsFound : List Op → Known → Bool → List Column → Option (List Op) → Type 0
OpsFound ops k inside cs made = MatchOption made (settled_ops ops k inside cs ≡ true) (λ os. Improves k inside cs ops os)

pub partition-found : (c : List ℕ) (ops : List Op) (k : Known) (inside : Bool) (cs : List Column) (o : Option (List Op)) → OpsFound ops k true cs o → OpFound (V.Partition c ops) k inside cs (option_map (λ os. V.Partition c os) o)
partition-found c ops k inside cs None h = settled-Partition c ops k inside cs ∙ h
partition-found c ops k inside cs (Some os) h = record {
  becomes = partition-becomes k inside cs c ops os h.becomes;
  lighter = one-lighter (V.Partition c ops) (V.Partition c os) (ops_weight ops) (ops_weight os) (weight-Partition c ops) (weight-Partition c os) h.lighter;
  no_longer = omega arith;
  no_larger = omega (arith, op_size-Partition c ops, op_size-Partition c os, h.no_larger);
}

-- A plan.

pub plan-ops-fit : (p : Plan) (k : Known) (cs : List Column) → source_columns p.source k ≡ Some cs → IsSome (plan_columns p k) → IsSome (ops_columns p.ops k false cs)
unfolding of_columns
plan-ops-fit p k cs e h = subst (λ o. IsSome o) (plan-out p k ∙ rw e refl) h

pub none-there : {X : Type 0} (o : Option X) → o ≡ None → IsSome o → ⊥
none-there None e h = cc
none-there (Some x) e h = cc

pub plan-source-there : (p : Plan) (k : Known) → source_columns p.source k ≡ None → IsSome (plan_columns p k) → ⊥
unfolding of_columns
plan-source-there p k e h = none-there (plan_columns p k) (plan-out p k ∙ rw e refl) h

pub plan-settled : (p : Plan) (k : Known) (cs : List Column) → source_columns p.source k ≡ Some cs → settled_ops p.ops k false cs ≡ true → settled_plan p k ≡ true
plan-settled p k cs e h = settled-plan-out p k ∙ rw e h

pub plan-improves : EachSourceKeeps → (k : Known) (p q : Plan) (cs : List Column) → p.source ≡ q.source → source_columns p.source k ≡ Some cs → Improves k false cs p.ops q.ops → PlanImproves k p q
plan-improves each k p q cs same e h = record {
  becomes = plan-becomes each k p q same (λ ds f. let g : Some cs ≡ Some ds = sym e ∙ f in let here : cs ≡ ds = cc in subst (λ c. Becomes k false c p.ops q.ops) here h.becomes);
  lighter = rw (weight-plan p, weight-plan q) h.lighter;
  no_longer = record { operators = h.no_longer; size = omega (arith, size-plan p, size-plan q, ap source_size same, h.no_larger) };
}

-- Operators up to a place.

not-some : {X : Type 0} (o : Option X) → o ≡ None → not (is_some o) ≡ true
not-some o e = rw e refl

drop-at : (ops : List Op) (i : ℕ) (d : Op) → i < length ops → drop i ops ≡ get_or ops i d ∷ drop (suc i) ops
drop-at [] i d lt = absurd (omega arith)
drop-at (o ∷ os) zero d lt = refl
drop-at (o ∷ os) (suc i) d lt = drop-at os i d (omega arith)

-- Where no rule fires at a place, and none in its operator, what is settled is what is settled behind it.
pub settled-next : (x : Op) (xs : List Op) (k : Known) (inside : Bool) (cs mid : List Column) → rule_at k cs (x ∷ xs) ≡ None → settled_op x k inside cs ≡ true → op_columns x k inside cs ≡ Some mid → settled_ops (x ∷ xs) k inside cs ≡ settled_ops xs k inside mid
settled-next x xs k inside cs mid e f g = settled-cons x xs k inside cs ∙ rw (e, f, g) refl

-- The arms of an operator.

pub join-arm : {E : Type 0} (o : Op) (j : JoinPlan) (p : Plan) (k : Known) (inside : Bool) (cs : List Column) (made : Option Plan) (r : Result (Option Op) E) → o ≡ V.Join j p → MatchOption made (settled_plan p k ≡ true) (λ q. PlanImproves k p q) → IfOk r (λ a. a ≡ option_map (λ q. V.Join j q) made) → IfOk r (OpFound o k inside cs)
join-arm o j p k inside cs made r e found h =
    IfOk-weaker r (λ a. a ≡ option_map (λ q. V.Join j q) made) (OpFound o k inside cs)
    (λ a same. subst (OpFound o k inside cs) (sym same) (subst (λ x. OpFound x k inside cs (option_map (λ q. V.Join j q) made)) (sym e) (join-found j p k inside cs made found))) h

pub union-arm : (o : Op) (inner : Bool) (ps now : List Plan) (k : Known) (inside : Bool) (cs : List Column) (made : Option (List Plan)) (a : Option Op) → o ≡ V.Union inner ps → now ≡ ps → MatchOption made (list_all (λ p. settled_plan p k) now ≡ true) (λ qs. PlansImprove k now qs) → a ≡ option_map (λ qs. V.Union inner qs) made → OpFound o k inside cs a
union-arm o inner ps now k inside cs made a e same found h =
    subst (OpFound o k inside cs) (sym h) (subst (λ x. OpFound x k inside cs (option_map (λ qs. V.Union inner qs) made)) (sym e)
    (union-found inner ps k inside cs made (subst (λ (xs : List Plan). MatchOption made (list_all (λ p. settled_plan p k) xs ≡ true) (λ qs. PlansImprove k xs qs)) same found)))

pub partition-arm : {E : Type 0} (o : Op) (c : List ℕ) (ops now : List Op) (k : Known) (inside : Bool) (cs : List Column) (made : Option (List Op)) (r : Result (Option Op) E) → o ≡ V.Partition c ops → now ≡ ops → OpsFound now k true cs made → IfOk r (λ a. a ≡ option_map (λ os. V.Partition c os) made) → IfOk r (OpFound o k inside cs)
partition-arm o c ops now k inside cs made r e same found h =
    IfOk-weaker r (λ a. a ≡ option_map (λ os. V.Partition c os) made) (OpFound o k inside cs)
    (λ a b. subst (OpFound o k inside cs) (sym b) (subst (λ x. OpFound x k inside cs (option_map (λ os. V.Partition c os) made)) (sym e) (partition-found c ops k inside cs made (subst (λ xs. OpsFound xs k true cs made) same found)))) h

-- The places of operators.

take-drop : (ops : List Op) (i : ℕ) → take i ops ++ drop i ops ≡ ops
take-drop ops zero = refl
take-drop [] (suc i) = refl
take-drop (o ∷ os) (suc i) = ap (λ xs. o ∷ xs) (take-drop os i)

pub one-more : (ops : List Op) (i : ℕ) (x : Op) → i < length ops → x ≡ get_or ops i x → drop i ops ≡ x ∷ drop (suc i) ops
one-more ops i x lt e = drop-at ops i x lt ∙ ap (λ y. y ∷ drop (suc i) ops) (sym e)

columns-at : (ops : List Op) (i : ℕ) (k : Known) (inside : Bool) (cs before : List Column) → ops_columns (take i ops) k inside cs ≡ Some before → ops_columns ops k inside cs ≡ ops_columns (drop i ops) k inside before
columns-at ops i k inside cs before e =
    ap (λ xs. ops_columns xs k inside cs) (sym (take-drop ops i)) ∙ (columns-append (take i ops) (drop i ops) k inside cs ∙ (ap (λ z. fold (after k inside) z (drop i ops)) e ∙ sym (ops-fold (drop i ops) k inside before)))

next-there : (x : Op) (xs : List Op) (k : Known) (inside : Bool) (before ds : List Column) (o : Option (List Column)) → op_columns x k inside before ≡ o → fold (after k inside) o xs ≡ Some ds → IsSome o
next-there x xs k inside before ds None e f = let none = lost k inside xs ds f in absurd cc
next-there x xs k inside before ds (Some mid) e f = refl

pub op-there : (ops : List Op) (i : ℕ) (x : Op) (k : Known) (inside : Bool) (cs before now : List Column) → i < length ops → x ≡ get_or ops i x → ops_columns (take i ops) k inside cs ≡ Some before → now ≡ before → IsSome (ops_columns ops k inside cs) → IsSome (op_columns x k inside now)
op-there ops i x k inside cs before now lt at e n h =
    let ds = there (ops_columns ops k inside cs) h in
    let behind : ops_columns (x ∷ drop (suc i) ops) k inside before ≡ Some ds.0 = ap (λ xs. ops_columns xs k inside before) (sym (one-more ops i x lt at)) ∙ (sym (columns-at ops i k inside cs before e) ∙ ds.1) in
    subst (λ c. IsSome (op_columns x k inside c)) (sym n)
    (next-there x (drop (suc i) ops) k inside before ds.0 (op_columns x k inside before) refl (ap (λ z. fold (after k inside) z (drop (suc i) ops)) (sym (after-some k inside before x)) ∙ (sym (ops-fold (x ∷ drop (suc i) ops) k inside before) ∙ behind)))

pub settled-on : (ops : List Op) (i : ℕ) (x : Op) (k : Known) (inside : Bool) (cs before mid : List Column) → i < length ops → x ≡ get_or ops i x → is_still (drop i ops) k inside before ≡ true → settled_op x k inside before ≡ true → op_columns x k inside before ≡ Some mid → settled_ops ops k inside cs ≡ settled_ops (drop i ops) k inside before → settled_ops ops k inside cs ≡ settled_ops (drop (i + 1) ops) k inside mid
settled-on ops i x k inside cs before mid lt at q s o h =
    let on : suc i ≡ i + 1 = omega arith in
    let quiet = still-rule k inside before x (drop (suc i) ops) (ap (λ xs. is_still xs k inside before) (sym (one-more ops i x lt at)) ∙ q) in
    h ∙ (ap (λ xs. settled_ops xs k inside before) (one-more ops i x lt at) ∙ (settled-next x (drop (suc i) ops) k inside before mid quiet s o ∙ ap (λ j. settled_ops (drop j ops) k inside mid) on))

pub settled-end : (ops : List Op) (i : ℕ) (k : Known) (inside : Bool) (cs before : List Column) → length ops ≤ i → settled_ops ops k inside cs ≡ settled_ops (drop i ops) k inside before → settled_ops ops k inside cs ≡ true
settled-end ops i k inside cs before h e = e ∙ (ap (λ xs. settled_ops xs k inside before) (drop-all ops i h) ∙ settled-nil k inside before)
  where
    drop-all : (xs : List Op) (j : ℕ) → length xs ≤ j → drop j xs ≡ []
    drop-all [] zero g = refl
    drop-all [] (suc j) g = refl
    drop-all (x ∷ xs) zero g = absurd (omega arith)
    drop-all (x ∷ xs) (suc j) g = drop-all xs j (omega arith)

-- What is found, where it is known whether there is something.

pub found-none : {X : Type 0} (o : Option X) (P : Type 0) (Q : X → Type 0) → MatchOption o P Q → o ≡ None → P
found-none None P Q h e = h
found-none (Some x) P Q h e = absurd cc

pub found-some : {X : Type 0} (o : Option X) (P : Type 0) (Q : X → Type 0) (x : X) → MatchOption o P Q → o ≡ Some x → Q x
found-some None P Q x h e = absurd cc
found-some (Some y) P Q x h e = let same : y ≡ x = cc in subst Q same h

pub plan-ops-now : (p : Plan) (k : Known) (cs now : List Column) (ops : List Op) → source_columns p.source k ≡ Some cs → ops ≡ p.ops → now ≡ cs → IsSome (plan_columns p k) → IsSome (ops_columns ops k false now)
plan-ops-now p k cs now ops e a b h = subst (λ xs. IsSome (ops_columns xs k false now)) (sym a) (subst (λ c. IsSome (ops_columns p.ops k false c)) (sym b) (plan-ops-fit p k cs e h))

pub plan-none-now : (p : Plan) (k : Known) (cs now : List Column) (ops : List Op) (o : Option (List Op)) → source_columns p.source k ≡ Some cs → ops ≡ p.ops → now ≡ cs → OpsFound ops k false now o → o ≡ None → settled_plan p k ≡ true
plan-none-now p k cs now ops o e a b h n =
    plan-settled p k cs e (ap₂ (λ xs c. settled_ops xs k false c) (sym a) (sym b) ∙ found-none o (settled_ops ops k false now ≡ true) (λ os. Improves k false now ops os) h n)

pub plan-some-now : EachSourceKeeps → (p q : Plan) (k : Known) (cs now : List Column) (ops : List Op) (o : Option (List Op)) → source_columns p.source k ≡ Some cs → ops ≡ p.ops → now ≡ cs → OpsFound ops k false now o → o ≡ Some q.ops → q.source ≡ p.source → PlanImproves k p q
plan-some-now each p q k cs now ops o e a b h n same =
    plan-improves each k p q cs (sym same) e (subst (λ xs. Improves k false cs xs q.ops) a (subst (λ c. Improves k false c ops q.ops) b (found-some o (settled_ops ops k false now ≡ true) (λ os. Improves k false now ops os) q.ops h n)))

-- One turn of the loop, whose calls each have a view of the element and of the columns.
pub turn-columns : (ops : List Op) (i : ℕ) (x : Op) (k : Known) (inside : Bool) (cs before now mid : List Column) → i < length ops → x ≡ get_or ops i x → now ≡ before → ops_columns (take i ops) k inside cs ≡ Some before → op_columns x k inside now ≡ Some mid → ops_columns (take (i + 1) ops) k inside cs ≡ Some mid
turn-columns ops i x k inside cs before now mid lt at n e o =
    ops-more ops k inside cs i x before (Some mid) lt e (sym o ∙ ap₂ (λ y c. op_columns y k inside c) at n)

pub turn-still : (ops : List Op) (i : ℕ) (y : Op) (k : Known) (inside : Bool) (before now mid : List Column) → i < length ops → y ≡ get_or ops i y → now ≡ before → op_columns y k inside now ≡ Some mid → is_still (drop i ops) k inside before ≡ true → is_still (drop (i + 1) ops) k inside mid ≡ true
turn-still ops i y k inside before now mid lt at n o q =
    let on : i + 1 ≡ suc i = omega arith in
    ap (λ j. is_still (drop j ops) k inside mid) on ∙ still-rest k inside before mid y (drop (suc i) ops) (ap (λ c. op_columns y k inside c) (sym n) ∙ o) (ap (λ xs. is_still xs k inside before) (sym (one-more ops i y lt at)) ∙ q)
