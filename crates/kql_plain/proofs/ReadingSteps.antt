-- Marks of lets, and which lets operators and plans name.
use Rattle.std.proofs.Common.{◌≡◌, ◌<◌, ◌≤◌, ◌+◌, ℕ, zero, suc, Bool, true, false, List, [], ◌∷◌, ◌++◌, drop, get_or, length, map, replicate, reverse, set, take, refl, sym, ap, ap₂, ◌∙◌, inl, inr, arith, rules}
use Rattle.std.specs.Prelude.{not, nat_le, ◌==◌, ◌||◌}
use Rattle.std.specs.List.{list_any}
use Rattle.std.proofs.lemmas.Bool.{cases_Bool, cases_eq, cases_lt, eq-eqb, eqb-true, le-leb, lt-leb, ne_eqb}
use Rattle.std.proofs.lemmas.List.{drop_all, drop_more, get_or-replicate, get_or-set_other, get_or-set_same, get_or_past, length-replicate, reverse-append}
use Rattle.std.proofs.lemmas.List.Folds.{list_any_more}
use Rattle.kql_bound.specs.declared.expr.BExpr.{BExpr}
use Rattle.kql_bound.specs.declared.parts.BItem.{BItem}
use Rattle.kql_bound.specs.declared.parts.BKey.{BKey}
use Rattle.kql_bound.specs.declared.parts.Expand.{Expand}
use Rattle.kql_bound.specs.declared.parts.GroupPlan.{GroupPlan}
use Rattle.kql_bound.specs.declared.parts.JoinPlan.{JoinPlan}
use Rattle.kql_bound.specs.declared.parts.ParsePlan.{ParsePlan}
use Rattle.kql_bound.specs.declared.parts.ScanPlan.{ScanPlan}
use Rattle.kql_bound.specs.declared.parts.SeriesPlan.{SeriesPlan}
use Rattle.kql_bound.specs.declared.plan.Op.{Op, fold_out-Op, out-Op, the_lemmas}
use Rattle.kql_bound.specs.declared.plan.Op.TheFolds.{map-Op}
use Rattle.kql_bound.specs.declared.plan.Op.TheOpen.{Op-F}
use Rattle.kql_bound.specs.declared.plan.Op.TheVariants as V
use Rattle.kql_bound.specs.declared.plan.Plan.{Plan, fold_out-Plan}
use Rattle.kql_bound.specs.declared.plan.Source.{Source}
use Rattle.kql_bound.specs.declared.plan.Source.TheVariants as source
use Rattle.kql_plain.specs.Readings.{is_let_not, last_readings, op_names, op_names_step, ops_name, plan_names, plan_names_step, plans_name, reads_last, source_names}

-- Either of two tests.

pub or-none : (a : Bool) → (a || false) ≡ a
or-none true = refl
or-none false = refl

pub or-assoc : (a b c : Bool) → ((a || b) || c) ≡ (a || (b || c))
or-assoc true b c = refl
or-assoc false b c = refl

or-turn : (b c : Bool) → (b || c) ≡ (c || b)
or-turn true true = refl
or-turn true false = refl
or-turn false true = refl
or-turn false false = refl

-- Marks.

pub one-marked : (marks : List Bool) (k i : ℕ) → k < length marks → get_or (set marks k true) i true ≡ (get_or marks i true || k == i)
one-marked marks k i lt = elim (cases_eq k i) [
  | inl same ↦
      let here : get_or (set marks k true) i true ≡ true = ap (λ (m : ℕ). get_or (set marks k true) m true) (sym same) ∙ get_or-set_same marks k true true lt in
      here ∙ sym (ap (λ (b : Bool). get_or marks i true || b) (eq-eqb k i same) ∙ or-turn (get_or marks i true) true)
  | inr other ↦ get_or-set_other marks k i true true (λ e. other (sym e)) ∙ sym (ap (λ (b : Bool). get_or marks i true || b) (ne_eqb k i other) ∙ or-none (get_or marks i true))
]

past-marks : (marks : List Bool) (k : ℕ) → length marks ≤ k → get_or marks k true ≡ true
past-marks [] k le = refl
past-marks (b ∷ bs) zero le = absurd (omega arith)
past-marks (b ∷ bs) (suc k) le = past-marks bs k (omega arith)

pub none-marked : (marks : List Bool) (k i : ℕ) → length marks ≤ k → get_or marks i true ≡ (get_or marks i true || k == i)
none-marked marks k i le = elim (cases_Bool (k == i)) [
  | inl y ↦ let here : get_or marks i true ≡ true = past-marks marks i (omega (arith, le, eqb-true k i y)) in here ∙ sym (ap (λ (b : Bool). b || k == i) here)
  | inr n ↦ sym (ap (λ (b : Bool). get_or marks i true || b) n ∙ or-none (get_or marks i true))
]

pub not-past : (marks : List Bool) (k : ℕ) → length marks ≤ k → false ≡ not (get_or marks k true)
not-past marks k le = sym (ap not (past-marks marks k le))

pub ruleset mark_steps = (one-marked, none-marked, not-past, or-none)

-- What operators name, variant by variant.

names : (i : ℕ) (o : Op) (f : Op-F Op Plan) → out-Op o ≡ f → op_names i o ≡ op_names_step (map-Op Op Plan Bool Bool (op_names i) (plan_names i) f)
unfolding op_names plan_names
names i o f e = fold_out-Op Bool Bool op_names_step (plan_names_step i) o ∙ ap (λ (g : Op-F Op Plan). op_names_step (map-Op Op Plan Bool Bool (op_names i) (plan_names i) g)) e

nothing : (i : ℕ) (marks : List Bool) (o p : Op) → o ≡ p → op_names i p ≡ false → get_or marks i true ≡ (get_or marks i true || op_names i o)
nothing i marks o p is none = sym (ap (λ (b : Bool). get_or marks i true || b) (ap (op_names i) is ∙ none) ∙ or-none (get_or marks i true))

pub in-Where : (i : ℕ) (marks : List Bool) (o : Op) (e : BExpr) → o ≡ V.Where e → get_or marks i true ≡ (get_or marks i true || op_names i o)
in-Where i marks o e is = nothing i marks o (V.Where e) is (names i (V.Where e) (Op-F.Where e) (search (rules, the_lemmas)))

pub in-Extend : (i : ℕ) (marks : List Bool) (o : Op) (items : List BItem) → o ≡ V.Extend items → get_or marks i true ≡ (get_or marks i true || op_names i o)
in-Extend i marks o items is = nothing i marks o (V.Extend items) is (names i (V.Extend items) (Op-F.Extend items) (search (rules, the_lemmas)))

pub in-Project : (i : ℕ) (marks : List Bool) (o : Op) (items : List BItem) → o ≡ V.Project items → get_or marks i true ≡ (get_or marks i true || op_names i o)
in-Project i marks o items is = nothing i marks o (V.Project items) is (names i (V.Project items) (Op-F.Project items) (search (rules, the_lemmas)))

pub in-Take : (i : ℕ) (marks : List Bool) (o : Op) (n : ℕ) → o ≡ V.Take n → get_or marks i true ≡ (get_or marks i true || op_names i o)
in-Take i marks o n is = nothing i marks o (V.Take n) is (names i (V.Take n) (Op-F.Take n) (search (rules, the_lemmas)))

pub in-Count : (i : ℕ) (marks : List Bool) (o : Op) → o ≡ V.Count → get_or marks i true ≡ (get_or marks i true || op_names i o)
in-Count i marks o is = nothing i marks o V.Count is (names i V.Count Op-F.Count (search (rules, the_lemmas)))

pub in-Serialize : (i : ℕ) (marks : List Bool) (o : Op) → o ≡ V.Serialize → get_or marks i true ≡ (get_or marks i true || op_names i o)
in-Serialize i marks o is = nothing i marks o V.Serialize is (names i V.Serialize Op-F.Serialize (search (rules, the_lemmas)))

pub in-Sort : (i : ℕ) (marks : List Bool) (o : Op) (keys : List BKey) → o ≡ V.Sort keys → get_or marks i true ≡ (get_or marks i true || op_names i o)
in-Sort i marks o keys is = nothing i marks o (V.Sort keys) is (names i (V.Sort keys) (Op-F.Sort keys) (search (rules, the_lemmas)))

pub in-Top : (i : ℕ) (marks : List Bool) (o : Op) (n : ℕ) (keys : List BKey) → o ≡ V.Top n keys → get_or marks i true ≡ (get_or marks i true || op_names i o)
in-Top i marks o n keys is = nothing i marks o (V.Top n keys) is (names i (V.Top n keys) (Op-F.Top n keys) (search (rules, the_lemmas)))

pub in-Summarize : (i : ℕ) (marks : List Bool) (o : Op) (g : GroupPlan) → o ≡ V.Summarize g → get_or marks i true ≡ (get_or marks i true || op_names i o)
in-Summarize i marks o g is = nothing i marks o (V.Summarize g) is (names i (V.Summarize g) (Op-F.Summarize g) (search (rules, the_lemmas)))

pub in-MakeSeries : (i : ℕ) (marks : List Bool) (o : Op) (s : SeriesPlan) → o ≡ V.MakeSeries s → get_or marks i true ≡ (get_or marks i true || op_names i o)
in-MakeSeries i marks o s is = nothing i marks o (V.MakeSeries s) is (names i (V.MakeSeries s) (Op-F.MakeSeries s) (search (rules, the_lemmas)))

pub in-MvExpand : (i : ℕ) (marks : List Bool) (o : Op) (x : Expand) → o ≡ V.MvExpand x → get_or marks i true ≡ (get_or marks i true || op_names i o)
in-MvExpand i marks o x is = nothing i marks o (V.MvExpand x) is (names i (V.MvExpand x) (Op-F.MvExpand x) (search (rules, the_lemmas)))

pub in-Parse : (i : ℕ) (marks : List Bool) (o : Op) (p : ParsePlan) → o ≡ V.Parse p → get_or marks i true ≡ (get_or marks i true || op_names i o)
in-Parse i marks o p is = nothing i marks o (V.Parse p) is (names i (V.Parse p) (Op-F.Parse p) (search (rules, the_lemmas)))

pub in-Scan : (i : ℕ) (marks : List Bool) (o : Op) (s : ScanPlan) → o ≡ V.Scan s → get_or marks i true ≡ (get_or marks i true || op_names i o)
in-Scan i marks o s is = nothing i marks o (V.Scan s) is (names i (V.Scan s) (Op-F.Scan s) (search (rules, the_lemmas)))

pub ruleset op_steps = (in-Where, in-Extend, in-Project, in-Take, in-Count, in-Serialize, in-Sort, in-Top, in-Summarize, in-MakeSeries, in-MvExpand, in-Parse, in-Scan)

each-is : {X : Type 0} (p : X → Bool) (xs : List X) → list_any (λ (b : Bool). b) (map p xs) ≡ list_any p xs
each-is p [] = refl
each-is p (x ∷ xs) = ap (λ (b : Bool). p x || b) (each-is p xs)

pub names-Join : (i : ℕ) (j : JoinPlan) (right : Plan) → op_names i (V.Join j right) ≡ plan_names i right
names-Join i j right = names i (V.Join j right) (Op-F.Join j right) (search (rules, the_lemmas))

pub names-Union : (i : ℕ) (inner : Bool) (others : List Plan) → op_names i (V.Union inner others) ≡ plans_name i others
names-Union i inner others = names i (V.Union inner others) (Op-F.Union inner others) (search (rules, the_lemmas)) ∙ each-is (plan_names i) others

pub names-Partition : (i : ℕ) (column : List ℕ) (ops : List Op) → op_names i (V.Partition column ops) ≡ ops_name i ops
names-Partition i column ops = names i (V.Partition column ops) (Op-F.Partition column ops) (search (rules, the_lemmas)) ∙ each-is (op_names i) ops

pub names-plan : (i : ℕ) (p : Plan) → plan_names i p ≡ (ops_name i p.ops || source_names i p.source)
unfolding op_names plan_names
names-plan i p = fold_out-Plan Bool Bool op_names_step (plan_names_step i) p ∙ ap (λ (b : Bool). b || source_names i p.source) (each-is (op_names i) p.ops)

-- The lets that a part names are marked as those of the whole.

pub part-marked : (i : ℕ) (marks new : List Bool) (part whole : Bool) → get_or new i true ≡ (get_or marks i true || part) → whole ≡ part → get_or new i true ≡ (get_or marks i true || whole)
part-marked i marks new part whole marked same = marked ∙ ap (λ (b : Bool). get_or marks i true || b) (sym same)

pub more-marked : {X : Type 0} (p : X → Bool) (xs : List X) (k : ℕ) (x : X) (start before after : Bool) → k < length xs → x ≡ get_or xs k x → before ≡ (start || list_any p (take k xs)) → after ≡ (before || p x) → after ≡ (start || list_any p (take (k + 1) xs))
more-marked p xs k x start before after lt is invariant marked =
    marked
    ∙ (ap₂ (λ (a b : Bool). a || b) invariant (ap p is)
    ∙ (or-assoc start (list_any p (take k xs)) (p (get_or xs k x)) ∙ ap (λ (b : Bool). start || b) (sym (list_any_more p xs k x lt))))

-- A let that a test does not hold of, by tests that agree.

pub same-test : (f g : ℕ → Bool) (s : Source) → ((i : ℕ) → f i ≡ g i) → is_let_not f s ≡ is_let_not g s
unfolding is_let_not
same-test f g (source.Table name) same = refl
same-test f g (source.Let i) same = ap not (same i)
same-test f g (source.Range column from to step) same = refl
same-test f g (source.Print items) same = refl

-- A plan: its operators, and then its source.

pub parts-marked : (i : ℕ) (p : Plan) (ops : List Op) (start mid new : Bool) → ops ≡ p.ops → mid ≡ (start || ops_name i ops) → new ≡ (mid || source_names i p.source) → new ≡ (start || plan_names i p)
parts-marked i p ops start mid new same by_ops by_source =
    by_source
    ∙ (ap (λ (b : Bool). b || source_names i p.source) (by_ops ∙ ap (λ (os : List Op). start || ops_name i os) same)
    ∙ (or-assoc start (ops_name i p.ops) (source_names i p.source) ∙ ap (λ (b : Bool). start || b) (sym (names-plan i p))))

pub parts-last : (p : Plan) (ops : List Op) (start mid : ℕ → Bool) (flag : Bool) → ops ≡ p.ops → ((i : ℕ) → mid i ≡ (start i || ops_name i ops)) → flag ≡ is_let_not mid p.source → flag ≡ is_let_not (λ i. start i || ops_name i p.ops) p.source
parts-last p ops start mid flag same by_ops last =
    last ∙ same-test mid (λ i. start i || ops_name i p.ops) p.source (λ i. by_ops i ∙ ap (λ (os : List Op). start i || ops_name i os) same)

-- The marks of the plans of a program, from the last plan on.

unmarked : (n i : ℕ) → get_or (replicate n false) i true ≡ nat_le n i
unmarked n i = elim (cases_lt i n) [
  | inl lt ↦ get_or-replicate n i false true lt ∙ sym (lt-leb n i lt)
  | inr le ↦ get_or_past (replicate n false) i true (omega (arith, le, length-replicate n false)) ∙ sym (le-leb n i le)
]

pub none-behind : (n i : ℕ) → get_or (replicate n false) i true ≡ (nat_le n i || plans_name i [])
none-behind n i = unmarked n i ∙ sym (or-none (nat_le n i))

pub plan-marked : (n i : ℕ) (p : Plan) (behind plans : List Plan) (old new : Bool) → plans ≡ p ∷ behind → old ≡ (nat_le n i || plans_name i behind) → new ≡ (old || plan_names i p) → new ≡ (nat_le n i || plans_name i plans)
plan-marked n i p behind plans old new is before marked =
    marked
    ∙ (ap (λ (b : Bool). b || plan_names i p) before
    ∙ (or-assoc (nat_le n i) (plans_name i behind) (plan_names i p)
    ∙ (ap (λ (b : Bool). nat_le n i || b) (or-turn (plans_name i behind) (plan_names i p)) ∙ sym (ap (λ (ps : List Plan). nat_le n i || plans_name i ps) is))))

is-last : (n : ℕ) (p : Plan) (behind : List Plan) (old : ℕ → Bool) → ((i : ℕ) → old i ≡ (nat_le n i || plans_name i behind)) → is_let_not (λ i. old i || ops_name i p.ops) p.source ≡ reads_last n p behind
unfolding reads_last
is-last n p behind old before =
    same-test (λ i. old i || ops_name i p.ops) (λ i. nat_le n i || (ops_name i p.ops || plans_name i behind)) p.source
    (λ i. ap (λ (b : Bool). b || ops_name i p.ops) (before i) ∙ (or-assoc (nat_le n i) (plans_name i behind) (ops_name i p.ops) ∙ ap (λ (b : Bool). nat_le n i || b) (or-turn (plans_name i behind) (ops_name i p.ops))))

pub one-more-plan : (n : ℕ) (p : Plan) (ps : List Plan) → last_readings n (p ∷ ps) ≡ reads_last n p ps ∷ last_readings n ps
unfolding last_readings
one-more-plan n p ps = refl

pub no-plans : (n : ℕ) → last_readings n [] ≡ []
unfolding last_readings
no-plans n = refl

pub flag-pushed : (n : ℕ) (p : Plan) (behind plans : List Plan) (old : ℕ → Bool) (flag : Bool) (flags new : List Bool) → plans ≡ p ∷ behind → ((i : ℕ) → old i ≡ (nat_le n i || plans_name i behind)) → flag ≡ is_let_not (λ i. old i || ops_name i p.ops) p.source → reverse flags ≡ last_readings n behind → new ≡ flags ++ flag ∷ [] → reverse new ≡ last_readings n plans
flag-pushed n p behind plans old flag flags new is before last rest pushed =
    ap reverse pushed
    ∙ (reverse-append flags (flag ∷ [])
    ∙ (ap₂ (λ (b : Bool) (bs : List Bool). b ∷ bs) (last ∙ is-last n p behind old before) rest ∙ (sym (one-more-plan n p behind) ∙ ap (last_readings n) (sym is))))

-- The lets that are left and the plan behind them.

pub one-let-more : (lets : List Plan) (main p : Plan) (left before : ℕ) → before ≡ left + 1 → left < length lets → p ≡ get_or lets left p → drop left lets ++ main ∷ [] ≡ p ∷ (drop before lets ++ main ∷ [])
one-let-more lets main p left before next lt is =
    ap (λ (ps : List Plan). ps ++ main ∷ []) (drop_more lets left p lt)
    ∙ (ap (λ (q : Plan). (q ∷ drop (left + 1) lets) ++ main ∷ []) (sym is) ∙ ap (λ (k : ℕ). p ∷ (drop k lets ++ main ∷ [])) (sym next))

pub main-alone : (lets : List Plan) (main : Plan) (left : ℕ) → length lets ≤ left → drop left lets ++ main ∷ [] ≡ main ∷ []
main-alone lets main left le = ap (λ (ps : List Plan). ps ++ main ∷ []) (drop_all left lets le)

pub all-flags : (n left : ℕ) (lets : List Plan) (main : Plan) (flags : List Bool) → left ≤ 0 → reverse flags ≡ last_readings n (drop left lets ++ main ∷ []) → reverse flags ≡ last_readings n (lets ++ main ∷ [])
all-flags n zero lets main flags le e = e
all-flags n (suc left) lets main flags le e = absurd (omega arith)
