-- What the search goes by among the plans of a union, and among the lets of a program.
use Rattle.std.proofs.Common.{◌≡◌, ◌≤◌, ◌<◌, ◌+◌, ℕ, zero, suc, Bool, true, false, List, [], ◌∷◌, ◌++◌, take, drop, length, get_or, map, refl, sym, ap, ap₂, ◌∙◌, subst, inl, inr, arith, rules}
use Rattle.std.specs.Prelude.{◌&&◌, IsSome, MatchOption, None, Option, Some, fold, option_and_then, option_map}
use Rattle.std.specs.List.{list_all}
use Rattle.std.proofs.lemmas.List.Sums.{fold_more}
use Rattle.kql_cells.specs.declared.schemas.NamedSchema.{NamedSchema}
use Rattle.kql_cells.specs.declared.schema.Column.{Column}
use Rattle.kql_bound.specs.declared.plan.Plan.{Plan}
use Rattle.kql_bound.specs.declared.plan.Program.{Program}
use Rattle.kql_meaning.specs.Fits.{Known, known_of, let_after, lets_columns, plan_columns, plans_columns, program_columns}
use Rattle.kql_meaning.proofs.OperatorFitLaws.{lets-more, lets-none, plans-none}
use Rattle.kql_fit_laws.specs.LawsOfOperators.{EachPlanKeeps}
use Rattle.plan_rules.proofs.Programs.{main-columns, program-becomes}
use Rattle.plan_rules.proofs.Sizes.{add-small}
use Rattle.plan_rules.proofs.Weights.{lighter-before, lighter-behind, order-append}
use Rattle.plan_rules.specs.Becomes.{EachBecomes, LetsBecome, PlanBecomes, ProgramBecomes}
use Rattle.plan_rules.specs.Improves.{AreNoLonger, IsNoLonger, PlanImproves, PlanIsNoLonger, PlansImprove, ProgramImproves}
use Rattle.plan_rules.specs.Size.{plan_size, plans_size}
use Rattle.plan_push.specs.Settled.{if_known, is_quiet, lets_settled, settled_plan}
use Rattle.plan_rules.specs.Weight.{IsLighter, Weight, and_then, in_order, plan_weight, program_weight}
use Rattle.plan_push.proofs.DriveSteps.{found-none, found-some, none-there, there}

-- A plan in the place of another.
abbrev pub with_at : List Plan → ℕ → Plan → List Plan
with_at ps i q = take i ps ++ q ∷ drop (i + 1) ps

plan-same : (k : Known) (p : Plan) → PlanBecomes k p p
plan-same k p = record { keeps = λ ds e. (e, λ w s. refl) }

each-same : (k : Known) (ps : List Plan) → EachBecomes k ps ps
each-same k [] = tt
each-same k (p ∷ ps) = (plan-same k p, each-same k ps)

-- `drop (i + 1)` goes by `suc`.
with-cons : (p : Plan) (ps : List Plan) (i : ℕ) (q : Plan) → with_at (p ∷ ps) (suc i) q ≡ p ∷ with_at ps i q
with-cons p ps i q = let e : suc i + 1 ≡ suc (i + 1) = omega arith in ap (λ j. p ∷ (take i ps ++ q ∷ drop j (p ∷ ps))) e

with-first : (p : Plan) (ps : List Plan) (q : Plan) → with_at (p ∷ ps) zero q ≡ q ∷ ps
with-first p ps q = let e : zero + 1 ≡ suc zero = omega arith in ap (λ j. q ∷ drop j (p ∷ ps)) e

each-with : (k : Known) (ps : List Plan) (i : ℕ) (x q : Plan) → i < length ps → x ≡ get_or ps i x → PlanBecomes k x q → EachBecomes k ps (with_at ps i q)
each-with k [] i x q lt e h = absurd (omega arith)
each-with k (p ∷ ps) zero x q lt e h = subst (EachBecomes k (p ∷ ps)) (sym (with-first p ps q)) (subst (λ z. PlanBecomes k z q) e h, each-same k ps)
each-with k (p ∷ ps) (suc i) x q lt e h = subst (EachBecomes k (p ∷ ps)) (sym (with-cons p ps i q)) (plan-same k p, each-with k ps i x q (omega arith) e h)

abbrev weights : List Plan → Weight
weights ps = in_order (map plan_weight ps)

lighter-with : (ps : List Plan) (i : ℕ) (x q : Plan) → i < length ps → x ≡ get_or ps i x → IsLighter (plan_weight q) (plan_weight x) → IsLighter (weights (with_at ps i q)) (weights ps)
lighter-with [] i x q lt e h = absurd (omega arith)
lighter-with (p ∷ ps) zero x q lt e h =
    subst (λ zs. IsLighter (weights zs) (weights (p ∷ ps))) (sym (with-first p ps q)) (lighter-before (plan_weight q) (plan_weight p) (weights ps) (subst (λ z. IsLighter (plan_weight q) (plan_weight z)) e h))
lighter-with (p ∷ ps) (suc i) x q lt e h =
    subst (λ zs. IsLighter (weights zs) (weights (p ∷ ps))) (sym (with-cons p ps i q)) (lighter-behind (weights (with_at ps i q)) (weights ps) (plan_weight p) (lighter-with ps i x q (omega arith) e h))

larger-with : (ps : List Plan) (i : ℕ) (x q : Plan) → i < length ps → x ≡ get_or ps i x → plan_size q ≤ plan_size x → plans_size (with_at ps i q) ≤ plans_size ps
larger-with [] i x q lt e h = absurd (omega arith)
larger-with (p ∷ ps) zero x q lt e h = subst (λ zs. plans_size zs ≤ plans_size (p ∷ ps)) (sym (with-first p ps q)) (add-small (plan_size q) (plan_size p) (plans_size ps) (plans_size ps) (subst (λ (z : Plan). plan_size q ≤ plan_size z) e h) (omega arith))
larger-with (p ∷ ps) (suc i) x q lt e h = subst (λ zs. plans_size zs ≤ plans_size (p ∷ ps)) (sym (with-cons p ps i q)) (add-small (plan_size p) (plan_size p) (plans_size (with_at ps i q)) (plans_size ps) (omega arith) (larger-with ps i x q (omega arith) e h))

pub plans-with : (k : Known) (ps all : List Plan) (i : ℕ) (x q : Plan) → i < length ps → x ≡ get_or ps i x → PlanImproves k x q → all ≡ with_at ps i q → PlansImprove k ps all
plans-with k ps all i x q lt e h a = subst (PlansImprove k ps) (sym a) (record {
  becomes = each-with k ps i x q lt e h.becomes;
  lighter = lighter-with ps i x q lt e h.lighter;
  no_larger = larger-with ps i x q lt e h.no_longer.size;
})

pub plan-there : (ps : List Plan) (k : Known) (i : ℕ) (x : Plan) → i < length ps → x ≡ get_or ps i x → IsSome (plans_columns ps k) → IsSome (plan_columns x k)
plan-there ps k i x lt e h = by (plan_columns x k) refl
  where
    by : (o : Option (List Column)) → plan_columns x k ≡ o → IsSome o
    by None f = absurd (none-there (plans_columns ps k) (plans-none ps k i x lt (ap (λ p. plan_columns p k) (sym e) ∙ f)) h)
    by (Some cs) f = refl

pub plans-turn : (ps : List Plan) (k : Known) (i : ℕ) (x : Plan) → i < length ps → x ≡ get_or ps i x → settled_plan x k ≡ true → list_all (λ p. settled_plan p k) (drop i ps) ≡ list_all (λ p. settled_plan p k) (drop (i + 1) ps)
plans-turn [] k i x lt e s = absurd (omega arith)
plans-turn (p ∷ ps) k zero x lt e s =
    let n : zero + 1 ≡ suc zero = omega arith in
    let here : settled_plan p k ≡ true = ap (λ y. settled_plan y k) (sym e) ∙ s in
    rw here (ap (λ j. list_all (λ p. settled_plan p k) (drop j (p ∷ ps))) (sym n))
plans-turn (p ∷ ps) k (suc i) x lt e s =
    let n : suc i + 1 ≡ suc (i + 1) = omega arith in
    plans-turn ps k i x (omega arith) e s ∙ ap (λ j. list_all (λ p. settled_plan p k) (drop j (p ∷ ps))) (sym n)

pub plans-end : (ps : List Plan) (k : Known) (i : ℕ) → length ps ≤ i → list_all (λ p. settled_plan p k) (drop i ps) ≡ true
plans-end [] k zero h = refl
plans-end [] k (suc i) h = refl
plans-end (p ∷ ps) k zero h = absurd (omega arith)
plans-end (p ∷ ps) k (suc i) h = plans-end ps k i (omega arith)

-- Lets.

lets-same : (tables : List NamedSchema) (ls : List (List Column)) (ps : List Plan) → LetsBecome tables ls ps ps
lets-same tables ls [] = tt
lets-same tables ls (p ∷ ps) = (plan-same (known_of tables ls) p, λ c e. lets-same tables (ls ++ c ∷ []) ps)

-- The lets before a place have these columns.
abbrev columns_from : List NamedSchema → List (List Column) → List Plan → Option (List (List Column))
columns_from tables ls ps = fold (let_after tables) (Some ls) ps

lost-lets : (tables : List NamedSchema) (ps : List Plan) → fold (let_after tables) None ps ≡ None
unfolding let_after
lost-lets tables [] = refl
lost-lets tables (p ∷ ps) = lost-lets tables ps

from-next : (tables : List NamedSchema) (ls ms : List (List Column)) (p : Plan) (ps : List Plan) (c : List Column) → plan_columns p (known_of tables ls) ≡ Some c → columns_from tables ls (p ∷ ps) ≡ Some ms → columns_from tables (ls ++ c ∷ []) ps ≡ Some ms
unfolding let_after
from-next tables ls ms p ps c e f = ap (λ (o : Option (List Column)). fold (let_after tables) (option_map (λ d. ls ++ d ∷ []) o) ps) (sym e) ∙ f

lets-with : (tables : List NamedSchema) (ps : List Plan) (i : ℕ) (x q : Plan) (ls ms : List (List Column)) → i < length ps → x ≡ get_or ps i x → columns_from tables ls (take i ps) ≡ Some ms → PlanBecomes (known_of tables ms) x q → LetsBecome tables ls ps (with_at ps i q)
lets-with tables [] i x q ls ms lt e f h = absurd (omega arith)
lets-with tables (p ∷ ps) zero x q ls ms lt e f h =
    let same : ls ≡ ms = cc in
    subst (LetsBecome tables ls (p ∷ ps)) (sym (with-first p ps q)) (subst (λ z. PlanBecomes (known_of tables ls) z q) e (subst (λ l. PlanBecomes (known_of tables l) x q) (sym same) h), λ c g. lets-same tables (ls ++ c ∷ []) ps)
lets-with tables (p ∷ ps) (suc i) x q ls ms lt e f h =
    subst (LetsBecome tables ls (p ∷ ps)) (sym (with-cons p ps i q)) (plan-same (known_of tables ls) p, λ c g. lets-with tables ps i x q (ls ++ c ∷ []) ms (omega arith) e (from-next tables ls ms p (take i ps) c g f) h)

-- And what is settled of them.
pub lets-turn : (tables : List NamedSchema) (ps : List Plan) (i : ℕ) (x : Plan) (ls : List (List Column)) (c : List Column) → i < length ps → x ≡ get_or ps i x → settled_plan x (known_of tables ls) ≡ true → plan_columns x (known_of tables ls) ≡ Some c → lets_settled tables ls (drop i ps) ≡ lets_settled tables (ls ++ c ∷ []) (drop (i + 1) ps)
lets-turn tables [] i x ls c lt e s g = absurd (omega arith)
lets-turn tables (p ∷ ps) zero x ls c lt e s g =
    let n : zero + 1 ≡ suc zero = omega arith in
    let here : settled_plan p (known_of tables ls) ≡ true = ap (λ y. settled_plan y (known_of tables ls)) (sym e) ∙ s in
    let known : plan_columns p (known_of tables ls) ≡ Some c = ap (λ y. plan_columns y (known_of tables ls)) (sym e) ∙ g in
    rw (here, known) (ap (λ j. lets_settled tables (ls ++ c ∷ []) (drop j (p ∷ ps))) (sym n))
lets-turn tables (p ∷ ps) (suc i) x ls c lt e s g =
    let n : suc i + 1 ≡ suc (i + 1) = omega arith in
    lets-turn tables ps i x ls c (omega arith) e s g ∙ ap (λ j. lets_settled tables (ls ++ c ∷ []) (drop j (p ∷ ps))) (sym n)

lets-end : (tables : List NamedSchema) (ps : List Plan) (i : ℕ) (ls : List (List Column)) → length ps ≤ i → lets_settled tables ls (drop i ps) ≡ true
lets-end tables [] zero ls h = refl
lets-end tables [] (suc i) ls h = refl
lets-end tables (p ∷ ps) zero ls h = absurd (omega arith)
lets-end tables (p ∷ ps) (suc i) ls h = lets-end tables ps i ls (omega arith)

take-all : (ps : List Plan) (n : ℕ) → length ps ≤ n → take n ps ≡ ps
take-all [] zero h = refl
take-all [] (suc n) h = refl
take-all (p ∷ ps) zero h = absurd (omega arith)
take-all (p ∷ ps) (suc n) h = ap (λ xs. p ∷ xs) (take-all ps n (omega arith))

-- Programs.

lets-there : (p : Program) → IsSome (program_columns p) → IsSome (lets_columns p.lets p.tables)
unfolding program_columns
lets-there p h = by (lets_columns p.lets p.tables) refl h
  where
    by : (o : Option (List (List Column))) → lets_columns p.lets p.tables ≡ o → IsSome (option_and_then (λ ls. plan_columns p.main (known_of p.tables ls)) o) → IsSome o
    by None e f = absurd cc
    by (Some ls) e f = refl

pub main-there : (p : Program) (ls : List (List Column)) → lets_columns p.lets p.tables ≡ Some ls → IsSome (program_columns p) → IsSome (plan_columns p.main (known_of p.tables ls))
unfolding program_columns
main-there p ls e h = subst (λ o. IsSome (option_and_then (λ ls. plan_columns p.main (known_of p.tables ls)) o)) e h

pub let-there : (p : Program) (i : ℕ) (x : Plan) (ls : List (List Column)) → i < length p.lets → x ≡ get_or p.lets i x → lets_columns (take i p.lets) p.tables ≡ Some ls → IsSome (program_columns p) → IsSome (plan_columns x (known_of p.tables ls))
let-there p i x ls lt e f h = by (plan_columns x (known_of p.tables ls)) refl
  where
    by : (o : Option (List Column)) → plan_columns x (known_of p.tables ls) ≡ o → IsSome o
    by None g = absurd (none-there (lets_columns p.lets p.tables) (lets-none p.lets p.tables i x ls lt f (ap (λ y. plan_columns y (known_of p.tables ls)) (sym e) ∙ g)) (lets-there p h))
    by (Some cs) g = refl

plan-longer : (p : Plan) → PlanIsNoLonger p p
plan-longer p = record { operators = omega arith; size = omega arith }

longer-same : (ps : List Plan) → AreNoLonger ps ps
longer-same [] = tt
longer-same (p ∷ ps) = (plan-longer p, longer-same ps)

longer-with : (ps : List Plan) (i : ℕ) (x q : Plan) → i < length ps → x ≡ get_or ps i x → PlanIsNoLonger q x → AreNoLonger (with_at ps i q) ps
longer-with [] i x q lt e h = absurd (omega arith)
longer-with (p ∷ ps) zero x q lt e h = subst (λ zs. AreNoLonger zs (p ∷ ps)) (sym (with-first p ps q)) (subst (PlanIsNoLonger q) e h, longer-same ps)
longer-with (p ∷ ps) (suc i) x q lt e h = subst (λ zs. AreNoLonger zs (p ∷ ps)) (sym (with-cons p ps i q)) (plan-longer p, longer-with ps i x q (omega arith) e h)

weights-append : (ps qs : List Plan) → weights (ps ++ qs) ≡ and_then (weights ps) (weights qs)
weights-append ps qs = ap in_order (map-append ps qs) ∙ order-append (map plan_weight ps) (map plan_weight qs)
  where
    map-append : (xs ys : List Plan) → map plan_weight (xs ++ ys) ≡ map plan_weight xs ++ map plan_weight ys
    map-append [] ys = refl
    map-append (x ∷ xs) ys = ap (λ ws. plan_weight x ∷ ws) (map-append xs ys)

abbrev MainBecomes : Program → Program → Type 0
MainBecomes p q = (ls : List (List Column)) → lets_columns p.lets p.tables ≡ Some ls → PlanBecomes (known_of p.tables ls) p.main q.main

still-there : (p q : Program) → p.tables ≡ q.tables → LetsBecome p.tables [] p.lets q.lets → MainBecomes p q → IsSome (program_columns p) → IsSome (program_columns q)
unfolding program_columns
still-there p q same lets main h =
    let cs = there (program_columns p) h in
    let r = main-columns p q same lets main cs.0 (lets_columns p.lets p.tables) refl cs.1 in
    rw r refl

pub let-improves : EachPlanKeeps → (p q : Program) (i : ℕ) (x made : Plan) (all : List Plan) (ls : List (List Column)) → i < length p.lets → x ≡ get_or p.lets i x → lets_columns (take i p.lets) p.tables ≡ Some ls → PlanImproves (known_of p.tables ls) x made → all ≡ with_at p.lets i made → q ≡ record { tables = p.tables; lets = all; main = p.main } → ProgramImproves p q
unfolding lets_columns
let-improves each p q i x made all ls lt e f h a same =
    let r : Program = record { tables = p.tables; lets = with_at p.lets i made; main = p.main } in
    let lets = lets-with p.tables p.lets i x made [] ls lt e f h.becomes in
    let main : MainBecomes p r = λ ms g. plan-same (known_of p.tables ms) p.main in
    let light = lighter-with p.lets i x made lt e h.lighter in
    let load = subst (λ v. IsLighter v (weights (p.lets ++ p.main ∷ []))) (sym (weights-append (with_at p.lets i made) (p.main ∷ []))) (subst (λ v. IsLighter (and_then (weights (with_at p.lets i made)) (weights (p.main ∷ []))) v) (sym (weights-append p.lets (p.main ∷ []))) (lighter-before (weights (with_at p.lets i made)) (weights p.lets) (weights (p.main ∷ [])) light)) in
    let is : r ≡ q = sym (same ∙ ap (λ (ps : List Plan). record { tables = p.tables; lets = ps; main = p.main }) a) in
    subst (ProgramImproves p) is (record {
      becomes = program-becomes each p r refl lets main;
      lighter = load.load;
      no_longer = record { lets = longer-with p.lets i x made lt e h.no_longer; main = plan-longer p.main };
      fits = still-there p r refl lets main;
    })

pub main-improves : EachPlanKeeps → (p q : Program) (i : ℕ) (made : Plan) (ls : List (List Column)) → length p.lets ≤ i → lets_columns (take i p.lets) p.tables ≡ Some ls → PlanImproves (known_of p.tables ls) p.main made → q ≡ record { tables = p.tables; lets = p.lets; main = made } → ProgramImproves p q
main-improves each p q i made ls lt f h same =
    let r : Program = record { tables = p.tables; lets = p.lets; main = made } in
    let whole : lets_columns p.lets p.tables ≡ Some ls = ap (λ ps. lets_columns ps p.tables) (sym (take-all p.lets i lt)) ∙ f in
    let lets = lets-same p.tables [] p.lets in
    let main : MainBecomes p r = λ ms g. let s : Some ls ≡ Some ms = sym whole ∙ g in let here : ls ≡ ms = cc in subst (λ l. PlanBecomes (known_of p.tables l) p.main made) here h.becomes in
    let one = lighter-before (plan_weight made) (plan_weight p.main) (weights []) h.lighter in
    let load = subst (λ v. IsLighter v (weights (p.lets ++ p.main ∷ []))) (sym (weights-append p.lets (made ∷ []))) (subst (λ v. IsLighter (and_then (weights p.lets) (weights (made ∷ []))) v) (sym (weights-append p.lets (p.main ∷ []))) (lighter-behind (weights (made ∷ [])) (weights (p.main ∷ [])) (weights p.lets) one)) in
    subst (ProgramImproves p) (sym same) (record {
      becomes = program-becomes each p r refl lets main;
      lighter = load.load;
      no_longer = record { lets = longer-same p.lets; main = h.no_longer };
      fits = still-there p r refl lets main;
    })

pub program-settled : (p : Program) (i : ℕ) (ls : List (List Column)) → length p.lets ≤ i → lets_columns (take i p.lets) p.tables ≡ Some ls → lets_settled p.tables [] p.lets ≡ lets_settled p.tables ls (drop i p.lets) → settled_plan p.main (known_of p.tables ls) ≡ true → is_quiet p ≡ true
unfolding is_quiet
program-settled p i ls lt f e s =
    let whole : lets_columns p.lets p.tables ≡ Some ls = ap (λ ps. lets_columns ps p.tables) (sym (take-all p.lets i lt)) ∙ f in
    let all : lets_settled p.tables [] p.lets ≡ true = e ∙ lets-end p.tables p.lets i ls lt in
    rw (all, whole, s) refl

pub same-at : (ps : List Plan) (i : ℕ) (u v : Plan) → i < length ps → u ≡ get_or ps i u → v ≡ get_or ps i v → u ≡ v
same-at [] i u v lt p q = absurd (omega arith)
same-at (z ∷ zs) zero u v lt p q = p ∙ sym q
same-at (z ∷ zs) (suc i) u v lt p q = same-at zs i u v (omega arith) p q

pub whole-lets : (p : Program) (i : ℕ) (ls : List (List Column)) → length p.lets ≤ i → lets_columns (take i p.lets) p.tables ≡ Some ls → lets_columns p.lets p.tables ≡ Some ls
whole-lets p i ls lt f = ap (λ ps. lets_columns ps p.tables) (sym (take-all p.lets i lt)) ∙ f
