-- The equations of the columns of operators and plans, one for each variant of an operator.
use Rattle.std.proofs.Common.{◌≡◌, ◌<◌, ◌+◌, ℕ, zero, suc, Bool, true, false, List, [], ◌∷◌, ◌++◌, map, length, take, get_or, refl, sym, ap, ◌∙◌, arith, rules}
use Rattle.std.specs.Prelude.{Option, None, Some, fold, option_and_then, option_map}
use Rattle.std.proofs.lemmas.List.{map-append, take_more}
use Rattle.std.proofs.lemmas.List.Sums.{fold_more}
use Rattle.kql_cells.specs.declared.schemas.NamedSchema.{NamedSchema}
use Rattle.kql_cells.specs.declared.schema.Column.{Column}
use Rattle.kql_bound.specs.declared.expr.BExpr.{BExpr}
use Rattle.kql_bound.specs.declared.parts.BItem.{BItem}
use Rattle.kql_bound.specs.declared.parts.BKey.{BKey}
use Rattle.kql_bound.specs.declared.parts.Expand.{Expand}
use Rattle.kql_bound.specs.declared.parts.GroupPlan.{GroupPlan}
use Rattle.kql_bound.specs.declared.parts.JoinPlan.{JoinPlan}
use Rattle.kql_bound.specs.declared.parts.ParsePlan.{ParsePlan}
use Rattle.kql_bound.specs.declared.parts.ScanPlan.{ScanPlan}
use Rattle.kql_bound.specs.declared.parts.SeriesPlan.{SeriesPlan}
use Rattle.kql_bound.specs.declared.plan.Op.{Op, out-Op, fold_out-Op, the_lemmas}
use Rattle.kql_bound.specs.declared.plan.Op.TheFolds.{map-Op}
use Rattle.kql_bound.specs.declared.plan.Op.TheOpen.{Op-F}
use Rattle.kql_bound.specs.declared.plan.Op.TheVariants as V
use Rattle.kql_bound.specs.declared.plan.Plan.{Plan, fold_out-Plan}
use Rattle.kql_meaning.specs.Expressions.{column_kind}
use Rattle.kql_meaning.specs.Extend.{extend_columns}
use Rattle.kql_meaning.specs.Fits.{Known, OpColumns, PlanColumns, after_all, all_columns, by_key, joined_columns, known_of, let_after, lets_columns, of_columns, op_columns, op_columns_step, ops_columns, outside_subqueries, plan_columns, plan_columns_step, plans_columns, source_columns, united_columns}
use Rattle.kql_meaning.specs.FittingExpressions.{has_kind, is_key}
use Rattle.kql_meaning.specs.FittingOperators.{answer_if, columns_if, expand_fits, items_fit, parse_fits, scan_fits, series_fits, sort_fits, summarize_fits, where_fits}
use Rattle.kql_meaning.specs.Items.{items_columns}
use Rattle.kql_meaning.specs.MakeSeries.{series_columns}
use Rattle.kql_meaning.specs.MvExpand.{expand_columns}
use Rattle.kql_meaning.specs.Parse.{parse_columns}
use Rattle.kql_meaning.specs.Scan.{scan_columns}
use Rattle.kql_meaning.specs.Summarize.{group_columns}
use Rattle.kql_meaning.specs.TakeAndCount.{count_columns}
use Rattle.kql_meaning.specs.declared.position.Position.TheVariants as position

-- What does not fit has no columns.

pub answer-none : (columns : List Column) → answer_if false columns ≡ None
unfolding answer_if columns_if
answer-none columns = refl

pub ruleset answer_steps = (answer-none)

-- One variant of an operator.

op-out : (op : Op) (k : Known) (inside : Bool) (cs : List Column) → op_columns op k inside cs ≡ op_columns_step (map-Op Op Plan OpColumns PlanColumns op_columns plan_columns (out-Op op)) k inside cs
unfolding op_columns plan_columns
op-out op k inside cs = ap (λ (f : OpColumns). f k inside cs) (fold_out-Op OpColumns PlanColumns op_columns_step plan_columns_step op)

step : (op : Op) (f : Op-F Op Plan) → out-Op op ≡ f → (k : Known) (inside : Bool) (cs : List Column) → op_columns op k inside cs ≡ op_columns_step (map-Op Op Plan OpColumns PlanColumns op_columns plan_columns f) k inside cs
step op f e k inside cs = op-out op k inside cs ∙ ap (λ (g : Op-F Op Plan). op_columns_step (map-Op Op Plan OpColumns PlanColumns op_columns plan_columns g) k inside cs) e

pub op-Where : (e : BExpr) (k : Known) (inside : Bool) (cs : List Column) → op_columns (V.Where e) k inside cs ≡ columns_if (where_fits e cs) cs
op-Where e k inside cs = step (V.Where e) (Op-F.Where e) (search (rules, the_lemmas)) k inside cs

pub op-Extend : (items : List BItem) (k : Known) (inside : Bool) (cs : List Column) → op_columns (V.Extend items) k inside cs ≡ answer_if (items_fit items cs position.Window) (extend_columns items cs)
op-Extend items k inside cs = step (V.Extend items) (Op-F.Extend items) (search (rules, the_lemmas)) k inside cs

pub op-Project : (items : List BItem) (k : Known) (inside : Bool) (cs : List Column) → op_columns (V.Project items) k inside cs ≡ answer_if (items_fit items cs position.Window) (items_columns items cs)
op-Project items k inside cs = step (V.Project items) (Op-F.Project items) (search (rules, the_lemmas)) k inside cs

pub op-Take : (n : ℕ) (k : Known) (inside : Bool) (cs : List Column) → op_columns (V.Take n) k inside cs ≡ Some cs
op-Take n k inside cs = step (V.Take n) (Op-F.Take n) (search (rules, the_lemmas)) k inside cs

pub op-Count : (k : Known) (inside : Bool) (cs : List Column) → op_columns V.Count k inside cs ≡ Some count_columns
op-Count k inside cs = step V.Count Op-F.Count (search (rules, the_lemmas)) k inside cs

pub op-Serialize : (k : Known) (inside : Bool) (cs : List Column) → op_columns V.Serialize k inside cs ≡ Some cs
op-Serialize k inside cs = step V.Serialize Op-F.Serialize (search (rules, the_lemmas)) k inside cs

pub op-Sort : (keys : List BKey) (k : Known) (inside : Bool) (cs : List Column) → op_columns (V.Sort keys) k inside cs ≡ columns_if (sort_fits keys cs) cs
op-Sort keys k inside cs = step (V.Sort keys) (Op-F.Sort keys) (search (rules, the_lemmas)) k inside cs

pub op-Top : (n : ℕ) (keys : List BKey) (k : Known) (inside : Bool) (cs : List Column) → op_columns (V.Top n keys) k inside cs ≡ columns_if (sort_fits keys cs) cs
op-Top n keys k inside cs = step (V.Top n keys) (Op-F.Top n keys) (search (rules, the_lemmas)) k inside cs

pub op-Summarize : (g : GroupPlan) (k : Known) (inside : Bool) (cs : List Column) → op_columns (V.Summarize g) k inside cs ≡ answer_if (summarize_fits g cs) (group_columns g cs)
op-Summarize g k inside cs = step (V.Summarize g) (Op-F.Summarize g) (search (rules, the_lemmas)) k inside cs

pub op-MakeSeries : (p : SeriesPlan) (k : Known) (inside : Bool) (cs : List Column) → op_columns (V.MakeSeries p) k inside cs ≡ answer_if (series_fits p cs) (series_columns p cs)
op-MakeSeries p k inside cs = step (V.MakeSeries p) (Op-F.MakeSeries p) (search (rules, the_lemmas)) k inside cs

pub op-MvExpand : (x : Expand) (k : Known) (inside : Bool) (cs : List Column) → op_columns (V.MvExpand x) k inside cs ≡ answer_if (expand_fits x cs) (expand_columns x cs)
op-MvExpand x k inside cs = step (V.MvExpand x) (Op-F.MvExpand x) (search (rules, the_lemmas)) k inside cs

pub op-Parse : (p : ParsePlan) (k : Known) (inside : Bool) (cs : List Column) → op_columns (V.Parse p) k inside cs ≡ answer_if (parse_fits p cs) (parse_columns p cs)
op-Parse p k inside cs = step (V.Parse p) (Op-F.Parse p) (search (rules, the_lemmas)) k inside cs

pub op-Scan : (p : ScanPlan) (k : Known) (inside : Bool) (cs : List Column) → op_columns (V.Scan p) k inside cs ≡ answer_if (scan_fits p cs) (scan_columns p cs)
op-Scan p k inside cs = step (V.Scan p) (Op-F.Scan p) (search (rules, the_lemmas)) k inside cs

pub join-out : (j : JoinPlan) (right : Plan) (k : Known) (inside : Bool) (cs : List Column) → op_columns (V.Join j right) k inside cs ≡ outside_subqueries inside (joined_columns j cs (plan_columns right k))
join-out j right k inside cs = step (V.Join j right) (Op-F.Join j right) (search (rules, the_lemmas)) k inside cs

pub union-out : (inner : Bool) (others : List Plan) (k : Known) (inside : Bool) (cs : List Column) → op_columns (V.Union inner others) k inside cs ≡ outside_subqueries inside (united_columns inner cs (plans_columns others k))
unfolding plans_columns
union-out inner others k inside cs = step (V.Union inner others) (Op-F.Union inner others) (search (rules, the_lemmas)) k inside cs

pub partition-out : (c : List ℕ) (ops : List Op) (k : Known) (inside : Bool) (cs : List Column) → op_columns (V.Partition c ops) k inside cs ≡ outside_subqueries inside (by_key (has_kind is_key (column_kind c cs)) (ops_columns ops k true cs))
unfolding ops_columns
partition-out c ops k inside cs = step (V.Partition c ops) (Op-F.Partition c ops) (search (rules, the_lemmas)) k inside cs

pub op-Join-inside : (j : JoinPlan) (right : Plan) (k : Known) (cs : List Column) → op_columns (V.Join j right) k true cs ≡ None
unfolding outside_subqueries
op-Join-inside j right k cs = join-out j right k true cs

pub op-Join : (j : JoinPlan) (right : Plan) (k : Known) (cs : List Column) → op_columns (V.Join j right) k false cs ≡ joined_columns j cs (plan_columns right k)
unfolding outside_subqueries
op-Join j right k cs = join-out j right k false cs

pub op-Union-inside : (inner : Bool) (others : List Plan) (k : Known) (cs : List Column) → op_columns (V.Union inner others) k true cs ≡ None
unfolding outside_subqueries
op-Union-inside inner others k cs = union-out inner others k true cs

pub op-Union : (inner : Bool) (others : List Plan) (k : Known) (cs : List Column) → op_columns (V.Union inner others) k false cs ≡ united_columns inner cs (plans_columns others k)
unfolding outside_subqueries
op-Union inner others k cs = union-out inner others k false cs

pub op-Partition-inside : (c : List ℕ) (ops : List Op) (k : Known) (cs : List Column) → op_columns (V.Partition c ops) k true cs ≡ None
unfolding outside_subqueries
op-Partition-inside c ops k cs = partition-out c ops k true cs

pub op-Partition-none : (c : List ℕ) (ops : List Op) (k : Known) (cs : List Column) → has_kind is_key (column_kind c cs) ≡ false → op_columns (V.Partition c ops) k false cs ≡ None
unfolding outside_subqueries by_key
op-Partition-none c ops k cs f = partition-out c ops k false cs ∙ rw f refl

pub op-Partition : (c : List ℕ) (ops : List Op) (k : Known) (cs : List Column) → has_kind is_key (column_kind c cs) ≡ true → op_columns (V.Partition c ops) k false cs ≡ ops_columns ops k true cs
unfolding outside_subqueries by_key
op-Partition c ops k cs t = partition-out c ops k false cs ∙ rw t refl

pub ruleset op_steps = (op-Where, op-Extend, op-Project, op-Take, op-Count, op-Serialize, op-Sort, op-Top, op-Summarize, op-MakeSeries, op-MvExpand, op-Parse, op-Scan, op-Join-inside, op-Join, op-Union-inside, op-Union, op-Partition-inside, op-Partition-none, op-Partition)

-- Folds over what may be none: one none stays.

pub stays-none : {X Y : Type 0} (f : Option Y → X → Option Y) → ((x : X) → f None x ≡ None) → (xs : List X) → fold f None xs ≡ None
stays-none f h [] = refl
stays-none f h (x ∷ xs) = rw (h x) (stays-none f h xs)

none-at : {X Y : Type 0} (f : Option Y → X → Option Y) → ((x : X) → f None x ≡ None) → (z : Option Y) (xs : List X) (i : ℕ) (d : X) → i < length xs → f (fold f z (take i xs)) (get_or xs i d) ≡ None → fold f z xs ≡ None
none-at f h z [] i d lt e = absurd (omega arith)
none-at f h z (x ∷ xs) zero d lt e = rw e (stays-none f h xs)
none-at f h z (x ∷ xs) (suc i) d lt e = none-at f h (f z x) xs i d (omega arith) e

-- Operators, one after another.

abbrev pub after : Known → Bool → Option (List Column) → Op → Option (List Column)
after k inside before op = of_columns before (op_columns op k inside)

fold-map : {X Y Z : Type 0} (f : Z → Y → Z) (g : X → Y) (z : Z) (xs : List X) → fold f z (map g xs) ≡ fold (λ a x. f a (g x)) z xs
fold-map f g z [] = refl
fold-map f g z (x ∷ xs) = fold-map f g (f z (g x)) xs

pub ops-fold : (ops : List Op) (k : Known) (inside : Bool) (cs : List Column) → ops_columns ops k inside cs ≡ fold (after k inside) (Some cs) ops
unfolding ops_columns after_all
ops-fold ops k inside cs = fold-map (λ (before : Option (List Column)) (op : OpColumns). of_columns before (op k inside)) op_columns (Some cs) ops

pub ops-start : (k : Known) (inside : Bool) (cs : List Column) → ops_columns [] k inside cs ≡ Some cs
ops-start k inside cs = ops-fold [] k inside cs

pub after-none : (k : Known) (inside : Bool) (op : Op) → after k inside None op ≡ None
unfolding of_columns
after-none k inside op = refl

pub after-some : (k : Known) (inside : Bool) (cs : List Column) (op : Op) → after k inside (Some cs) op ≡ op_columns op k inside cs
unfolding of_columns
after-some k inside cs op = refl

pub ops-more : (ops : List Op) (k : Known) (inside : Bool) (cs : List Column) (i : ℕ) (d : Op) (made : List Column) (next : Option (List Column)) → i < length ops → ops_columns (take i ops) k inside cs ≡ Some made → next ≡ op_columns (get_or ops i d) k inside made → ops_columns (take (i + 1) ops) k inside cs ≡ next
ops-more ops k inside cs i d made next lt before one =
    let so_far : fold (after k inside) (Some cs) (take i ops) ≡ Some made = sym (ops-fold (take i ops) k inside cs) ∙ before in
    ops-fold (take (i + 1) ops) k inside cs
    ∙ (fold_more (after k inside) (Some cs) ops i d lt
    ∙ (ap (λ b. after k inside b (get_or ops i d)) so_far ∙ (after-some k inside made (get_or ops i d) ∙ sym one)))

pub ops-none : (ops : List Op) (k : Known) (inside : Bool) (cs : List Column) (i : ℕ) (d : Op) (made : List Column) → i < length ops → ops_columns (take i ops) k inside cs ≡ Some made → op_columns (get_or ops i d) k inside made ≡ None → ops_columns ops k inside cs ≡ None
ops-none ops k inside cs i d made lt before one =
    let so_far : fold (after k inside) (Some cs) (take i ops) ≡ Some made = sym (ops-fold (take i ops) k inside cs) ∙ before in
    ops-fold ops k inside cs
    ∙ none-at (after k inside) (after-none k inside) (Some cs) ops i d lt (ap (λ b. after k inside b (get_or ops i d)) so_far ∙ (after-some k inside made (get_or ops i d) ∙ one))

pub ruleset ops_steps = (ops-start, ops-none)

-- Several plans.

pub plans-start : (k : Known) → plans_columns [] k ≡ Some []
unfolding plans_columns all_columns
plans-start k = refl

plans-push : (xs : List PlanColumns) (k : Known) (p : PlanColumns) (ms : List (List Column)) (m : List Column) → all_columns xs k ≡ Some ms → p k ≡ Some m → all_columns (xs ++ p ∷ []) k ≡ Some (ms ++ m ∷ [])
unfolding all_columns
plans-push [] k p ms m e one = let none : [] ≡ ms = cc in rw (← none, one) refl
plans-push (x ∷ xs) k p ms m e one = of-first (x k) (all_columns xs k) (λ ns h. plans-push xs k p ns m h one) refl e
  where
    of-first : (o : Option (List Column)) (r : Option (List (List Column))) → ((ns : List (List Column)) → all_columns xs k ≡ Some ns → all_columns (xs ++ p ∷ []) k ≡ Some (ns ++ m ∷ [])) → all_columns xs k ≡ r → option_and_then (λ one. option_map (λ more. one ∷ more) r) o ≡ Some ms → option_and_then (λ one. option_map (λ more. one ∷ more) (all_columns (xs ++ p ∷ []) k)) o ≡ Some (ms ++ m ∷ [])
    of-first None r push s e = cc
    of-first (Some c) None push s e = cc
    of-first (Some c) (Some ns) push s e = let same : c ∷ ns ≡ ms = cc in rw (push ns s, ← same) refl

pub plans-more : (ps : List Plan) (k : Known) (i : ℕ) (d : Plan) (ms ns : List (List Column)) (m : List Column) → i < length ps → plans_columns (take i ps) k ≡ Some ms → plan_columns (get_or ps i d) k ≡ Some m → ns ≡ ms ++ m ∷ [] → plans_columns (take (i + 1) ps) k ≡ Some ns
unfolding plans_columns
plans-more ps k i d ms ns m lt before one last =
    rw (take_more ps i d lt, map-append plan_columns (take i ps) (get_or ps i d ∷ []), last) (plans-push (map plan_columns (take i ps)) k (plan_columns (get_or ps i d)) ms m before one)

behind : (o : Option (List Column)) (r : Option (List (List Column))) → r ≡ None → option_and_then (λ one. option_map (λ more. one ∷ more) r) o ≡ None
behind None r e = refl
behind (Some c) r e = rw e refl

pub plans-none : (ps : List Plan) (k : Known) (i : ℕ) (d : Plan) → i < length ps → plan_columns (get_or ps i d) k ≡ None → plans_columns ps k ≡ None
unfolding plans_columns all_columns
plans-none [] k i d lt e = absurd (omega arith)
plans-none (p ∷ ps) k zero d lt e = rw e refl
plans-none (p ∷ ps) k (suc i) d lt e = behind (plan_columns p k) (all_columns (map plan_columns ps) k) (plans-none ps k i d (omega arith) e)

pub ruleset plans_steps = (plans-start, plans-none)

-- A plan: its source, and then its operators.

pub plan-out : (p : Plan) (k : Known) → plan_columns p k ≡ of_columns (source_columns p.source k) (λ cs. ops_columns p.ops k false cs)
unfolding plan_columns op_columns ops_columns
plan-out p k = ap (λ (f : PlanColumns). f k) (fold_out-Plan OpColumns PlanColumns op_columns_step plan_columns_step p)

pub plan-none : (p : Plan) (k : Known) → source_columns p.source k ≡ None → plan_columns p k ≡ None
unfolding of_columns
plan-none p k e = plan-out p k ∙ rw e refl

pub plan-some : (p : Plan) (k : Known) (cs : List Column) → source_columns p.source k ≡ Some cs → plan_columns p k ≡ ops_columns p.ops k false cs
unfolding of_columns
plan-some p k cs e = plan-out p k ∙ rw e refl

pub ruleset plan_steps = (plan-none, plan-some)

-- Lets, one after another.

pub lets-start : (tables : List NamedSchema) → lets_columns [] tables ≡ Some []
unfolding lets_columns
lets-start tables = refl

let-some : (tables : List NamedSchema) (ls : List (List Column)) (p : Plan) (m : List Column) → plan_columns p (known_of tables ls) ≡ Some m → let_after tables (Some ls) p ≡ Some (ls ++ m ∷ [])
unfolding let_after
let-some tables ls p m e = rw e refl

let-none : (tables : List NamedSchema) (ls : List (List Column)) (p : Plan) → plan_columns p (known_of tables ls) ≡ None → let_after tables (Some ls) p ≡ None
unfolding let_after
let-none tables ls p e = rw e refl

let-nothing : (tables : List NamedSchema) (p : Plan) → let_after tables None p ≡ None
unfolding let_after
let-nothing tables p = refl

pub lets-more : (lets : List Plan) (tables : List NamedSchema) (i : ℕ) (d : Plan) (ls ms : List (List Column)) (m : List Column) → i < length lets → lets_columns (take i lets) tables ≡ Some ls → plan_columns (get_or lets i d) (known_of tables ls) ≡ Some m → ms ≡ ls ++ m ∷ [] → lets_columns (take (i + 1) lets) tables ≡ Some ms
unfolding lets_columns
lets-more lets tables i d ls ms m lt before one last =
    fold_more (let_after tables) (Some []) lets i d lt
    ∙ (ap (λ b. let_after tables b (get_or lets i d)) before ∙ (let-some tables ls (get_or lets i d) m one ∙ ap (λ x. Some x) (sym last)))

pub lets-none : (lets : List Plan) (tables : List NamedSchema) (i : ℕ) (d : Plan) (ls : List (List Column)) → i < length lets → lets_columns (take i lets) tables ≡ Some ls → plan_columns (get_or lets i d) (known_of tables ls) ≡ None → lets_columns lets tables ≡ None
unfolding lets_columns
lets-none lets tables i d ls lt before one =
    none-at (let_after tables) (let-nothing tables) (Some []) lets i d lt (ap (λ b. let_after tables b (get_or lets i d)) before ∙ let-none tables ls (get_or lets i d) one)

pub ruleset lets_steps = (lets-start, lets-none)
