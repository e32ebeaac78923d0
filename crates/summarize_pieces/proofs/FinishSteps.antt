-- The rows of the groups of all rows.
use Rattle.std.proofs.Common.{◌≡◌, ◌<◌, ◌≤◌, ◌+◌, ◌-◌, ◌++◌, ℕ, zero, suc, false, List, [], ◌∷◌, filter, get_or, length, map, take, refl, ap, ap₂, sym, ◌∙◌, subst, arith, rules}
use Rattle.std.specs.Prelude.{All, Some, not, slice_get, slice_index_or}
use Rattle.std.specs.List.{AllByRecursion, range_with_len}
use Rattle.std.proofs.lemmas.List.{get_or-map, length-map, map-append, take_more}
use Rattle.std.proofs.lemmas.List.Elements.{All-from_recursion, recursion_from_All}
use Rattle.kql_cells.specs.Keys.{same_keys}
use Rattle.kql_cells.specs.Seen.{row_at}
use Rattle.kql_cells.specs.Table.{Grid, IsGrid, RowFits, gathered}
use Rattle.kql_cells.specs.declared.schema.Column.{Column}
use Rattle.kql_cells.specs.declared.value.Value.{Value}
use Rattle.kql_cells.proofs.RowLaws.{length-RowFits}
use Rattle.kql_values.specs.Grids.{HaveLength}
use Rattle.kql_keys.specs.Numbers.{distinct}
use Rattle.kql_functions.specs.declared.aggregate.Aggregate.{Aggregate}
use Rattle.kql_functions.specs.declared.aggregate.Aggregate.TheVariants as aggregate
use Rattle.kql_scalar_fns.specs.Arguments.{AreWellFormed}
use Rattle.kql_bound.specs.declared.expr.BExpr.{BExpr}
use Rattle.kql_bound.specs.declared.parts.BItem.{BItem}
use Rattle.kql_bound.specs.declared.parts.GroupPlan.{GroupPlan}
use Rattle.kql_bound.specs.declared.plan.Op.{the_lemmas}
use Rattle.kql_bound.specs.declared.plan.Op.TheOpen.{Op-F}
use Rattle.kql_bound.specs.declared.plan.Op.TheVariants as O
use Rattle.kql_meaning.specs.Fits.{Known}
use Rattle.kql_meaning.specs.FittingOperators.{summarize_fits}
use Rattle.kql_meaning.specs.Groups.{distinct_keys, group_of, key_by}
use Rattle.kql_meaning.specs.Items.{items_values}
use Rattle.kql_meaning.specs.Plans.{World}
use Rattle.kql_meaning.specs.Summarize.{group_columns, group_row, group_rows, summarize_table}
use Rattle.kql_meaning.specs.Tables.{distinct_by, places, places_below}
use Rattle.kql_meaning.proofs.ListLaws.{gathered-all}
use Rattle.kql_meaning.proofs.OperatorFitLaws.{op-Summarize}
use Rattle.kql_fit_laws.specs.LawsOfRows.{IsTable}
use Rattle.kql_fit_laws.proofs.ItemLaws.{each_summarize_keeps}
use Rattle.kql_fit_laws.proofs.RowFacts.{gathered-table}
use Rattle.kql_fit_laws.proofs.RowLaws.{means}
use Rattle.kql_scalar.specs.Rows.{rows}
use Rattle.agg_folds.specs.Folds.{folded}
use Rattle.agg_folds.specs.States.{Kept, fold_of}
use Rattle.agg_folds.specs.declared.call.FoldCall.{FoldCall}
use Rattle.summarize_op.specs.Calls.{IsCall}
use Rattle.summarize_pieces.specs.Calls.{AreFurther, AreGiven, calls_of}
use Rattle.summarize_pieces.specs.Pieces.{AreAligned, AreAllGroups, GroupKept, Grouped, args_at, call_over, group_line, groups_in, kept_row, kept_rows, keys_in, rows_with, state_at, state_in, value_for}
use Rattle.summarize_pieces.proofs.GivenLaws.{are-formed, are-further, are-given}
use Rattle.summarize_pieces.proofs.GroupSteps.{all-same}
use Rattle.summarize_pieces.proofs.NeighbourLaws.{with-inside}
use Rattle.summarize_pieces.proofs.PlanSteps.{Fits, answer-is, calls-fit, items-of, plan-fits}

-- The rows of the groups.

pub all-places : (t : Grid) → rows 0 (length t.lines) ≡ places t
unfolding rows places places_below
all-places t = let same : length t.lines - 0 ≡ length t.lines = omega arith in ap (range_with_len 0) same

distinct-same : (ks : List (List Value)) → distinct_by same_keys ks ≡ distinct same_keys ks
unfolding distinct_by
distinct-same [] = refl
distinct-same (k ∷ ks) = ap (λ (js : List (List Value)). k ∷ filter (λ j. not (same_keys k j)) js) (distinct-same ks)

each-same : {X : Type 0} (f g : List Value → X) (ks : List (List Value)) → ((k : List Value) → f k ≡ g k) → map f ks ≡ map g ks
each-same f g [] h = refl
each-same f g (k ∷ ks) h = ap₂ (λ x xs. x ∷ xs) (h k) (each-same f g ks h)

abbrev with_items : List BItem → List BItem → Grid → List Value → List Value
with_items keys items t k = k ++ items_values items (gathered t (rows_with keys t 0 (length t.lines) k)) 0

one-row : (key : BItem) (keys items : List BItem) (t : Grid) (k : List Value) → group_row (key ∷ keys) items t k ≡ with_items (key ∷ keys) items t k
unfolding group_row group_of rows_with
one-row key keys items t k =
    ap (λ (is : List ℕ). k ++ items_values items (gathered t (filter (λ i. same_keys (key_by (key ∷ keys) t i) k) is)) 0) (sym (all-places t))

whole-group : (t : Grid) → gathered t (rows_with [] t 0 (length t.lines) []) ≡ t
unfolding rows_with
whole-group t = ap (gathered t) (all-same t (rows 0 (length t.lines)) ∙ all-places t) ∙ gathered-all t

rows-by-key : (keys items : List BItem) (t : Grid) → group_rows keys items t ≡ map (with_items keys items t) (keys_in keys t 0 (length t.lines))
unfolding group_rows keys_in distinct_keys
rows-by-key [] items t = ap (λ (u : Grid). items_values items u 0 ∷ []) (sym (whole-group t))
rows-by-key (key ∷ keys) items t =
    let by = key_by (key ∷ keys) t in
    each-same (group_row (key ∷ keys) items t) (with_items (key ∷ keys) items t) (distinct_by same_keys (map by (places t))) (one-row key keys items t)
    ∙ ap (map (with_items (key ∷ keys) items t)) (distinct-same (map by (places t)) ∙ ap (λ (is : List ℕ). distinct same_keys (map by is)) (sym (all-places t)))

pub lines-are : (g : GroupPlan) (t : Grid) → group_rows g.keys g.items t ≡ map (group_line g t) (keys_in g.keys t 0 (length t.lines))
unfolding group_line
lines-are g t = rows-by-key g.keys g.items t

-- What is known of the groups of all rows.

abbrev pub AreGroups : GroupPlan → Grid → Grouped → Type 0
AreGroups g t x = x ≡ groups_in g t 0 (length t.lines)

pub keys-of-groups : (g : GroupPlan) (t : Grid) (x : Grouped) → AreGroups g t x → x.keys ≡ keys_in g.keys t 0 (length t.lines)
unfolding groups_in
keys-of-groups g t x is = ap (λ (y : Grouped). y.keys) is

pub calls-of-groups : (g : GroupPlan) (t : Grid) (x : Grouped) → AreGroups g t x → x.calls ≡ map (λ (c : Aggregate × List BExpr). call_over c t.columns) (calls_of g.items)
unfolding groups_in
calls-of-groups g t x is = ap (λ (y : Grouped). y.calls) is

pub states-of-groups : (g : GroupPlan) (t : Grid) (x : Grouped) → AreGroups g t x → x.states ≡ map (λ (c : Aggregate × List BExpr). map (state_in c g.keys t 0 (length t.lines)) (keys_in g.keys t 0 (length t.lines))) (calls_of g.items)
unfolding groups_in
states-of-groups g t x is = ap (λ (y : Grouped). y.states) is

pub states-by-keys : (g : GroupPlan) (t : Grid) (x : Grouped) → AreGroups g t x → x.states ≡ map (λ (c : Aggregate × List BExpr). map (state_in c g.keys t 0 (length t.lines)) x.keys) (calls_of g.items)
states-by-keys g t x is =
    states-of-groups g t x is ∙ ap (λ (ks : List (List Value)). map (λ (c : Aggregate × List BExpr). map (state_in c g.keys t 0 (length t.lines)) ks) (calls_of g.items)) (sym (keys-of-groups g t x is))

states-long : (cs : List (Aggregate × List BExpr)) (keys : List BItem) (t : Grid) (from to k : ℕ) (ks : List (List Value)) → k < length ks → AllByRecursion (λ (s : List GroupKept). k < length s) (map (λ c. map (state_in c keys t from to) ks) cs)
states-long [] keys t from to k ks lt = tt
states-long (c ∷ cs) keys t from to k ks lt = (let size = length-map ks (state_in c keys t from to) in omega (arith, size, lt), states-long cs keys t from to k ks lt)

pub aligned : (g : GroupPlan) (cs : List Column) (x : Grouped) (k : ℕ) (calls : List FoldCall) (states : List (List GroupKept)) → AreAllGroups g cs x → k < length x.keys → calls ≡ x.calls → states ≡ x.states → AreAligned k calls states
aligned g cs x k calls states h lt ec es =
    let t = h.table in
    let ks = keys_in g.keys t 0 (length t.lines) in
    let ck = calls-of-groups g t x h.groups in
    let sk = states-of-groups g t x h.groups in
    let below : k < length ks = subst (λ (js : List (List Value)). k < length js) (keys-of-groups g t x h.groups) lt in
    let f = λ (c : Aggregate × List BExpr). map (state_in c g.keys t 0 (length t.lines)) ks in
    let over = λ (c : Aggregate × List BExpr). call_over c t.columns in
    record {
      many = ap (λ (xs : List FoldCall). length xs) (ec ∙ ck) ∙ (length-map (calls_of g.items) over ∙ sym (ap (λ (xs : List (List GroupKept)). length xs) (es ∙ sk) ∙ length-map (calls_of g.items) f));
      each = subst (All (λ (s : List GroupKept). k < length s)) (sym (es ∙ sk)) (All-from_recursion (λ (s : List GroupKept). k < length s) (map f (calls_of g.items)) (states-long (calls_of g.items) g.keys t 0 (length t.lines) k ks below));
    }

pub aligned-call : (k : ℕ) (calls : List FoldCall) (states : List (List GroupKept)) (j : ℕ) → AreAligned k calls states → j < length states → j < length calls
aligned-call k calls states j h lt = let many = h.many in omega (arith, many, lt)

pub aligned-state : (k : ℕ) (calls : List FoldCall) (states : List (List GroupKept)) (j : ℕ) (s : List GroupKept) → AreAligned k calls states → j < length states → s ≡ get_or states j s → k < length s
aligned-state k calls states j s h lt is = subst (λ (r : List GroupKept). k < length r) (sym is) (h.each j s lt)

pub ruleset aligned_steps = (aligned-call, aligned-state)

-- What each call gives for a group.

abbrev pub values_for : List (Aggregate × List BExpr) → List BItem → Grid → ℕ → ℕ → List Value → List Value
values_for cs keys t from to k = map (λ c. value_for c keys t from to k) cs

state-lists : (c : Aggregate × List BExpr) (keys : List BItem) (t : Grid) (from to : ℕ) (ks : List (List Value)) → map (λ (s : GroupKept). s.kept) (map (state_in c keys t from to) ks) ≡ map (fold_of (call_over c t.columns)) (map (λ k. args_at c t (rows_with keys t from to k)) ks)
unfolding state_in state_at
state-lists c keys t from to [] = refl
state-lists c keys t from to (k ∷ ks) = ap (λ (xs : List Kept). fold_of (call_over c t.columns) (args_at c t (rows_with keys t from to k)) ∷ xs) (state-lists c keys t from to ks)

pub values-start : (cs : List (Aggregate × List BExpr)) (keys : List BItem) (t : Grid) (from to : ℕ) (k made : List Value) → made ≡ [] → made ≡ values_for (take 0 cs) keys t from to k
values-start cs keys t from to k made e = e

pub values-step : (cs : List (Aggregate × List BExpr)) (keys : List BItem) (t : Grid) (from to k : ℕ) (ks : List (List Value)) (calls : List FoldCall) (folds : List (List GroupKept)) (j : ℕ) (call : FoldCall) (list : List GroupKept) (v : Value) (old new : List Value) → j < length folds → k < length list → call ≡ get_or calls j call → list ≡ get_or folds j list → calls ≡ map (λ c. call_over c t.columns) cs → folds ≡ map (λ c. map (state_in c keys t from to) ks) cs → old ≡ values_for (take j cs) keys t from to (slice_index_or ks k [])
    → ((lists : List (List (List Value))) → map (λ (s : GroupKept). s.kept) list ≡ map (fold_of call) lists → v ≡ folded call (slice_index_or lists k [])) → new ≡ old ++ v ∷ [] → new ≡ values_for (take (j + 1) cs) keys t from to (slice_index_or ks k [])
unfolding value_for
values-step cs keys t from to k ks calls folds j call list v old new lt inside ci li ec es before value after =
    let size : length folds ≡ length cs = ap (λ (xs : List (List GroupKept)). length xs) es ∙ length-map cs _ in
    let below : j < length cs = omega (arith, size, lt) in
    let d : Aggregate × List BExpr = (aggregate.Count, []) in
    let c = get_or cs j d in
    let own : list ≡ map (state_in c keys t from to) ks = li ∙ (ap (λ (xs : List (List GroupKept)). get_or xs j list) es ∙ get_or-map (λ c. map (state_in c keys t from to) ks) cs j d list below) in
    let named : call ≡ call_over c t.columns = ci ∙ (ap (λ (xs : List FoldCall). get_or xs j call) ec ∙ get_or-map (λ c. call_over c t.columns) cs j d call below) in
    let lists = map (λ k. args_at c t (rows_with keys t from to k)) ks in
    let many : length list ≡ length ks = ap (λ (xs : List GroupKept). length xs) own ∙ length-map ks _ in
    let there : k < length ks = omega (arith, many, inside) in
    let made : v ≡ folded (call_over c t.columns) (args_at c t (rows_with keys t from to (slice_index_or ks k []))) =
    value lists (ap (map (λ (s : GroupKept). s.kept)) own ∙ (state-lists c keys t from to ks ∙ ap (λ (h : FoldCall). map (fold_of h) lists) (sym named)))
    ∙ ap₂ (λ (h : FoldCall) (rs : List (List Value)). folded h rs) named (get_or-map (λ k. args_at c t (rows_with keys t from to k)) ks k [] [] there) in
    let f = λ (c : Aggregate × List BExpr). folded (call_over c t.columns) (args_at c t (rows_with keys t from to (slice_index_or ks k []))) in
    after
    ∙ (ap₂ (λ (xs : List Value) (x : Value). xs ++ x ∷ []) before made
    ∙ (sym (map-append f (take j cs) (c ∷ [])) ∙ ap (map f) (sym (take_more cs j d below))))

same-default : (calls : List FoldCall) (j : ℕ) (d e : FoldCall) → j < length calls → get_or calls j d ≡ get_or calls j e
same-default [] j d e lt = absurd (omega (arith, lt))
same-default (c ∷ calls) zero d e lt = refl
same-default (c ∷ calls) (suc j) d e lt = same-default calls j d e (omega (arith, lt))

-- The same, where a call is read with a default.
pub values-next : (cs : List (Aggregate × List BExpr)) (keys : List BItem) (t : Grid) (from to k : ℕ) (ks : List (List Value)) (calls : List FoldCall) (folds : List (List GroupKept)) (j : ℕ) (d : FoldCall) (list : List GroupKept) (v : Value) (old new : List Value) → AreAligned k calls folds → j < length folds → list ≡ get_or folds j list → calls ≡ map (λ c. call_over c t.columns) cs → folds ≡ map (λ c. map (state_in c keys t from to) ks) cs → old ≡ values_for (take j cs) keys t from to (slice_index_or ks k [])
    → ((lists : List (List (List Value))) → map (λ (s : GroupKept). s.kept) list ≡ map (fold_of (get_or calls j d)) lists → v ≡ folded (get_or calls j d) (slice_index_or lists k [])) → new ≡ old ++ v ∷ [] → new ≡ values_for (take (j + 1) cs) keys t from to (slice_index_or ks k [])
values-next cs keys t from to k ks calls folds j d list v old new h lt li ec es before value after =
    values-step cs keys t from to k ks calls folds j (get_or calls j d) list v old new lt (aligned-state k calls folds j list h lt li)
    (same-default calls j d (get_or calls j d) (aligned-call k calls folds j h lt)) li ec es before value after

take-whole : {X : Type 0} (n : ℕ) (xs : List X) → length xs ≤ n → take n xs ≡ xs
take-whole zero [] le = refl
take-whole (suc n) [] le = refl
take-whole zero (x ∷ xs) le = absurd (omega arith)
take-whole (suc n) (x ∷ xs) le = ap (λ ys. x ∷ ys) (take-whole n xs (omega (arith, le)))

pub values-end : (cs : List (Aggregate × List BExpr)) (keys : List BItem) (t : Grid) (from to : ℕ) (k : List Value) (ks : List (List Value)) (folds : List (List GroupKept)) (j : ℕ) (made : List Value) → length folds ≤ j → folds ≡ map (λ c. map (state_in c keys t from to) ks) cs → made ≡ values_for (take j cs) keys t from to k → made ≡ values_for cs keys t from to k
values-end cs keys t from to k ks folds j made le all is =
    let size : length folds ≡ length cs = ap (λ (xs : List (List GroupKept)). length xs) all ∙ length-map cs _ in
    is ∙ ap (λ (ds : List (Aggregate × List BExpr)). values_for ds keys t from to k) (take-whole j cs (omega (arith, size, le)))

pub one-fold : (call : FoldCall) (lists : List (List (List Value))) (groups : List GroupKept) (k : ℕ) (s : GroupKept) (fold : Kept) → k < length groups → s ≡ get_or groups k s → fold ≡ s.kept → map (λ (s : GroupKept). s.kept) groups ≡ map (fold_of call) lists → fold ≡ fold_of call (slice_index_or lists k [])
one-fold call lists groups k s fold lt is kept all =
    let f = λ (s : GroupKept). s.kept in
    let size : length groups ≡ length lists = sym (length-map groups f) ∙ (ap (λ (ks : List Kept). length ks) all ∙ length-map lists (fold_of call)) in
    let below : k < length lists = omega (arith, size, lt) in
    kept
    ∙ (ap f is
    ∙ (sym (get_or-map f groups k s fold lt)
    ∙ (ap (λ (ks : List Kept). get_or ks k fold) all ∙ get_or-map (fold_of call) lists k [] fold below)))

-- The row of a group.

members-under : (from n : ℕ) (is : List ℕ) → AllByRecursion (λ i. (from ≤ i) × (i < n)) is → AllByRecursion (λ i. i < n) is
members-under from n [] h = tt
members-under from n (i ∷ is) h = (h.0.1, members-under from n is h.1)

group-table : (keys : List BItem) (t : Grid) (k : List Value) → IsTable t → IsTable (gathered t (rows_with keys t 0 (length t.lines) k))
group-table keys t k h =
    let ps = rows_with keys t 0 (length t.lines) k in
    gathered-table t ps h (All-from_recursion (λ i. i < length t.lines) ps (members-under 0 (length t.lines) ps (with-inside keys t 0 (length t.lines) k (omega arith))))

calls-that-fit : (g : GroupPlan) (t : Grid) → Fits g t.columns → AllByRecursion (λ (c : Aggregate × List BExpr). IsCall t.columns c.0 c.1) (calls_of g.items)
calls-that-fit g t fits = calls-fit t.columns g.items (items-of g t.columns (plan-fits g t.columns fits))

same-values : (cs : List (Aggregate × List BExpr)) (keys : List BItem) (t : Grid) (from to : ℕ) (k : List Value) → values_for cs keys t from to k ≡ map (λ (c : Aggregate × List BExpr). folded (call_over c t.columns) (args_at c t (rows_with keys t from to k))) cs
unfolding value_for
same-values [] keys t from to k = refl
same-values (c ∷ cs) keys t from to k = ap (λ (vs : List Value). folded (call_over c t.columns) (args_at c t (rows_with keys t from to k)) ∷ vs) (same-values cs keys t from to k)

pub values-given : (g : GroupPlan) (t : Grid) (k vs : List Value) → Fits g t.columns → vs ≡ values_for (calls_of g.items) g.keys t 0 (length t.lines) k → AreGiven (calls_of g.items) (gathered t (rows_with g.keys t 0 (length t.lines) k)) vs
values-given g t k vs fits is =
    are-given (calls_of g.items) t (rows_with g.keys t 0 (length t.lines) k) vs (calls-that-fit g t fits) (is ∙ same-values (calls_of g.items) g.keys t 0 (length t.lines) k)

pub values-formed : (g : GroupPlan) (t : Grid) (k vs : List Value) → IsTable t → Fits g t.columns → vs ≡ values_for (calls_of g.items) g.keys t 0 (length t.lines) k → AreWellFormed vs
values-formed g t k vs h fits is =
    are-formed (calls_of g.items) t (rows_with g.keys t 0 (length t.lines) k) vs (group-table g.keys t k h) (calls-that-fit g t fits) (is ∙ same-values (calls_of g.items) g.keys t 0 (length t.lines) k)

-- The rows that are kept of the further columns.

get-at : {X : Type 0} (f : List Value → X) (ks : List (List Value)) (k : ℕ) → k < length ks → slice_get (map f ks) k ≡ Some (f (slice_index_or ks k []))
get-at f [] k lt = absurd (omega (arith, lt))
get-at f (j ∷ ks) zero lt = refl
get-at f (j ∷ ks) (suc k) lt = get-at f ks k (omega (arith, lt))

further-rows : (cs : List (Aggregate × List BExpr)) (keys : List BItem) (t : Grid) (from to : ℕ) (ks : List (List Value)) (k : ℕ) → k < length ks → kept_rows (map (λ c. map (state_in c keys t from to) ks) cs) k ≡ map (λ (c : Aggregate × List BExpr). (state_at c t (rows_with keys t from to (slice_index_or ks k []))).further) cs
unfolding kept_rows kept_row state_in
further-rows [] keys t from to ks k lt = refl
further-rows (c ∷ cs) keys t from to ks k lt =
    ap₂ (λ (r : List Value) (rs : List (List Value)). r ∷ rs)
    (ap kept_row (get-at (λ j. state_at c t (rows_with keys t from to j)) ks k lt))
    (further-rows cs keys t from to ks k lt)

pub further-given : (g : GroupPlan) (t : Grid) (x : Grouped) (k : ℕ) (states : List (List GroupKept)) → AreGroups g t x → Fits g t.columns → k < length x.keys → states ≡ x.states → AreFurther t.columns (calls_of g.items) (gathered t (rows_with g.keys t 0 (length t.lines) (slice_index_or x.keys k []))) (kept_rows states k)
further-given g t x k states is fits lt es =
    are-further (calls_of g.items) t (rows_with g.keys t 0 (length t.lines) (slice_index_or x.keys k [])) (kept_rows states k) (calls-that-fit g t fits)
    (ap (λ (ss : List (List GroupKept)). kept_rows ss k) (es ∙ states-by-keys g t x is) ∙ further-rows (calls_of g.items) g.keys t 0 (length t.lines) x.keys k lt)

pub values-many : (g : GroupPlan) (t : Grid) (x : Grouped) (k : List Value) (states : List (List GroupKept)) (vs : List Value) → AreGroups g t x → states ≡ x.states → vs ≡ values_for (calls_of g.items) g.keys t 0 (length t.lines) k → length states ≡ length vs
values-many g t x k states vs is es ev =
    let cs = calls_of g.items in
    ap (λ (ss : List (List GroupKept)). length ss) (es ∙ states-of-groups g t x is)
    ∙ (length-map cs (λ c. map (state_in c g.keys t 0 (length t.lines)) (keys_in g.keys t 0 (length t.lines)))
    ∙ sym (ap (λ (ws : List Value). length ws) ev ∙ length-map cs (λ c. value_for c g.keys t 0 (length t.lines) k)))

pub line-is : (g : GroupPlan) (t : Grid) (x : Grouped) (n : ℕ) (key line : List Value) → key ≡ row_at x.keys n → line ≡ key ++ items_values g.items (gathered t (rows_with g.keys t 0 (length t.lines) (slice_index_or x.keys n []))) 0 → line ≡ group_line g t (slice_index_or x.keys n [])
unfolding group_line
line-is g t x n key line ek is = is ∙ ap (λ (k : List Value). k ++ items_values g.items (gathered t (rows_with g.keys t 0 (length t.lines) (slice_index_or x.keys n []))) 0) ek

-- One row after another.

pub lines-start : (g : GroupPlan) (t : Grid) (made : List (List Value)) → made ≡ [] → made ≡ take 0 (group_rows g.keys g.items t)
lines-start g t made e = e

lines-many : (g : GroupPlan) (t : Grid) (x : Grouped) → AreGroups g t x → length (group_rows g.keys g.items t) ≡ length x.keys
lines-many g t x is =
    ap (λ (ls : List (List Value)). length ls) (lines-are g t) ∙ (length-map (keys_in g.keys t 0 (length t.lines)) (group_line g t) ∙ sym (ap (λ (ks : List (List Value)). length ks) (keys-of-groups g t x is)))

line-at : (g : GroupPlan) (t : Grid) (x : Grouped) (n : ℕ) → AreGroups g t x → n < length x.keys → get_or (group_rows g.keys g.items t) n [] ≡ group_line g t (slice_index_or x.keys n [])
line-at g t x n is lt =
    let ks = keys_in g.keys t 0 (length t.lines) in
    let same = keys-of-groups g t x is in
    let below : n < length ks = subst (λ (js : List (List Value)). n < length js) same lt in
    ap (λ (ls : List (List Value)). get_or ls n []) (lines-are g t) ∙ (get_or-map (group_line g t) ks n [] [] below ∙ ap (λ (js : List (List Value)). group_line g t (slice_index_or js n [])) (sym same))

pub lines-step : (g : GroupPlan) (t : Grid) (x : Grouped) (n : ℕ) (line : List Value) (old new : List (List Value)) → AreGroups g t x → n < length x.keys → old ≡ take n (group_rows g.keys g.items t) → line ≡ group_line g t (slice_index_or x.keys n []) → new ≡ old ++ line ∷ [] → new ≡ take (n + 1) (group_rows g.keys g.items t)
lines-step g t x n line old new is lt before made after =
    let many = lines-many g t x is in
    let below : n < length (group_rows g.keys g.items t) = omega (arith, many, lt) in
    after ∙ (ap₂ (λ (ls : List (List Value)) (l : List Value). ls ++ l ∷ []) before (made ∙ sym (line-at g t x n is lt)) ∙ sym (take_more (group_rows g.keys g.items t) n [] below))

pub lines-end : (g : GroupPlan) (t : Grid) (x : Grouped) (n : ℕ) (made : List (List Value)) → AreGroups g t x → length x.keys ≤ n → made ≡ take n (group_rows g.keys g.items t) → made ≡ group_rows g.keys g.items t
lines-end g t x n made is le same =
    let many = lines-many g t x is in
    same ∙ take-whole n (group_rows g.keys g.items t) (omega (arith, many, le))

pub summary-table : (g : GroupPlan) (t : Grid) → IsTable t → Fits g t.columns → IsTable (summarize_table g t)
summary-table g t h fits =
    let k : Known = record { tables = []; lets = [] } in
    let w : World = record { tables = []; lets = [] } in
    let there = op-Summarize g k false t.columns ∙ answer-is (summarize_fits g t.columns) (group_columns g t.columns) fits in
    let made = each_summarize_keeps k w g false t (group_columns g t.columns) h there in
    subst IsTable (means (O.Summarize g) (Op-F.Summarize g) (search (rules, the_lemmas)) w t) made.1

lines-fit : (g : GroupPlan) (t : Grid) → IsTable t → Fits g t.columns → All (RowFits (group_columns g t.columns)) (group_rows g.keys g.items t)
unfolding summarize_table
lines-fit g t h fits = (summary-table g t h fits).1

wide : (cs : List Column) (ls : List (List Value)) → AllByRecursion (RowFits cs) ls → HaveLength (length cs) ls
unfolding HaveLength
wide cs [] h = tt
wide cs (l ∷ ls) h = (length-RowFits cs l h.0, wide cs ls h.1)

wide-take : (w n : ℕ) (ls : List (List Value)) → HaveLength w ls → HaveLength w (take n ls)
unfolding HaveLength
wide-take w zero ls h = tt
wide-take w (suc n) [] h = tt
wide-take w (suc n) (l ∷ ls) h = (h.0, wide-take w n ls h.1)

pub lines-wide : (g : GroupPlan) (t : Grid) (x : Grouped) (n : ℕ) (line : List Value) (old : List (List Value)) → IsTable t → Fits g t.columns → AreGroups g t x → n < length x.keys → line ≡ group_line g t (slice_index_or x.keys n []) → old ≡ take n (group_rows g.keys g.items t) → HaveLength (length line) old
lines-wide g t x n line old h fits is lt made before =
    let cs = group_columns g t.columns in
    let many = lines-many g t x is in
    let below : n < length (group_rows g.keys g.items t) = omega (arith, many, lt) in
    let all = lines-fit g t h fits in
    let size : length line ≡ length cs = ap (λ (l : List Value). length l) (made ∙ sym (line-at g t x n is lt)) ∙ length-RowFits cs (get_or (group_rows g.keys g.items t) n []) (all n [] below) in
    subst (λ w. HaveLength w old) (sym size) (subst (HaveLength (length cs)) (sym before) (wide-take (length cs) n (group_rows g.keys g.items t) (wide cs (group_rows g.keys g.items t) (recursion_from_All (RowFits cs) (group_rows g.keys g.items t) all))))

pub table-fits : (g : GroupPlan) (t : Grid) (named : List Column) (lines : List (List Value)) → IsTable t → Fits g t.columns → named ≡ group_columns g t.columns → lines ≡ group_rows g.keys g.items t → IsGrid (record { columns = named; lines = lines })
unfolding summarize_table
table-fits g t named lines h fits en el =
    subst IsGrid (ap₂ (λ (cs : List Column) (ls : List (List Value)). record { columns = cs; lines = ls }) (sym en) (sym el)) (summary-table g t h fits).1

pub table-is : (g : GroupPlan) (t made : Grid) (named : List Column) (lines : List (List Value)) → named ≡ group_columns g t.columns → lines ≡ group_rows g.keys g.items t → made ≡ record { columns = named; lines = lines } → made ≡ summarize_table g t
unfolding summarize_table
table-is g t made named lines en el em = em ∙ ap₂ (λ (cs : List Column) (ls : List (List Value)). record { columns = cs; lines = ls }) en el

pub ruleset one_steps = (one-fold)
