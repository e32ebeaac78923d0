-- The groups of rows that stand in another table, each so many places further on, are the same.
use Rattle.std.proofs.Common.{◌≡◌, ◌<◌, ◌≤◌, ◌+◌, ◌-◌, ℕ, zero, suc, Bool, true, List, [], ◌∷◌, filter, length, map, refl, ap, ap₂, sym, ◌∙◌, subst, arith}
use Rattle.std.specs.Prelude.{FitsSigned, Some, ℤ, slice_get}
use Rattle.std.specs.Int.{w64}
use Rattle.std.specs.List.{AllByRecursion, list_all, range_with_len}
use Rattle.kql_cells.specs.Keys.{same_keys}
use Rattle.kql_cells.specs.Seen.{row_at}
use Rattle.kql_cells.specs.Table.{Grid}
use Rattle.kql_cells.specs.declared.schema.Column.{Column}
use Rattle.kql_cells.specs.declared.value.Value.{Value}
use Rattle.kql_keys.specs.Numbers.{distinct}
use Rattle.kql_functions.specs.declared.aggregate.Aggregate.{Aggregate}
use Rattle.kql_bound.specs.declared.expr.BExpr.{BExpr}
use Rattle.kql_bound.specs.declared.parts.BItem.{BItem}
use Rattle.kql_bound.specs.declared.parts.GroupPlan.{GroupPlan}
use Rattle.kql_meaning.specs.FittingOperators.{key_item_fits, summarize_fits}
use Rattle.kql_meaning.specs.Groups.{key_by}
use Rattle.kql_meaning.specs.Values.{number_of}
use Rattle.kql_scalar_fns.specs.Arguments.{argument}
use Rattle.kql_scalar.specs.Rows.{rows}
use Rattle.agg_folds.specs.Folds.{chosen_row}
use Rattle.agg_folds.specs.States.{Kept, fold_of}
use Rattle.agg_folds.specs.declared.call.FoldCall.{FoldCall}
use Rattle.summarize_op.specs.Calls.{IsCall}
use Rattle.summarize_pieces.specs.Calls.{calls_of, further_args}
use Rattle.summarize_pieces.specs.Pieces.{AreGroupsOf, AreStored, GroupKept, Grouped, args_at, args_of, call_over, further_at, groups_in, keys_in, rows_with, state_at, state_in}
use Rattle.summarize_pieces.proofs.NeighbourLaws.{with-inside}
use Rattle.summarize_pieces.proofs.PlanSteps.{call-arguments, calls-fit, further-plain, items-of, keys-of}
use Rattle.view_ops.proofs.MovedRows.{args-moved, filter-moved, further-moved, key-moved, list-moved, map-moved}

-- Calls that fit.
abbrev AreFitting : List Column → List (Aggregate × List BExpr) → Type 0
AreFitting cs calls = AllByRecursion (λ (c : Aggregate × List BExpr). IsCall cs c.0 c.1) calls

-- The first argument of one call is stored at each row of a range.
abbrev IsStored : Grid → ℕ → ℕ → Aggregate × List BExpr → Type 0
IsStored t from to c = (i : ℕ) → from ≤ i → i < to → (n : ℤ) → number_of (argument (args_of c t i) 0) ≡ Some n → FitsSigned w64 n

below : (m : ℕ) (is : List ℕ) → AllByRecursion (λ i. (0 ≤ i) × (i < m)) is → AllByRecursion (λ i. i < m) is
below m [] h = tt
below m (i ∷ is) h = (h.0.1, below m is h.1)

map-all : {X Y : Type 0} (f g : X → Y) (xs : List X) → ((x : X) → f x ≡ g x) → map f xs ≡ map g xs
map-all f g [] h = refl
map-all f g (x ∷ xs) h = ap₂ (λ y ys. y ∷ ys) (h x) (map-all f g xs h)

rows-first : (m : ℕ) → range_with_len 0 m ≡ rows 0 m
unfolding rows
rows-first m = let e : m ≡ m - 0 = omega arith in ap (range_with_len 0) e

rows-further : (k m : ℕ) → range_with_len (k + 0) m ≡ rows k (k + m)
unfolding rows
rows-further k m =
    let e : k + 0 ≡ k = omega arith in
    let f : m ≡ (k + m) - k = omega arith in
    ap₂ range_with_len e f

abbrev grouped : ℕ → ℕ → List (List Value) → List FoldCall → List (List GroupKept) → Grouped
grouped w n ks cs ss = record { count = n; width = w; keys = ks; calls = cs; states = ss }

same-parts : (w n n' : ℕ) (ks ks' : List (List Value)) (cs cs' : List FoldCall) (ss ss' : List (List GroupKept)) → n ≡ n' → ks ≡ ks' → cs ≡ cs' → ss ≡ ss' → grouped w n ks cs ss ≡ grouped w n' ks' cs' ss'
same-parts w n n' ks ks' cs cs' ss ss' e f g h = ap₂ (λ a b. grouped w a b cs ss) e f ∙ ap₂ (λ a b. grouped w n' ks' a b) g h

-- Two tables of the same columns, of which the second has the first m rows of the first, each k places further on.
module _ (t u : Grid) (k m : ℕ) (columns : t.columns ≡ u.columns) (same : (i : ℕ) → i < m → row_at t.lines i ≡ row_at u.lines (k + i)) where
  state-moved : (f : Aggregate) (args : List BExpr) (is : List ℕ) → IsCall t.columns f args → AllByRecursion (λ i. i < m) is → state_at (f, args) t is ≡ state_at (f, args) u (map (λ i. k + i) is)
  unfolding state_at args_at
  state-moved f args is call inside =
      let own = (call-arguments t.columns f args call).0 in
      let js = map (λ i. k + i) is in
      let one : call_over (f, args) t.columns ≡ call_over (f, args) u.columns = ap (call_over (f, args)) columns in
      let all : map (args_of (f, args) t) is ≡ map (args_of (f, args) u) js = list-moved k m (args_of (f, args) t) (args_of (f, args) u) (λ i lt. args-moved t u k m columns same f args i own lt) is inside in
      ap₂ (λ (x : Kept) (y : List Value). record { kept = x; further = y })
      (ap₂ fold_of one all)
      (further-moved t u k m columns same (further_args (f, args)) is (chosen_row (call_over (f, args) t.columns) (map (args_of (f, args) t) is)) (further-plain t.columns f args own) inside
      ∙ ap (λ p. further_at (further_args (f, args)) u (slice_get js p)) (ap₂ chosen_row one all))

  keys-moved : (keys : List BItem) → list_all (key_item_fits t.columns) keys ≡ true → keys_in keys t 0 m ≡ keys_in keys u k (k + m)
  unfolding keys_in
  keys-moved [] fits = refl
  keys-moved (key ∷ keys) fits =
      ap (distinct same_keys)
      (ap (map (key_by (key ∷ keys) t)) (sym (rows-first m))
      ∙ (map-moved k m (key_by (key ∷ keys) t) (key_by (key ∷ keys) u) (λ i lt. key-moved t u k m columns same (key ∷ keys) i fits lt) 0 m (omega arith)
      ∙ ap (map (key_by (key ∷ keys) u)) (rows-further k m)))

  with-moved : (keys : List BItem) (q : List Value) → list_all (key_item_fits t.columns) keys ≡ true → map (λ i. k + i) (rows_with keys t 0 m q) ≡ rows_with keys u k (k + m) q
  unfolding rows_with
  with-moved keys q fits =
      let p = λ (i : ℕ). same_keys (key_by keys t i) q in
      let r = λ (i : ℕ). same_keys (key_by keys u i) q in
      ap (λ is. map (λ i. k + i) (filter p is)) (sym (rows-first m))
      ∙ (filter-moved k m p r (λ i lt. ap (λ x. same_keys x q) (key-moved t u k m columns same keys i fits lt)) 0 m (omega arith)
      ∙ ap (filter r) (rows-further k m))

  kept-moved : (f : Aggregate) (args : List BExpr) (keys : List BItem) (q : List Value) → IsCall t.columns f args → list_all (key_item_fits t.columns) keys ≡ true → state_in (f, args) keys t 0 m q ≡ state_in (f, args) keys u k (k + m) q
  unfolding state_in
  kept-moved f args keys q call fits =
      state-moved f args (rows_with keys t 0 m q) call (below m (rows_with keys t 0 m q) (with-inside keys t 0 m q (omega arith)))
      ∙ ap (state_at (f, args) u) (with-moved keys q fits)

  states-moved : (cs : List (Aggregate × List BExpr)) (keys : List BItem) → AreFitting t.columns cs → list_all (key_item_fits t.columns) keys ≡ true
      → map (λ c. map (state_in c keys t 0 m) (keys_in keys t 0 m)) cs ≡ map (λ c. map (state_in c keys u k (k + m)) (keys_in keys u k (k + m))) cs
  states-moved [] keys calls fits = refl
  states-moved ((f, args) ∷ cs) keys calls fits =
      ap₂ (λ (x : List GroupKept) (xs : List (List GroupKept)). x ∷ xs)
      (map-all (state_in (f, args) keys t 0 m) (state_in (f, args) keys u k (k + m)) (keys_in keys t 0 m) (λ q. kept-moved f args keys q calls.0 fits)
      ∙ ap (map (state_in (f, args) keys u k (k + m))) (keys-moved keys fits))
      (states-moved cs keys calls.1 fits)

  pub groups-moved : (g : GroupPlan) → summarize_fits g t.columns ≡ true → groups_in g t 0 m ≡ groups_in g u k (k + m)
  unfolding groups_in
  groups-moved g fits =
      let count : m - 0 ≡ (k + m) - k = omega arith in
      let keys = keys-moved g.keys (keys-of g t.columns fits) in
      let calls = ap (λ (cs : List Column). map (λ c. call_over c cs) (calls_of g.items)) columns in
      let states = states-moved (calls_of g.items) g.keys (calls-fit t.columns g.items (items-of g t.columns fits)) (keys-of g t.columns fits) in
      same-parts (length g.keys) _ _ _ _ _ _ _ _ count keys calls states

  one-stored : (f : Aggregate) (args : List BExpr) → IsCall t.columns f args → IsStored t 0 m (f, args) → IsStored u k (k + m) (f, args)
  one-stored f args call h i low high n is =
      let j = i - k in
      let place : k + j ≡ i = omega (arith, low) in
      let lt : j < m = omega (arith, low, high) in
      let moved = args-moved t u k m columns same f args j (call-arguments t.columns f args call).0 lt in
      let here : number_of (argument (args_of (f, args) u (k + j)) 0) ≡ Some n = ap (λ p. number_of (argument (args_of (f, args) u p) 0)) place ∙ is in
      h j (omega arith) lt n (ap (λ vs. number_of (argument vs 0)) moved ∙ here)

  all-stored : (cs : List (Aggregate × List BExpr)) → AreFitting t.columns cs → AllByRecursion (IsStored t 0 m) cs → AllByRecursion (IsStored u k (k + m)) cs
  all-stored [] calls h = tt
  all-stored ((f, args) ∷ cs) calls h = (one-stored f args calls.0 h.0, all-stored cs calls.1 h.1)

  pub are-groups-moved : (g : GroupPlan) (x : Grouped) → summarize_fits g t.columns ≡ true → AreGroupsOf g t 0 m x → AreGroupsOf g u k (k + m) x
  are-groups-moved g x fits h = record {
    groups = h.groups ∙ groups-moved g fits;
    stored = record { each = all-stored (calls_of g.items) (calls-fit t.columns g.items (items-of g t.columns fits)) h.stored.each };
  }
