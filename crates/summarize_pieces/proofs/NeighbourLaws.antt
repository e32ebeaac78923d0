-- The groups of two neighbouring ranges, joined, are those of the range that both are.
use Rattle.std.proofs.Common.{◌≡◌, ◌<◌, ◌≤◌, ◌+◌, ◌-◌, ◌++◌, ℕ, zero, suc, Bool, true, false, List, [], ◌∷◌, filter, length, map, take, refl, ap, ap₂, sym, ◌∙◌, inl, inr, arith}
use Rattle.std.specs.Prelude.{All, FitsSigned, None, Option, Some, ℤ}
use Rattle.std.specs.Int.{w64}
use Rattle.std.specs.List.{AllByRecursion, list_any, range_with_len}
use Rattle.std.proofs.lemmas.Bool.{cases_Bool, cases_lt}
use Rattle.std.proofs.lemmas.Bool.Decides.{nat_tests}
use Rattle.std.proofs.lemmas.List.{append-nil, map-append}
use Rattle.std.proofs.lemmas.List.Elements.{All-from_recursion, filter-append}
use Rattle.kql_cells.specs.Keys.{same_keys, same_keys-decides}
use Rattle.kql_cells.specs.Table.{Grid}
use Rattle.kql_cells.specs.declared.schema.Column.{Column}
use Rattle.kql_cells.specs.declared.value.Kind.{Kind}
use Rattle.kql_cells.specs.declared.value.Kind.TheVariants as kind
use Rattle.kql_cells.specs.declared.value.Value.{Value}
use Rattle.kql_cells.specs.declared.value.Value.TheVariants as value
use Rattle.kql_keys.specs.Numbers.{distinct}
use Rattle.kql_keys.proofs.NumberFacts.{any-distinct}
use Rattle.kql_scalar_fns.specs.Arguments.{argument}
use Rattle.kql_functions.specs.declared.aggregate.Aggregate.{Aggregate}
use Rattle.kql_functions.specs.declared.aggregate.Aggregate.TheVariants as aggregate
use Rattle.kql_meaning.specs.FittingExpressions.{aggregate_takes}
use Rattle.kql_bound.specs.declared.expr.BExpr.{BExpr}
use Rattle.kql_bound.specs.declared.parts.BItem.{BItem}
use Rattle.kql_bound.specs.declared.parts.GroupPlan.{GroupPlan}
use Rattle.kql_meaning.specs.declared.position.Position.TheVariants as position
use Rattle.kql_meaning.specs.Expressions.{first_kind, kind_of, kinds_in, val, values_in}
use Rattle.kql_meaning.specs.FittingOperators.{summarize_fits}
use Rattle.kql_meaning.specs.Groups.{key_by}
use Rattle.kql_meaning.specs.Values.{number_of}
use Rattle.kql_fit_laws.specs.LawsOfExpressions.{FitsKnown, RecordsFit, no_steps}
use Rattle.kql_fit_laws.specs.LawsOfRows.{IsTable}
use Rattle.kql_fit_laws.proofs.ExpressionLaws.{expressions_keep}
use Rattle.kql_scalar.specs.Rows.{rows}
use Rattle.agg_folds.specs.Calls.{call_of, needs}
use Rattle.agg_folds.specs.Laws.{IsLike}
use Rattle.agg_folds.specs.Pieces.{IsRowOf, kind_or_long}
use Rattle.summarize_op.specs.Calls.{IsCall}
use Rattle.summarize_pieces.specs.Calls.{calls_of}
use Rattle.summarize_pieces.specs.Joined.{further_numbers, joined_groups, joined_states, with_groups, with_kept}
use Rattle.summarize_pieces.specs.Pieces.{AreGroupsOf, AreNeighbours, AreStored, GroupKept, Grouped, args_at, args_of, call_over, groups_in, keys_in, rows_with, state_at, state_in}
use Rattle.summarize_pieces.proofs.ChosenLaws.{states-join}
use Rattle.summarize_pieces.proofs.ColumnSteps.{fits_plain}
use Rattle.summarize_pieces.proofs.JoinLaws.{states-joined}
use Rattle.summarize_pieces.proofs.KeyLists.{Distinct, distinct-distinct, distinct-twice, or-none, turned}
use Rattle.summarize_pieces.proofs.PlanSteps.{call-arguments, calls-fit, items-of}
use Rattle.std.specs.List.{list_all}
use Rattle.std.proofs.lemmas.Bool.{and_parts}

-- Rows of both ranges.

range-both : (a m n : ℕ) → range_with_len a m ++ range_with_len (a + m) n ≡ range_with_len a (m + n)
range-both a zero n = let e : a + 0 ≡ a = omega arith in let f : 0 + n ≡ n = omega arith in ap₂ range_with_len e (sym f)
range-both a (suc m) n =
    let e : a + suc m ≡ (a + 1) + m = omega arith in
    let f : suc m + n ≡ suc (m + n) = omega arith in
    ap (λ (is : List ℕ). a ∷ is) (ap (λ b. range_with_len (a + 1) m ++ range_with_len b n) e ∙ range-both (a + 1) m n) ∙ ap (range_with_len a) (sym f)

pub rows-both : (from middle to : ℕ) → from ≤ middle → middle ≤ to → rows from middle ++ rows middle to ≡ rows from to
unfolding rows
rows-both from middle to low high =
    let e : from + (middle - from) ≡ middle = omega (arith, low) in
    let f : (middle - from) + (to - middle) ≡ to - from = omega (arith, low, high) in
    ap (λ a. range_with_len from (middle - from) ++ range_with_len a (to - middle)) (sym e) ∙ (range-both from (middle - from) (to - middle) ∙ ap (range_with_len from) f)

-- Keys of both ranges.

pub keys-apart : (keys : List BItem) (t : Grid) (from to : ℕ) → Distinct same_keys (keys_in keys t from to)
unfolding keys_in
keys-apart [] t from to = (refl, tt)
keys-apart (key ∷ keys) t from to = distinct-distinct same_keys same_keys-decides (map (key_by (key ∷ keys) t) (rows from to))

pub keys-both : (keys : List BItem) (t : Grid) (from middle to : ℕ) → from ≤ middle → middle ≤ to → distinct same_keys (keys_in keys t from middle ++ keys_in keys t middle to) ≡ keys_in keys t from to
unfolding keys_in
keys-both [] t from middle to low high = let itself : same_keys [] [] ≡ true = (same_keys-decides [] []).1 refl in rw itself refl
keys-both (key ∷ keys) t from middle to low high =
    let k = key_by (key ∷ keys) t in
    distinct-twice same_keys same_keys-decides (map k (rows from middle)) (map k (rows middle to))
    ∙ ap (distinct same_keys) (sym (map-append k (rows from middle) (rows middle to)) ∙ ap (map k) (rows-both from middle to low high))

-- The rows of a key that is not there.

none-with : (key : ℕ → List Value) (k : List Value) (is : List ℕ) → list_any (same_keys k) (map key is) ≡ false → filter (λ i. same_keys (key i) k) is ≡ []
none-with key k [] e = refl
none-with key k (i ∷ is) e =
    let q = or-none (same_keys k (key i)) (list_any (same_keys k) (map key is)) e in
    let back : same_keys (key i) k ≡ false = turned same_keys same_keys-decides (key i) k ∙ q.0 in
    rw back (none-with key k is q.1)

no-key : (t : Grid) (k : List Value) (is : List ℕ) → same_keys k [] ≡ false → filter (λ i. same_keys (key_by [] t i) k) is ≡ []
unfolding key_by
no-key t k [] e = refl
no-key t k (i ∷ is) e =
    let back : same_keys [] k ≡ false = turned same_keys same_keys-decides [] k ∙ e in
    rw back (no-key t k is e)

pub rows-none : (keys : List BItem) (t : Grid) (from to : ℕ) (k : List Value) → list_any (same_keys k) (keys_in keys t from to) ≡ false → rows_with keys t from to k ≡ []
unfolding keys_in rows_with
rows-none [] t from to k e = no-key t k (rows from to) (or-none (same_keys k []) false e).0
rows-none (key ∷ keys) t from to k e =
    none-with (key_by (key ∷ keys) t) k (rows from to) (sym (any-distinct same_keys same_keys-decides k (map (key_by (key ∷ keys) t) (rows from to))) ∙ e)

pub with-both : (keys : List BItem) (t : Grid) (from middle to : ℕ) (k : List Value) → from ≤ middle → middle ≤ to → rows_with keys t from to k ≡ rows_with keys t from middle k ++ rows_with keys t middle to k
unfolding rows_with
with-both keys t from middle to k low high =
    let p = λ (i : ℕ). same_keys (key_by keys t i) k in
    ap (filter p) (sym (rows-both from middle to low high)) ∙ filter-append p (rows from middle) (rows middle to)

-- Each place of a filtered range is in it.
kept-inside : (p : ℕ → Bool) (a n m : ℕ) (b : ℕ) → b ≤ a → a + n ≤ m → AllByRecursion (λ i. (b ≤ i) × (i < m)) (filter p (range_with_len a n))
kept-inside p a zero m b low high = tt
kept-inside p a (suc n) m b low high =
    let rest = kept-inside p (a + 1) n m b (omega (arith, low)) (omega (arith, high)) in
    elim (cases_Bool (p a)) [ inl t ↦ rw t ((low, omega (arith, high)), rest) | inr n ↦ rw n rest ]

pub with-inside : (keys : List BItem) (t : Grid) (from to : ℕ) (k : List Value) → from ≤ to → AllByRecursion (λ i. (from ≤ i) × (i < to)) (rows_with keys t from to k)
unfolding rows_with rows
with-inside keys t from to k order = kept-inside (λ i. same_keys (key_by keys t i) k) from (to - from) to from (omega arith) (omega (arith, order))

like-null : IsLike kind.Long value.Null
unfolding number_of
like-null = record { kind = tt; number = λ n e. absurd (cc e) }

of-known : (o : Option Kind) (v : Value) → FitsKnown o v → ((n : ℤ) → number_of v ≡ Some n → FitsSigned w64 n) → IsLike (kind_or_long o) v
unfolding kind_or_long
of-known None v h stored = absurd h
of-known (Some k) v h stored = record { kind = h.0; number = stored }

no-records : (columns : List Column) → RecordsFit columns []
no-records columns k d l = absurd (omega arith)

-- A call with an argument reads one.
reads-one : (f : Aggregate) (e : BExpr) (es : List BExpr) (cs : List Column) → aggregate_takes f (e ∷ es) cs ≡ true → 1 ≤ needs f
unfolding aggregate_takes needs
reads-one aggregate.Count e es cs h = absurd (grind (arith, nat_tests))
reads-one _ e es cs h = omega arith

first-like : (n : ℕ) (e : BExpr) (es : List BExpr) (t : Grid) (i : ℕ) → 1 ≤ n → IsTable t → fits_plain t.columns e ≡ true → i < length t.lines → ((m : ℤ) → number_of (argument (values_in (take n (e ∷ es)) t i []) 0) ≡ Some m → FitsSigned w64 m) → IsLike (kind_or_long (first_kind (kinds_in (e ∷ es) t.columns))) (argument (values_in (take n (e ∷ es)) t i []) 0)
unfolding argument values_in first_kind kinds_in
first-like zero e es t i le h own lt stored = absurd (omega (arith, le))
first-like (suc n) e es t i le h own lt stored =
    of-known (kind_of e t.columns) (val e t i []) (expressions_keep e position.Plain t i no_steps h (no-records t.columns) (λ x. lt) own) stored

first-none : (n : ℕ) (t : Grid) (i : ℕ) → IsLike (kind_or_long (first_kind (kinds_in [] t.columns))) (argument (values_in (take n []) t i []) 0)
unfolding argument values_in first_kind kinds_in kind_or_long
first-none zero t i = like-null
first-none (suc n) t i = like-null

row-of-call : (f : Aggregate) (args : List BExpr) (t : Grid) (i : ℕ) → IsTable t → IsCall t.columns f args → i < length t.lines → ((m : ℤ) → number_of (argument (args_of (f, args) t i) 0) ≡ Some m → FitsSigned w64 m) → IsRowOf (call_over (f, args) t.columns).kind (args_of (f, args) t i)
unfolding args_of call_over call_of
row-of-call f [] t i h call lt stored = record { first = first-none (needs f) t i }
row-of-call f (e ∷ es) t i h call lt stored =
    let own = call-arguments t.columns f (e ∷ es) call in
    record { first = first-like (needs f) e es t i (reads-one f e es t.columns own.1) h (and_parts (fits_plain t.columns e) (list_all (fits_plain t.columns) es) own.0).0 lt stored }

-- The first argument of one call is stored at each row of a range.
abbrev pub IsStored : Grid → ℕ → ℕ → Aggregate × List BExpr → Type 0
IsStored t from to c = (i : ℕ) → from ≤ i → i < to → (n : ℤ) → number_of (argument (args_of c t i) 0) ≡ Some n → FitsSigned w64 n

rows-of-call : (f : Aggregate) (args : List BExpr) (t : Grid) (from to : ℕ) → IsTable t → IsCall t.columns f args → to ≤ length t.lines → IsStored t from to (f, args) → (is : List ℕ) → AllByRecursion (λ i. (from ≤ i) × (i < to)) is → AllByRecursion (IsRowOf (call_over (f, args) t.columns).kind) (args_at (f, args) t is)
unfolding args_at
rows-of-call f args t from to h call range stored [] inside = tt
rows-of-call f args t from to h call range stored (i ∷ is) inside =
    (row-of-call f args t i h call (omega (arith, inside.0.1, range)) (λ m e. stored i inside.0.0 inside.0.1 m e), rows-of-call f args t from to h call range stored is inside.1)

all-rows : (f : Aggregate) (args : List BExpr) (keys : List BItem) (t : Grid) (from to : ℕ) (k : List Value) → IsTable t → IsCall t.columns f args → from ≤ to → to ≤ length t.lines → IsStored t from to (f, args) → All (IsRowOf (call_over (f, args) t.columns).kind) (args_at (f, args) t (rows_with keys t from to k))
all-rows f args keys t from to k h call order range stored =
    All-from_recursion (IsRowOf (call_over (f, args) t.columns).kind) (args_at (f, args) t (rows_with keys t from to k)) (rows-of-call f args t from to h call range stored (rows_with keys t from to k) (with-inside keys t from to k order))

-- One call over both ranges.
module _ (f : Aggregate) (args : List BExpr) (keys : List BItem) (t : Grid) (from middle to : ℕ) (h : IsTable t) (call : IsCall t.columns f args) (low : from ≤ middle) (high : middle ≤ to) (range : to ≤ length t.lines)
    (left : IsStored t from middle (f, args)) (right : IsStored t middle to (f, args)) where
  abbrev c : Aggregate × List BExpr
  c = (f, args)

  both : (k : List Value) → with_kept (state_in c keys t from middle k) (state_in c keys t middle to k) ≡ state_in c keys t from to k
  unfolding state_in
  both k =
      let first = all-rows f args keys t from middle k h call low (omega (arith, high, range)) left in
      let second = all-rows f args keys t middle to k h call high range right in
      sym (ap (state_at c t) (with-both keys t from middle to k low high) ∙ states-join f args t (rows_with keys t from middle k) (rows_with keys t middle to k) first second)

  no-more : (k : List Value) → list_any (same_keys k) (keys_in keys t middle to) ≡ false → state_in c keys t from middle k ≡ state_in c keys t from to k
  unfolding state_in
  no-more k e =
      let none = rows-none keys t middle to k e in
      ap (state_at c t) (sym (with-both keys t from middle to k low high ∙ (ap (λ (is : List ℕ). rows_with keys t from middle k ++ is) none ∙ append-nil (rows_with keys t from middle k))))

  none-yet : (k : List Value) → list_any (same_keys k) (keys_in keys t from middle) ≡ false → state_in c keys t middle to k ≡ state_in c keys t from to k
  unfolding state_in
  none-yet k e =
      let none = rows-none keys t from middle k e in
      ap (state_at c t) (sym (with-both keys t from middle to k low high ∙ ap (λ (is : List ℕ). is ++ rows_with keys t middle to k) none))

  one-joined : with_groups (length (keys_in keys t from middle)) (map (state_in c keys t from middle) (keys_in keys t from middle)) (further_numbers (keys_in keys t from middle) (keys_in keys t middle to)) (map (state_in c keys t middle to) (keys_in keys t middle to)) ≡ map (state_in c keys t from to) (keys_in keys t from to)
  one-joined =
      states-joined (state_in c keys t from middle) (state_in c keys t middle to) (state_in c keys t from to) (keys_in keys t from middle) (keys_in keys t middle to) (keys-apart keys t from middle) (keys-apart keys t middle to) both no-more none-yet
      ∙ ap (map (state_in c keys t from to)) (keys-both keys t from middle to low high)

all-joined : (cs : List (Aggregate × List BExpr)) (keys : List BItem) (t : Grid) (from middle to : ℕ) → IsTable t → AllByRecursion (λ (c : Aggregate × List BExpr). IsCall t.columns c.0 c.1) cs → from ≤ middle → middle ≤ to → to ≤ length t.lines → AllByRecursion (IsStored t from middle) cs → AllByRecursion (IsStored t middle to) cs
    → joined_states (length (keys_in keys t from middle)) (map (λ c. map (state_in c keys t from middle) (keys_in keys t from middle)) cs) (further_numbers (keys_in keys t from middle) (keys_in keys t middle to)) (map (λ c. map (state_in c keys t middle to) (keys_in keys t middle to)) cs) ≡ map (λ c. map (state_in c keys t from to) (keys_in keys t from to)) cs
unfolding joined_states
all-joined [] keys t from middle to h calls low high range left right = refl
all-joined ((f, args) ∷ cs) keys t from middle to h calls low high range left right =
    ap₂ (λ (x : List GroupKept) (xs : List (List GroupKept)). x ∷ xs)
    (one-joined f args keys t from middle to h calls.0 low high range left.0 right.0)
    (all-joined cs keys t from middle to h calls.1 low high range left.1 right.1)

pub stored-both : (cs : List (Aggregate × List BExpr)) (t : Grid) (from middle to : ℕ) → AllByRecursion (IsStored t from middle) cs → AllByRecursion (IsStored t middle to) cs → AllByRecursion (IsStored t from to) cs
stored-both [] t from middle to left right = tt
stored-both (c ∷ cs) t from middle to left right = (
  λ i low high. elim (cases_lt i middle) [
    | inl lt ↦ left.0 i low lt
    | inr le ↦ right.0 i le high
  ],
  stored-both cs t from middle to left.1 right.1,
)

pub law : (g : GroupPlan) (t : Grid) (from middle to : ℕ) → IsTable t → summarize_fits g t.columns ≡ true → from ≤ middle → middle ≤ to → to ≤ length t.lines → AreStored g t from middle → AreStored g t middle to → joined_groups (groups_in g t from middle) (groups_in g t middle to) ≡ groups_in g t from to
unfolding joined_groups groups_in
law g t from middle to h fits low high range left right =
    let count : (middle - from) + (to - middle) ≡ to - from = omega (arith, low, high) in
    rw (count, keys-both g.keys t from middle to low high, all-joined (calls_of g.items) g.keys t from middle to h (calls-fit t.columns g.items (items-of g t.columns fits)) low high range left.each right.each) refl

pub groups-joined : (a b x : Grouped) (n : AreNeighbours a b) → x ≡ joined_groups a b → AreGroupsOf n.plan n.table n.from n.to x
groups-joined a b x n is = record {
  groups = is ∙ (ap₂ joined_groups n.left.groups n.right.groups ∙ law n.plan n.table n.from n.middle n.to n.whole n.fits n.first n.second n.range n.left.stored n.right.stored);
  stored = record { each = stored-both (calls_of n.plan.items) n.table n.from n.middle n.to n.left.stored.each n.right.stored.each };
}
