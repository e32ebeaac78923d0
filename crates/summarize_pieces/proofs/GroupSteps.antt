-- The groups of a range.
use Rattle.std.proofs.Common.{◌≡◌, ◌<◌, ◌≤◌, ◌+◌, ◌-◌, ◌++◌, ◌==◌, ℕ, zero, suc, Bool, true, false, not, List, [], ◌∷◌, filter, get_or, length, map, take, refl, ap, ap₂, sym, ◌∙◌, subst, inl, inr, arith}
use Rattle.std.specs.Prelude.{All, FitsSigned, None, Option, Some, ℤ, option_map, slice_get, slice_index_or}
use Rattle.std.specs.Int.{w64}
use Rattle.std.specs.List.{AllByRecursion, list_all, range_with_len}
use Rattle.std.proofs.lemmas.Bool.{and_parts, cases_Bool}
use Rattle.std.proofs.lemmas.Bool.Decides.{nat_tests}
use Rattle.std.proofs.lemmas.List.{length-map, map-append, take_more}
use Rattle.std.proofs.lemmas.List.Elements.{All-append, All-from_recursion, recursion_from_All}
use Rattle.std.proofs.lemmas.List.FromFn.{length-map-range_with_len}
use Rattle.kql_cells.specs.Keys.{same_keys, same_keys-decides}
use Rattle.kql_cells.specs.Table.{Grid}
use Rattle.kql_cells.specs.Values.{IsWellFormed}
use Rattle.kql_cells.specs.declared.schema.Column.{Column}
use Rattle.kql_cells.specs.declared.value.Kind.{Kind}
use Rattle.kql_cells.specs.declared.value.Value.{Value}
use Rattle.kql_values.specs.Grids.{HaveLength, row_of}
use Rattle.kql_keys.specs.Numbers.{distinct, numbers_of}
use Rattle.kql_keys.specs.Places.{places_of}
use Rattle.kql_keys.proofs.KeyLaws.{group-rows}
use Rattle.kql_scalar_fns.specs.Arguments.{AreWellFormed, argument}
use Rattle.kql_meaning.specs.Values.{number_of}
use Rattle.kql_functions.specs.declared.aggregate.Aggregate.{Aggregate}
use Rattle.kql_bound.specs.declared.expr.BExpr.{BExpr}
use Rattle.kql_bound.specs.declared.parts.BItem.{BItem}
use Rattle.kql_bound.specs.declared.parts.GroupPlan.{GroupPlan}
use Rattle.kql_meaning.specs.declared.position.Position.TheVariants as position
use Rattle.kql_meaning.specs.Expressions.{kind_of, val, values_in}
use Rattle.kql_meaning.specs.Groups.{key_by}
use Rattle.kql_meaning.proofs.ListLaws.{every-map-range}
use Rattle.kql_fit_laws.specs.LawsOfExpressions.{FitsKnown, RecordsFit, no_steps}
use Rattle.kql_fit_laws.specs.LawsOfRows.{IsTable}
use Rattle.kql_fit_laws.proofs.ExpressionLaws.{expressions_keep}
use Rattle.kql_row_laws.proofs.GatheredLaws.{at-each}
use Rattle.kql_scalar.specs.Rows.{rows}
use Rattle.agg_folds.specs.Calls.{call_of, needs}
use Rattle.agg_folds.specs.Folds.{chosen_row}
use Rattle.agg_folds.specs.States.{Kept, fold_of}
use Rattle.agg_folds.specs.declared.call.FoldCall.{FoldCall}
use Rattle.summarize_op.specs.Calls.{IsCall}
use Rattle.summarize_op.specs.Grouped.{AreFormed}
use Rattle.summarize_op.specs.Passes.{folds_of, group_args}
use Rattle.summarize_pieces.specs.Calls.{calls_of, further_args}
use Rattle.summarize_pieces.specs.Pieces.{Called, CanBeFolded, GroupKept, IsRead, Piece, AreStored, ColumnsStored, args_at, args_of, call_over, called, cells_of, columns_along, further_at, group_keys, group_state, group_states, groups_in, keys_in, piece_of, rows_with, state_at, state_in, values_along}
use Rattle.summarize_pieces.proofs.KeyLists.{turned}
use Rattle.summarize_pieces.proofs.PlanSteps.{along-long, along-row, call-arguments, calls-fit, items-of, map-shift, take-plain}
use Rattle.summarize_pieces.proofs.ColumnSteps.{fits_plain}

-- The keys.

no-key-once : (keys : ℕ → List Value) (is : List ℕ) (i : ℕ) → ((j : ℕ) → keys j ≡ []) → distinct same_keys (map keys (i ∷ is)) ≡ [] ∷ []
no-key-once keys [] i h = ap (λ (k : List Value). k ∷ []) (h i)
no-key-once keys (j ∷ is) i h =
    let rest = no-key-once keys is j h in
    let itself : same_keys (keys i) [] ≡ true = (same_keys-decides (keys i) []).1 (h i) in
    ap (λ (ks : List (List Value)). keys i ∷ filter (λ j. not (same_keys (keys i) j)) ks) rest ∙ rw itself (ap (λ (k : List Value). k ∷ []) (h i))

no-keys : (t : Grid) (i : ℕ) → key_by [] t i ≡ []
unfolding key_by
no-keys t i = refl

no-key-group : (t : Grid) (is : List ℕ) → group_keys 0 (map (key_by [] t) is) ≡ [] ∷ []
unfolding group_keys
no-key-group t [] = refl
no-key-group t (i ∷ is) =
    let some : (length (map (key_by [] t) (i ∷ is)) == 0) ≡ false = grind (arith, nat_tests) in
    rw some (no-key-once (key_by [] t) is i (no-keys t))

some-key-group : (n : ℕ) (ks : List (List Value)) → group_keys (suc n) ks ≡ distinct same_keys ks
unfolding group_keys
some-key-group n ks = let some : (suc n == 0) ≡ false = grind (arith, nat_tests) in rw some refl

pub keys-are : (keys : List BItem) (t : Grid) (from to : ℕ) → group_keys (length keys) (map (key_by keys t) (rows from to)) ≡ keys_in keys t from to
unfolding keys_in
keys-are [] t from to = no-key-group t (rows from to)
keys-are (key ∷ keys) t from to = some-key-group (length keys) (map (key_by (key ∷ keys) t) (rows from to))

pub keys-many : (keys : List BItem) (t : Grid) (from to : ℕ) → length (map (key_by keys t) (rows from to)) ≡ to - from
unfolding rows
keys-many keys t from to = length-map-range_with_len (key_by keys t) from (to - from)

-- The rows of a number.

filter-shift : {X : Type 0} (f : ℕ → X) (q : ℕ → Bool) (a b n : ℕ) → map (λ i. f (a + i)) (filter (λ i. q (a + i)) (range_with_len b n)) ≡ map f (filter q (range_with_len (a + b) n))
filter-shift f q a b zero = refl
filter-shift f q a b (suc n) =
    let e : a + (b + 1) ≡ (a + b) + 1 = omega arith in
    let rest = filter-shift f q a (b + 1) n ∙ ap (λ m. map f (filter q (range_with_len m n))) e in
    elim (cases_Bool (q (a + b))) [ inl t ↦ rw t (ap (λ xs. f (a + b) ∷ xs) rest) | inr n ↦ rw n rest ]

filter-agree : {X : Type 0} (f g : ℕ → X) (p q : ℕ → Bool) (a n : ℕ) → ((i : ℕ) → i < a + n → f i ≡ g i) → ((i : ℕ) → p i ≡ q i) → map f (filter p (range_with_len a n)) ≡ map g (filter q (range_with_len a n))
filter-agree f g p q a zero h e = refl
filter-agree f g p q a (suc n) h e =
    let rest = filter-agree f g p q (a + 1) n (λ i lt. h i (omega (arith, lt))) e in
    elim (cases_Bool (q a)) [
      | inl t ↦ let u : p a ≡ true = e a ∙ t in rw (u, t) (ap₂ (λ x xs. x ∷ xs) (h a (omega arith)) rest)
      | inr n ↦ let u : p a ≡ false = e a ∙ n in rw (u, n) rest
    ]

shifted : (keys : ℕ → List Value) (from n : ℕ) → map (λ i. keys (from + i)) (range_with_len 0 n) ≡ map keys (range_with_len from n)
shifted keys from n = let e : from + 0 ≡ from = omega arith in map-shift keys from 0 n ∙ ap (λ m. map keys (range_with_len m n)) e

numbered : (es : List BExpr) (t : Grid) (key : ℕ → List Value) (from to g : ℕ) → g < length (distinct same_keys (map key (rows from to)))
    → group_args (columns_along es t from to) (numbers_of same_keys (map key (rows from to))) g ≡ map (λ i. values_in es t i []) (filter (λ i. same_keys (key i) (get_or (distinct same_keys (map key (rows from to))) g [])) (rows from to))
unfolding group_args rows
numbered es t key from to g lt =
    let n = to - from in
    let own = λ (i : ℕ). key (from + i) in
    let e : map own (range_with_len 0 n) ≡ map key (range_with_len from n) = shifted key from n in
    let k = get_or (distinct same_keys (map key (range_with_len from n))) g [] in
    let inner : g < length (distinct same_keys (map own (range_with_len 0 n))) = subst (λ (ks : List (List Value)). g < length (distinct same_keys ks)) (sym e) lt in
    let at : places_of (numbers_of same_keys (map key (range_with_len from n))) g ≡ filter (λ i. same_keys k (own i)) (range_with_len 0 n) = subst (λ (ks : List (List Value)). places_of (numbers_of same_keys ks) g ≡ filter (λ i. same_keys (get_or (distinct same_keys ks) g []) (own i)) (range_with_len 0 n)) e (group-rows same_keys same_keys-decides own n g [] inner) in
    let start : from + 0 ≡ from = omega arith in
    ap (map (row_of (columns_along es t from to))) at
    ∙ (filter-agree (row_of (columns_along es t from to)) (λ i. values_in es t (from + i) []) (λ i. same_keys k (own i)) (λ i. same_keys (own i) k) 0 n (λ i lt. along-row es t from to i (omega (arith, lt))) (λ i. turned same_keys same_keys-decides k (own i))
    ∙ (filter-shift (λ i. values_in es t i []) (λ i. same_keys (key i) k) from 0 n
    ∙ ap (λ m. map (λ i. values_in es t i []) (filter (λ i. same_keys (key i) k) (range_with_len m n))) start))

no-places : (columns : List (List Value)) (g : ℕ) → group_args columns [] g ≡ []
unfolding group_args places_of
no-places columns g = refl

-- Each row without keys has the key of the one group.
pub all-same : (t : Grid) (is : List ℕ) → filter (λ i. same_keys (key_by [] t i) []) is ≡ is
all-same t [] = refl
all-same t (i ∷ is) =
    let itself : same_keys (key_by [] t i) [] ≡ true = (same_keys-decides (key_by [] t i) []).1 (no-keys t i) in
    rw itself (ap (λ (js : List ℕ). i ∷ js) (all-same t is))

-- The arguments at the rows of a group.

own-args : (es : List BExpr) (keys : List BItem) (t : Grid) (from to g : ℕ) → g < length (distinct same_keys (map (key_by keys t) (rows from to)))
    → group_args (columns_along es t from to) (numbers_of same_keys (map (key_by keys t) (rows from to))) g ≡ map (λ i. values_in es t i []) (rows_with keys t from to (get_or (distinct same_keys (map (key_by keys t) (rows from to))) g []))
unfolding rows_with
own-args es keys t from to g lt = numbered es t (key_by keys t) from to g lt

no-args : (es : List BExpr) (t : Grid) (from to g : ℕ) → rows from to ≡ [] → group_args (columns_along es t from to) (numbers_of same_keys (map (key_by [] t) (rows from to))) g ≡ map (λ i. values_in es t i []) (rows_with [] t from to [])
unfolding rows_with numbers_of
no-args es t from to g none =
    ap (λ (is : List ℕ). group_args (columns_along es t from to) (numbers_of same_keys (map (key_by [] t) is)) g) none
    ∙ (no-places (columns_along es t from to) g
    ∙ ap (λ (is : List ℕ). map (λ i. values_in es t i []) (filter (λ i. same_keys (key_by [] t i) []) is)) (sym none))

one-args : (es : List BExpr) (t : Grid) (from to : ℕ) (is : List ℕ) → rows from to ≡ is → group_args (columns_along es t from to) (numbers_of same_keys (map (key_by [] t) (rows from to))) 0 ≡ map (λ i. values_in es t i []) (rows_with [] t from to [])
one-args es t from to [] e = no-args es t from to 0 e
one-args es t from to (i ∷ is) e =
    let once : distinct same_keys (map (key_by [] t) (rows from to)) ≡ [] ∷ [] = ap (λ (js : List ℕ). distinct same_keys (map (key_by [] t) js)) e ∙ no-key-once (key_by [] t) is i (no-keys t) in
    let lt : 0 < length (distinct same_keys (map (key_by [] t) (rows from to))) = subst (λ (ks : List (List Value)). 0 < length ks) (sym once) (omega arith) in
    own-args es [] t from to 0 lt ∙ ap (λ (ks : List (List Value)). map (λ i. values_in es t i []) (rows_with [] t from to (get_or ks 0 []))) once

pub values-of-group : (es : List BExpr) (keys : List BItem) (t : Grid) (from to g : ℕ) → g < length (keys_in keys t from to)
    → group_args (columns_along es t from to) (numbers_of same_keys (map (key_by keys t) (rows from to))) g ≡ map (λ i. values_in es t i []) (rows_with keys t from to (slice_index_or (keys_in keys t from to) g []))
unfolding keys_in
values-of-group es (key ∷ keys) t from to g lt = own-args es (key ∷ keys) t from to g lt
values-of-group es [] t from to zero lt = one-args es t from to (rows from to) refl
values-of-group es [] t from to (suc g) lt = absurd (omega (arith, lt))

pub args-of-group : (f : Aggregate) (args : List BExpr) (keys : List BItem) (t : Grid) (from to g : ℕ) → g < length (keys_in keys t from to)
    → group_args (columns_along (take (needs f) args) t from to) (numbers_of same_keys (map (key_by keys t) (rows from to))) g ≡ args_at (f, args) t (rows_with keys t from to (slice_index_or (keys_in keys t from to) g []))
unfolding args_at args_of
args-of-group f args keys t from to g lt = values-of-group (take (needs f) args) keys t from to g lt

-- The further columns at a row of a group.

get-map : {X Y : Type 0} (f : X → Y) (xs : List X) (n : ℕ) → slice_get (map f xs) n ≡ option_map f (slice_get xs n)
get-map f [] n = refl
get-map f (x ∷ xs) zero = refl
get-map f (x ∷ xs) (suc n) = get-map f xs n

abbrev row_or_none : Option (List Value) → List Value
row_or_none None = []
row_or_none (Some vs) = vs

by-place : (columns : List (List Value)) (o : Option ℕ) → cells_of columns o ≡ row_or_none (option_map (row_of columns) o)
unfolding cells_of
by-place columns None = refl
by-place columns (Some i) = refl

by-row : (es : List BExpr) (t : Grid) (o : Option ℕ) → further_at es t o ≡ row_or_none (option_map (λ i. values_in es t i []) o)
unfolding further_at
by-row es t None = refl
by-row es t (Some i) = refl

further-is : (es : List BExpr) (keys : List BItem) (t : Grid) (from to g n : ℕ) → g < length (keys_in keys t from to)
    → cells_of (columns_along es t from to) (slice_get (places_of (numbers_of same_keys (map (key_by keys t) (rows from to))) g) n) ≡ further_at es t (slice_get (rows_with keys t from to (slice_index_or (keys_in keys t from to) g [])) n)
unfolding group_args
further-is es keys t from to g n lt =
    let places = places_of (numbers_of same_keys (map (key_by keys t) (rows from to))) g in
    let is = rows_with keys t from to (slice_index_or (keys_in keys t from to) g []) in
    let f = row_of (columns_along es t from to) in
    let h = λ (i : ℕ). values_in es t i [] in
    let same : map f places ≡ map h is = values-of-group es keys t from to g lt in
    by-place (columns_along es t from to) (slice_get places n)
    ∙ (ap row_or_none (sym (get-map f places n) ∙ (ap (λ (rs : List (List Value)). slice_get rs n) same ∙ get-map h is n))
    ∙ sym (by-row es t (slice_get is n)))

-- What is kept of the groups.

group-is : (f : Aggregate) (args : List BExpr) (keys : List BItem) (t : Grid) (from to g : ℕ) → g < length (keys_in keys t from to) → group_state (called t from to (f, args)) (numbers_of same_keys (map (key_by keys t) (rows from to))) g ≡ state_in (f, args) keys t from to (slice_index_or (keys_in keys t from to) g [])
unfolding group_state called state_in state_at call_over
group-is f args keys t from to g lt =
    let call = call_of f args t.columns in
    let k = slice_index_or (keys_in keys t from to) g [] in
    let own = args-of-group f args keys t from to g lt in
    ap₂ (λ (x : Kept) (vs : List Value). record { kept = x; further = vs }) (ap (fold_of call) own)
    (ap (λ (rs : List (List Value)). cells_of (columns_along (further_args (f, args)) t from to) (slice_get (places_of (numbers_of same_keys (map (key_by keys t) (rows from to))) g) (chosen_row call rs))) own
    ∙ further-is (further_args (f, args)) keys t from to g (chosen_row call (args_at (f, args) t (rows_with keys t from to k))) lt)

one-state : (f : Aggregate) (args : List BExpr) (keys : List BItem) (t : Grid) (from to : ℕ) → group_states (called t from to (f, args)) (numbers_of same_keys (map (key_by keys t) (rows from to))) (length (keys_in keys t from to)) ≡ map (state_in (f, args) keys t from to) (keys_in keys t from to)
unfolding group_states
one-state f args keys t from to =
    at-each [] (group_state (called t from to (f, args)) (numbers_of same_keys (map (key_by keys t) (rows from to)))) (state_in (f, args) keys t from to) (keys_in keys t from to)
    (λ g lt. group-is f args keys t from to g lt)

states-are : (cs : List (Aggregate × List BExpr)) (keys : List BItem) (t : Grid) (from to : ℕ) → map (λ (c : Called). group_states c (numbers_of same_keys (map (key_by keys t) (rows from to))) (length (keys_in keys t from to))) (map (called t from to) cs) ≡ map (λ c. map (state_in c keys t from to) (keys_in keys t from to)) cs
states-are [] keys t from to = refl
states-are ((f, args) ∷ cs) keys t from to = ap₂ (λ (x : List GroupKept) (xs : List (List GroupKept)). x ∷ xs) (one-state f args keys t from to) (states-are cs keys t from to)

over-calls : (cs : List (Aggregate × List BExpr)) (t : Grid) (from to : ℕ) → map (λ (c : Called). c.call) (map (called t from to) cs) ≡ map (λ (c : Aggregate × List BExpr). call_over c t.columns) cs
unfolding called call_over
over-calls [] t from to = refl
over-calls ((f, args) ∷ cs) t from to = ap (λ (xs : List FoldCall). call_of f args t.columns ∷ xs) (over-calls cs t from to)

pub piece-groups : (g : GroupPlan) (t : Grid) (from to : ℕ) (p : Piece) (count width : ℕ) (keys : List (List Value)) (numbers : List ℕ) (calls : List FoldCall) (states : List (List GroupKept)) → p ≡ piece_of g t from to → count ≡ length p.keys → width ≡ p.width → keys ≡ group_keys p.width p.keys → numbers ≡ numbers_of same_keys p.keys
    → calls ≡ map (λ (c : Called). c.call) p.calls → states ≡ map (λ (c : Called). group_states c numbers (length keys)) p.calls → record { count = count; width = width; keys = keys; calls = calls; states = states } ≡ groups_in g t from to
unfolding groups_in piece_of
piece-groups g t from to p count width keys numbers calls states is ec ew ek en el es =
    let ks = map (key_by g.keys t) (rows from to) in
    let pk : p.keys ≡ ks = ap (λ (q : Piece). q.keys) is in
    let pw : p.width ≡ length g.keys = ap (λ (q : Piece). q.width) is in
    let pc : p.calls ≡ map (called t from to) (calls_of g.items) = ap (λ (q : Piece). q.calls) is in
    let own : keys ≡ keys_in g.keys t from to = ek ∙ (ap₂ group_keys pw pk ∙ keys-are g.keys t from to) in
    let size : count ≡ to - from = ec ∙ (ap (λ (js : List (List Value)). length js) pk ∙ keys-many g.keys t from to) in
    let wide : width ≡ length g.keys = ew ∙ pw in
    let over : calls ≡ map (λ (c : Aggregate × List BExpr). call_over c t.columns) (calls_of g.items) = el ∙ (ap (map (λ (c : Called). c.call)) pc ∙ over-calls (calls_of g.items) t from to) in
    let kept : states ≡ map (λ c. map (state_in c g.keys t from to) (keys_in g.keys t from to)) (calls_of g.items) =
    es
    ∙ (ap (map (λ (c : Called). group_states c numbers (length keys))) pc
    ∙ (ap₂ (λ (ns : List ℕ) (js : List (List Value)). map (λ (c : Called). group_states c ns (length js)) (map (called t from to) (calls_of g.items))) (en ∙ ap (numbers_of same_keys) pk) own
    ∙ states-are (calls_of g.items) g.keys t from to)) in
    rw (size, wide, own, over, kept) refl

pub fold-calls-none : (cs : List Called) → map (λ (c : Called). c.call) (take 0 cs) ≡ []
fold-calls-none cs = refl

pub ruleset call_steps = (fold-calls-none)

pub fold-calls-more : (cs : List Called) (i : ℕ) (c : Called) (x : FoldCall) (old new : List FoldCall) → i < length cs → c ≡ get_or cs i c → x ≡ c.call → old ≡ map (λ (c : Called). c.call) (take i cs) → new ≡ old ++ x ∷ [] → new ≡ map (λ (c : Called). c.call) (take (i + 1) cs)
fold-calls-more cs i c x old new lt is own before after =
    let f = λ (c : Called). c.call in
    after
    ∙ (ap₂ (λ (xs : List FoldCall) (y : FoldCall). xs ++ y ∷ []) before (own ∙ ap f is)
    ∙ (sym (map-append f (take i cs) (get_or cs i c ∷ [])) ∙ ap (map f) (sym (take_more cs i c lt))))

-- What can be folded.

no-records : (columns : List Column) → RecordsFit columns []
no-records columns k d l = absurd (omega arith)

known-form : (o : Option Kind) (v : Value) → FitsKnown o v → IsWellFormed v
known-form None v h = absurd h
known-form (Some k) v h = h.1

column-formed : (e : BExpr) (t : Grid) (from to : ℕ) → IsTable t → fits_plain t.columns e ≡ true → from ≤ to → to ≤ length t.lines → AreWellFormed (values_along e t from to)
unfolding values_along rows
column-formed e t from to h fits order range = record {
  each = All-from_recursion IsWellFormed (map (λ i. val e t i []) (range_with_len from (to - from)))
      (every-map-range IsWellFormed (λ i. val e t i []) from (to - from) (λ i low high. known-form (kind_of e t.columns) (val e t i []) (expressions_keep e position.Plain t i no_steps h (no-records t.columns) (λ x. omega (arith, high, order, range)) fits)));
}

columns-formed : (es : List BExpr) (t : Grid) (from to : ℕ) → IsTable t → list_all (fits_plain t.columns) es ≡ true → from ≤ to → to ≤ length t.lines → AllByRecursion AreWellFormed (columns_along es t from to)
unfolding columns_along
columns-formed [] t from to h fits order range = tt
columns-formed (e ∷ es) t from to h fits order range =
    let parts = and_parts (fits_plain t.columns e) (list_all (fits_plain t.columns) es) fits in
    (column-formed e t from to h parts.0 order range, columns-formed es t from to h parts.1 order range)

one-can : (f : Aggregate) (args : List BExpr) (t : Grid) (from to : ℕ) → IsTable t → IsCall t.columns f args → from ≤ to → to ≤ length t.lines → CanBeFolded (to - from) (called t from to (f, args))
unfolding called
one-can f args t from to h call order range =
    let es = take (needs f) args in
    record {
      long = along-long es t from to;
      form = record { each = All-from_recursion AreWellFormed (columns_along es t from to) (columns-formed es t from to h (take-plain t.columns (needs f) args (call-arguments t.columns f args call).0) order range) };
      further = along-long (further_args (f, args)) t from to;
    }

all-can : (cs : List (Aggregate × List BExpr)) (t : Grid) (from to : ℕ) → IsTable t → AllByRecursion (λ (c : Aggregate × List BExpr). IsCall t.columns c.0 c.1) cs → from ≤ to → to ≤ length t.lines → AllByRecursion (CanBeFolded (to - from)) (map (called t from to) cs)
all-can [] t from to h calls order range = tt
all-can ((f, args) ∷ cs) t from to h calls order range = (one-can f args t from to h calls.0 order range, all-can cs t from to h calls.1 order range)

pub calls-can : (p : Piece) (numbers : List ℕ) → IsRead p → numbers ≡ numbers_of same_keys p.keys → All (CanBeFolded (length numbers)) p.calls
unfolding piece_of numbers_of
calls-can p numbers h en =
    let t = h.table in
    let cs = calls_of h.plan.items in
    let pk : p.keys ≡ map (key_by h.plan.keys t) (rows h.from h.to) = ap (λ (q : Piece). q.keys) h.piece in
    let pc : p.calls ≡ map (called t h.from h.to) cs = ap (λ (q : Piece). q.calls) h.piece in
    let size : length numbers ≡ h.to - h.from = ap (λ (ns : List ℕ). length ns) en ∙ (length-map p.keys _ ∙ (ap (λ (js : List (List Value)). length js) pk ∙ keys-many h.plan.keys t h.from h.to)) in
    subst (λ n. All (CanBeFolded n) p.calls) (sym size)
    (subst (All (CanBeFolded (h.to - h.from))) (sym pc)
    (All-from_recursion (CanBeFolded (h.to - h.from)) (map (called t h.from h.to) cs) (all-can cs t h.from h.to h.whole (calls-fit t.columns h.plan.items (items-of h.plan t.columns h.fits)) h.order h.range)))

pub ruleset group_steps = (calls-can)

pub can-at : (n : ℕ) (cs : List Called) (i : ℕ) (c : Called) → All (CanBeFolded n) cs → i < length cs → c ≡ get_or cs i c → CanBeFolded n c
can-at n cs i c h lt is = subst (CanBeFolded n) (sym is) (h i c lt)

pub can-long : (n : ℕ) (c : Called) (vs : List (List Value)) → CanBeFolded n c → vs ≡ c.columns → HaveLength n vs
can-long n c vs h is = subst (HaveLength n) (sym is) h.long

pub can-further : (n : ℕ) (c : Called) → CanBeFolded n c → HaveLength n c.further
can-further n c h = h.further

pub fold-columns : (c : Called) (numbers : List ℕ) (count : ℕ) (vs : List (List Value)) (folds : List Kept) → vs ≡ c.columns → folds ≡ folds_of c.call vs numbers count → folds ≡ folds_of c.call c.columns numbers count
fold-columns c numbers count vs folds own is = is ∙ ap (λ (us : List (List Value)). folds_of c.call us numbers count) own

pub can-form : (n : ℕ) (c : Called) (vs : List (List Value)) → CanBeFolded n c → vs ≡ c.columns → AreFormed vs
can-form n c vs h is = subst AreFormed (sym is) h.form

pub folds-more : (cs : List Called) (numbers : List ℕ) (count i : ℕ) (c : Called) (old new : List (List GroupKept)) (s : List GroupKept) → i < length cs → c ≡ get_or cs i c → old ≡ map (λ (c : Called). group_states c numbers count) (take i cs) → s ≡ group_states c numbers count → new ≡ old ++ s ∷ [] → new ≡ map (λ (c : Called). group_states c numbers count) (take (i + 1) cs)
folds-more cs numbers count i c old new s lt is before value after =
    rw (take_more cs i c lt, ← is, map-append (λ (c : Called). group_states c numbers count) (take i cs) (c ∷ []), ← before, ← value) after

pub calls-next : (cs : List Called) (numbers : List ℕ) (count i : ℕ) (c : Called) (old new : List (List GroupKept)) (s : List GroupKept) (vs : List (List Value)) → i < length cs → c ≡ get_or cs i c → vs ≡ c.columns
    → (old ≡ map (λ (c : Called). group_states c numbers count) (take i cs)) × All (λ (c : Called). ColumnsStored (length numbers) c.columns) (take i cs)
    → s ≡ group_states c numbers count → ColumnsStored (length numbers) vs → new ≡ old ++ s ∷ []
    → (new ≡ map (λ (c : Called). group_states c numbers count) (take (i + 1) cs)) × All (λ (c : Called). ColumnsStored (length numbers) c.columns) (take (i + 1) cs)
calls-next cs numbers count i c old new s vs lt is own before value one after =
    let P = λ (c : Called). ColumnsStored (length numbers) c.columns in
    let more : take (i + 1) cs ≡ take i cs ++ c ∷ [] = take_more cs i c lt ∙ ap (λ (x : Called). take i cs ++ x ∷ []) (sym is) in (
      folds-more cs numbers count i c old new s lt is before.0 value after,
      subst (All P) (sym more) (All-append P (take i cs) (c ∷ []) before.1 (All-from_recursion P (c ∷ []) (subst (ColumnsStored (length numbers)) own one, tt))),
    )

pub calls-none : (numbers : List ℕ) (count : ℕ) (cs : List Called) (made : List (List GroupKept)) → made ≡ [] → (made ≡ map (λ (c : Called). group_states c numbers count) (take 0 cs)) × All (λ (c : Called). ColumnsStored (length numbers) c.columns) (take 0 cs)
calls-none numbers count cs made e = (e, λ i d lt. absurd (omega (arith, lt)))

pub ruleset fold_steps = (can-at, can-long, can-form, calls-none)

-- What is stored at the rows of a range.

one-stored : (f : Aggregate) (args : List BExpr) (t : Grid) (from to : ℕ) → ColumnsStored (to - from) (called t from to (f, args)).columns → (i : ℕ) → from ≤ i → i < to → (n : ℤ) → number_of (argument (args_of (f, args) t i) 0) ≡ Some n → FitsSigned w64 n
unfolding called args_of
one-stored f args t from to h i low high n is =
    let es = take (needs f) args in
    let e : from + (i - from) ≡ i = omega (arith, low) in
    let lt : i - from < to - from = omega (arith, low, high) in
    h.each (i - from) lt n (ap (λ (row : List Value). number_of (argument row 0)) (along-row es t from to (i - from) lt ∙ ap (λ m. values_in es t m []) e) ∙ is)

all-stored : (cs : List (Aggregate × List BExpr)) (t : Grid) (from to : ℕ) → AllByRecursion (λ (c : Called). ColumnsStored (to - from) c.columns) (map (called t from to) cs) → AllByRecursion (λ (c : Aggregate × List BExpr). (i : ℕ) → from ≤ i → i < to → (n : ℤ) → number_of (argument (args_of c t i) 0) ≡ Some n → FitsSigned w64 n) cs
all-stored [] t from to h = tt
all-stored ((f, args) ∷ cs) t from to h = (one-stored f args t from to h.0, all-stored cs t from to h.1)

pub piece-stored : (g : GroupPlan) (t : Grid) (from to : ℕ) (p : Piece) (numbers : List ℕ) (calls : List Called) → p ≡ piece_of g t from to → numbers ≡ numbers_of same_keys p.keys → calls ≡ p.calls → All (λ (c : Called). ColumnsStored (length numbers) c.columns) calls → AreStored g t from to
unfolding piece_of numbers_of
piece-stored g t from to p numbers calls is en ec h =
    let pk : p.keys ≡ map (key_by g.keys t) (rows from to) = ap (λ (q : Piece). q.keys) is in
    let pc : calls ≡ map (called t from to) (calls_of g.items) = ec ∙ ap (λ (q : Piece). q.calls) is in
    let size : length numbers ≡ to - from = ap (λ (ns : List ℕ). length ns) en ∙ (length-map p.keys _ ∙ (ap (λ (js : List (List Value)). length js) pk ∙ keys-many g.keys t from to)) in
    let P = λ (c : Called). ColumnsStored (to - from) c.columns in
    let all : All P calls = subst (λ m. All (λ (c : Called). ColumnsStored m c.columns) calls) size h in
    record { each = all-stored (calls_of g.items) t from to (recursion_from_All P (map (called t from to) (calls_of g.items)) (subst (All P) pc all)) }
