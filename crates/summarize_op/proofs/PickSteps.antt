-- Columns at one row of each group.
use Rattle.std.proofs.Common.{◌≡◌, ◌<◌, ◌+◌, ◌++◌, ℕ, zero, suc, true, List, [], ◌∷◌, get_or, length, map, take, refl, ap, ap₂, sym, ◌∙◌, subst, inl, inr, arith}
use Rattle.std.specs.Prelude.{◌≢◌, All, Option, None, Some, bytes_eq, slice_get, slice_index_or}
use Rattle.std.specs.List.{AllByRecursion, list_all, range_with_len}
use Rattle.std.proofs.lemmas.Bool.{and_parts, cases_Bool}
use Rattle.std.proofs.lemmas.List.{get_or-map, length-map, map-append, take_more}
use Rattle.std.proofs.lemmas.List.Elements.{All-from_recursion, recursion_from_All}
use Rattle.std.proofs.lemmas.List.FromFn.{get_or-map-range_with_len, length-map-range_with_len, map-range_with_len_more}
use Rattle.std.proofs.lemmas.Option.{slice_get_within}
use Rattle.std.proofs.lemmas.Slice.Eq.{bytes_eq-Decides}
use Rattle.kql_cells.specs.Keys.{absent}
use Rattle.kql_cells.specs.Named.{IsAbsent, column_name, place_of}
use Rattle.kql_cells.specs.Seen.{row_at, value_at}
use Rattle.kql_cells.specs.Table.{Grid, IsGrid, gathered}
use Rattle.kql_cells.specs.declared.schema.Column.{Column}
use Rattle.kql_cells.specs.declared.value.Value.{Value}
use Rattle.kql_cells.specs.declared.value.Value.TheVariants as value
use Rattle.kql_values.specs.Grids.{HaveLength, column_at, row_of}
use Rattle.kql_values.specs.Moves.{IsWithin, value_or}
use Rattle.kql_keys.specs.Places.{places_by, places_of}
use Rattle.kql_bound.specs.declared.expr.BExpr.{BExpr, out-BExpr, roll-BExpr, roll-out-BExpr}
use Rattle.kql_bound.specs.declared.expr.BExpr.TheOpen.{BExpr-F}
use Rattle.kql_bound.specs.declared.expr.BExpr.TheVariants as V
use Rattle.kql_meaning.specs.Expressions.{val, values_in}
use Rattle.kql_meaning.specs.FittingExpressions.{column_of as column_named, column_step, is_plain_column, stands_in_if_column}
use Rattle.kql_meaning.specs.RowByRow.{is_plain}
use Rattle.kql_meaning.specs.Tables.{absent_in, cell, cell_in, emptied, has_column, is_name_among, names_of}
use Rattle.kql_meaning.proofs.RowByRowLaws.{plain_reads_its_row}
use Rattle.kql_meaning.proofs.ValueLaws.{val-Column}
use Rattle.kql_fit_laws.proofs.RowFacts.{found-place}
use Rattle.kql_scalar.proofs.FormFacts.{cell-there}
use Rattle.agg_folds.specs.Folds.{chosen_row}
use Rattle.agg_folds.specs.declared.call.FoldCall.{FoldCall}
use Rattle.summarize_op.specs.Columns.{AreColumns}
use Rattle.summarize_op.specs.Grouped.{AreNumbers}
use Rattle.summarize_op.specs.Groups.{group_at}
use Rattle.summarize_op.specs.Passes.{group_args}
use Rattle.summarize_op.specs.Picks.{all_picked, at_row, chosen_over, picked, picked_rows}
use Rattle.summarize_op.proofs.CallSteps.{places-inside}

-- The rows.

pub rows-start : (ns ks : List ℕ) → picked_rows ns 0 ks ≡ []
unfolding picked_rows
rows-start ns ks = refl

pub rows-step : (ns ks list : List ℕ) (lists : List (List ℕ)) (g k count : ℕ) (row : Option ℕ) (old new : List (Option ℕ)) → g < count → lists ≡ places_by ns count → list ≡ slice_index_or lists g [] → k ≡ get_or ks g 0 → row ≡ slice_get list k → old ≡ picked_rows ns g ks → new ≡ old ++ row ∷ [] → new ≡ picked_rows ns (g + 1) ks
unfolding picked_rows places_by
rows-step ns ks list lists g k count row old new lt el es ek er before after =
    let own : list ≡ places_of ns g = es ∙ (ap (λ (xs : List (List ℕ)). slice_index_or xs g []) el ∙ get_or-map-range_with_len (places_of ns) 0 count g g [] lt (omega arith)) in
    after
    ∙ (ap₂ (λ (xs : List (Option ℕ)) (x : Option ℕ). xs ++ x ∷ []) before (er ∙ ap₂ (λ (xs : List ℕ) (n : ℕ). slice_get xs n) own ek)
    ∙ sym (map-range_with_len_more (λ g. slice_get (places_of ns g) (slice_index_or ks g 0)) 0 g g (omega arith)))

pub lists-many : (ns : List ℕ) (count : ℕ) (lists : List (List ℕ)) → lists ≡ places_by ns count → length lists ≡ count
unfolding places_by
lists-many ns count lists e = ap (λ (xs : List (List ℕ)). length xs) e ∙ length-map-range_with_len (places_of ns) 0 count

pub ruleset row_steps = (rows-start, lists-many)

within-each : (n : ℕ) (is : List ℕ) (k : ℕ) → AllByRecursion (λ i. i < n) is → IsWithin n (slice_get is k)
within-each n [] k h = tt
within-each n (i ∷ is) zero h = h.0
within-each n (i ∷ is) (suc k) h = within-each n is k h.1

rows-within : (t : Grid) (ns ks : List ℕ) (count : ℕ) → AreNumbers t ns count → (a n : ℕ) → AllByRecursion (IsWithin (length t.lines)) (map (λ g. slice_get (places_of ns g) (slice_index_or ks g 0)) (range_with_len a n))
rows-within t ns ks count h a zero = tt
rows-within t ns ks count h a (suc n) = (within-each (length t.lines) (places_of ns a) (slice_index_or ks a 0) (places-inside t ns count a h), rows-within t ns ks count h (a + 1) n)

pub picked-within : (t : Grid) (ns ks : List ℕ) (count : ℕ) (rs : List (Option ℕ)) → AreNumbers t ns count → rs ≡ picked_rows ns count ks → All (IsWithin (length t.lines)) rs
unfolding picked_rows
picked-within t ns ks count rs h e =
    subst (All (IsWithin (length t.lines))) (sym e) (All-from_recursion (IsWithin (length t.lines)) (map (λ g. slice_get (places_of ns g) (slice_index_or ks g 0)) (range_with_len 0 count)) (rows-within t ns ks count h 0 count))

-- The places that the folds chose.

pub chosen-start : (call : FoldCall) (columns : List (List Value)) (ns : List ℕ) → chosen_over call columns ns 0 ≡ []
unfolding chosen_over
chosen-start call columns ns = refl

pub chosen-step : (call : FoldCall) (columns : List (List Value)) (ns : List ℕ) (g k : ℕ) (old new : List ℕ) → old ≡ chosen_over call columns ns g → k ≡ chosen_row call (group_args columns ns g) → new ≡ old ++ k ∷ [] → new ≡ chosen_over call columns ns (g + 1)
unfolding chosen_over
chosen-step call columns ns g k old new before is after =
    after ∙ (ap₂ (λ (xs : List ℕ) (x : ℕ). xs ++ x ∷ []) before is ∙ sym (map-range_with_len_more (λ g. chosen_row call (group_args columns ns g)) 0 g g (omega arith)))

pub ruleset chosen_steps = (chosen-start)

-- Columns one after another.

pub picks-start : (t : Grid) (rs : List (Option ℕ)) → all_picked [] t rs ≡ []
unfolding all_picked
picks-start t rs = refl

pub picks-step : (es : List BExpr) (t : Grid) (rs : List (Option ℕ)) (i : ℕ) (e : BExpr) (old new : List (List Value)) (v : List Value) → i < length es → e ≡ get_or es i e → old ≡ all_picked (take i es) t rs → v ≡ picked e t rs → new ≡ old ++ v ∷ [] → new ≡ all_picked (take (i + 1) es) t rs
unfolding all_picked
picks-step es t rs i e old new v lt is before value after =
    rw (take_more es i e lt, ← is, map-append (λ e. picked e t rs) (take i es) (e ∷ []), ← before, ← value) after

pub plain-item : (cs : List Column) (es : List BExpr) (i : ℕ) (e : BExpr) → list_all (is_plain_column cs) es ≡ true → i < length es → e ≡ get_or es i e → is_plain_column cs e ≡ true
plain-item cs [] i e h lt is = absurd (omega arith)
plain-item cs (x ∷ es) zero e h lt is = subst (λ (y : BExpr). is_plain_column cs y ≡ true) (sym is) (and_parts (is_plain_column cs x) (list_all (is_plain_column cs) es) h).0
plain-item cs (x ∷ es) (suc i) e h lt is = plain-item cs es i e (and_parts (is_plain_column cs x) (list_all (is_plain_column cs) es) h).1 (omega (arith, lt)) is

pub ruleset column_steps = (picks-start, plain-item)

-- A column alone.

column-roll : (f : BExpr-F BExpr) (n : List ℕ) → column_step f ≡ Some n → roll-BExpr f ≡ V.Column n
column-roll (BExpr-F.Column m) n e = let same : m ≡ n = cc in V.rolls-Column m ∙ ap V.Column same
column-roll (BExpr-F.Literal l) n e = absurd cc
column-roll (BExpr-F.Step c) n e = absurd cc
column-roll (BExpr-F.Call f args) n e = absurd cc
column-roll (BExpr-F.Chain first links) n e = absurd cc
column-roll (BExpr-F.Path whole steps) n e = absurd cc
column-roll (BExpr-F.Window f args) n e = absurd cc
column-roll (BExpr-F.Aggregate f args) n e = absurd cc

stands : (cs : List Column) (o : Option (List ℕ)) → stands_in_if_column cs o ≡ true → (n : List ℕ) × (o ≡ Some n) × (has_column n cs ≡ true)
unfolding stands_in_if_column
stands cs None e = absurd cc
stands cs (Some n) e = (n, refl, e)

pub plain-named : (cs : List Column) (e : BExpr) → is_plain_column cs e ≡ true → (n : List ℕ) × (e ≡ V.Column n) × (has_column n cs ≡ true)
unfolding is_plain_column column_named
plain-named cs e h =
    let q = stands cs (column_step (out-BExpr e)) h in
    (q.0, sym (roll-out-BExpr e) ∙ column-roll (out-BExpr e) q.0 q.1, q.2)

column-same : (m n : List ℕ) → V.Column m ≡ V.Column n → m ≡ n
column-same m n e = cc

pub column-there : (cs : List Column) (e : BExpr) (n : List ℕ) → is_plain_column cs e ≡ true → e ≡ V.Column n → has_column n cs ≡ true
column-there cs e n h is =
    let q = plain-named cs e h in
    subst (λ m. has_column m cs ≡ true) (sym (column-same n q.0 (sym is ∙ q.1))) q.2

pub ruleset one_steps = (column-there)

-- The column of a name.

pub place-below : (cs : List Column) (n : List ℕ) (j : ℕ) → place_of column_name n cs ≡ Some j → j < length cs
place-below cs n j e = let q = found-place cs n j e in slice_get_within cs j q.0 q.1

kind-there : (cs : List Column) (j : ℕ) (c : Column) → slice_get cs j ≡ Some c → absent_in (slice_get cs j) ≡ absent c.kind
unfolding absent_in
kind-there cs j c e = rw e refl

got-column : (cs : List Column) (j : ℕ) (c d : Column) → slice_get cs j ≡ Some c → get_or cs j d ≡ c
got-column [] j c d e = cc
got-column (x ∷ cs) zero c d e = cc
got-column (x ∷ cs) (suc j) c d e = got-column cs j c d e

named-row : (n : List ℕ) (t : Grid) (j : ℕ) (d : Column) (row : Option ℕ) → IsGrid t → place_of column_name n t.columns ≡ Some j → IsWithin (length t.lines) row → value_or (absent (get_or t.columns j d).kind) (column_at t.lines j) row ≡ at_row (V.Column n) t row
unfolding emptied cell cell_in
named-row n t j d None h e w =
    let q = found-place t.columns n j e in
    ap (λ (c : Column). absent c.kind) (got-column t.columns j q.0 d q.1)
    ∙ (sym (kind-there t.columns j q.0 q.1)
    ∙ sym (val-Column n (record { columns = t.columns; lines = [] }) 0 [] ∙ ap (cell_in (record { columns = t.columns; lines = [] }) 0) e))
named-row n t j d (Some i) h e w =
    get_or-map (λ (row : List Value). value_at row j) t.lines i [] value.Null w
    ∙ (sym (cell-there t i j h w (place-below t.columns n j e))
    ∙ sym (val-Column n t i [] ∙ ap (cell_in t i) e))

map-each : (P : Option ℕ → Type 0) (f g : Option ℕ → Value) (rs : List (Option ℕ)) → AllByRecursion P rs → ((r : Option ℕ) → P r → f r ≡ g r) → map f rs ≡ map g rs
map-each P f g [] a h = refl
map-each P f g (r ∷ rs) a h = ap₂ (λ (v : Value) (vs : List Value). v ∷ vs) (h r a.0) (map-each P f g rs a.1 h)

pub named-picked : (n : List ℕ) (t : Grid) (j : ℕ) (d : Column) (rs : List (Option ℕ)) (cells vs : List Value) (away : Value) → IsGrid t → place_of column_name n t.columns ≡ Some j → All (IsWithin (length t.lines)) rs → cells ≡ column_at t.lines j → away ≡ absent (get_or t.columns j d).kind → vs ≡ map (value_or away cells) rs → vs ≡ picked (V.Column n) t rs
unfolding picked
named-picked n t j d rs cells vs away h e w ec ea is =
    is
    ∙ (ap₂ (λ (a : Value) (xs : List Value). map (value_or a xs) rs) ea ec
    ∙ map-each (IsWithin (length t.lines)) (value_or (absent (get_or t.columns j d).kind) (column_at t.lines j)) (at_row (V.Column n) t) rs (recursion_from_All (IsWithin (length t.lines)) rs w) (λ r wr. named-row n t j d r h e wr))

pub ruleset named_steps = (place-below, named-picked)

gone : (cs : List Column) (n : List ℕ) → has_column n cs ≡ true → AllByRecursion (λ (c : Column). c.name ≢ n) cs → ⊥
unfolding has_column is_name_among names_of
gone [] n h a = absurd cc
gone (c ∷ cs) n h a = elim (cases_Bool (bytes_eq c.name n)) [
  | inl t ↦ a.0 ((bytes_eq-Decides c.name n).0 t)
  | inr f ↦ gone cs n (rw f at h) a.1
]

pub nowhere : (cs ds : List Column) (n : List ℕ) → has_column n cs ≡ true → ds ≡ cs → IsAbsent column_name n ds → ⊥
nowhere cs ds n h e a = gone cs n h (recursion_from_All (λ (c : Column). c.name ≢ n) cs (subst (IsAbsent column_name n) e a))

-- A plain expression at a row of a number.

row-there : (lines : List (List Value)) (ps : List ℕ) (k i : ℕ) → slice_get ps k ≡ Some i → row_at (map (row_at lines) ps) k ≡ row_at lines i
row-there lines [] k i e = cc
row-there lines (p ∷ ps) zero i e = let same : p ≡ i = cc in ap (row_at lines) same
row-there lines (p ∷ ps) (suc k) i e = row-there lines ps k i e

row-gone : (lines : List (List Value)) (ps : List ℕ) (k : ℕ) → slice_get ps k ≡ None → row_at (map (row_at lines) ps) k ≡ []
row-gone lines [] k e = refl
row-gone lines (p ∷ ps) zero e = cc
row-gone lines (p ∷ ps) (suc k) e = row-gone lines ps k e

by-row : (e : BExpr) (t : Grid) (ps : List ℕ) (k : ℕ) (o : Option ℕ) → is_plain e ≡ true → slice_get ps k ≡ o → val e (gathered t ps) k [] ≡ at_row e t o
unfolding emptied
by-row e t ps k None plain is = plain_reads_its_row e (gathered t ps) (record { columns = t.columns; lines = [] }) k 0 [] plain refl (row-gone t.lines ps k is)
by-row e t ps k (Some i) plain is = plain_reads_its_row e (gathered t ps) t k i [] plain refl (row-there t.lines ps k i is)

pub at-picked : (e : BExpr) (t : Grid) (ns : List ℕ) (g k : ℕ) → is_plain e ≡ true → val e (group_at t ns g) k [] ≡ at_row e t (slice_get (places_of ns g) k)
unfolding group_at
at-picked e t ns g k plain = by-row e t (places_of ns g) k (slice_get (places_of ns g) k) plain refl

picked-at : (e : BExpr) (t : Grid) (ns ks : List ℕ) (count g : ℕ) → is_plain e ≡ true → g < count → value_at (picked e t (picked_rows ns count ks)) g ≡ val e (group_at t ns g) (slice_index_or ks g 0) []
unfolding picked picked_rows
picked-at e t ns ks count g plain lt =
    let f = λ (g : ℕ). slice_get (places_of ns g) (slice_index_or ks g 0) in
    let size : length (map f (range_with_len 0 count)) ≡ count = length-map-range_with_len f 0 count in
    get_or-map (at_row e t) (map f (range_with_len 0 count)) g None value.Null (omega (arith, size, lt))
    ∙ (ap (at_row e t) (get_or-map-range_with_len f 0 count g g None lt (omega arith))
    ∙ sym (at-picked e t ns g (slice_index_or ks g 0) plain))

pub picked-long : (e : BExpr) (t : Grid) (ns ks : List ℕ) (count : ℕ) → length (picked e t (picked_rows ns count ks)) ≡ count
unfolding picked picked_rows
picked-long e t ns ks count =
    let f = λ (g : ℕ). slice_get (places_of ns g) (slice_index_or ks g 0) in
    length-map (map f (range_with_len 0 count)) (at_row e t) ∙ length-map-range_with_len f 0 count

all-long : (es : List BExpr) (t : Grid) (ns ks : List ℕ) (count : ℕ) → HaveLength count (all_picked es t (picked_rows ns count ks))
unfolding HaveLength all_picked
all-long [] t ns ks count = tt
all-long (e ∷ es) t ns ks count = (picked-long e t ns ks count, all-long es t ns ks count)

all-row : (es : List BExpr) (t : Grid) (ns ks : List ℕ) (count g : ℕ) → list_all is_plain es ≡ true → g < count → row_of (all_picked es t (picked_rows ns count ks)) g ≡ values_in es (group_at t ns g) (slice_index_or ks g 0) []
unfolding all_picked row_of values_in
all-row [] t ns ks count g plain lt = refl
all-row (e ∷ es) t ns ks count g plain lt =
    let parts = and_parts (is_plain e) (list_all is_plain es) plain in
    ap₂ (λ (v : Value) (vs : List Value). v ∷ vs) (picked-at e t ns ks count g parts.0 lt) (all-row es t ns ks count g parts.1 lt)

pub picked-columns : (es : List BExpr) (t : Grid) (ns ks : List ℕ) (count : ℕ) (rs : List (Option ℕ)) (vs : List (List Value)) → list_all is_plain es ≡ true → rs ≡ picked_rows ns count ks → vs ≡ all_picked es t rs → AreColumns count (λ g. values_in es (group_at t ns g) (slice_index_or ks g 0) []) vs
picked-columns es t ns ks count rs vs plain er is =
    let e : vs ≡ all_picked es t (picked_rows ns count ks) = is ∙ ap (all_picked es t) er in
    subst (AreColumns count (λ g. values_in es (group_at t ns g) (slice_index_or ks g 0) [])) (sym e)
    (record { long = all-long es t ns ks count; rows = λ g lt. all-row es t ns ks count g plain lt })
