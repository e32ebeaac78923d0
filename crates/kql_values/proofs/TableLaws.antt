-- The columns of a table, and what its moves make of them.
use Rattle.std.proofs.Common.{◌≡◌, ◌≢◌, ◌<◌, ◌≤◌, ◌+◌, ◌-◌, ℕ, zero, suc, get_or, List, [], ◌∷◌, ◌++◌, take, drop, map, length, refl, sym, ap, arith, ◌∙◌}
use Rattle.std.specs.Prelude.{All, Option, Some, None, slice_get}
use Rattle.std.specs.List.{AllPairs}
use Rattle.std.proofs.Math.ListN.{set}
use Rattle.std.proofs.lemmas.List.{get_or-map, get_or-take, get_or_default, length-drop, length-map, length-set, length-take-le, map-append, take_more, get_or-set_other}
use Rattle.std.proofs.lemmas.Bool.{cases_lt}
use Rattle.std.proofs.Common.{◌⊎◌, inl, inr, length-append, subst}
use Rattle.kql_cells.specs.Values.{IsOfKind, IsWellFormed}
use Rattle.std.proofs.lemmas.List.Elements.{All-nil, All-cons, All-append, All-drop, All-head, All-map, All-tail, All-take}
use Rattle.kql_cells.specs.Named.{HasDistinctNames, column_name}
use Rattle.kql_cells.specs.Seen.{cell_at, row_at, value_at}
use Rattle.kql_cells.specs.Table.{CellFits, Grid, RowFits}
use Rattle.kql_cells.specs.declared.schema.Column.{Column}
use Rattle.kql_cells.specs.declared.value.Kind.{Kind}
use Rattle.kql_cells.specs.declared.value.Kind.TheVariants as kind
use Rattle.kql_cells.specs.declared.value.Value.{Value}
use Rattle.kql_cells.specs.declared.value.Value.TheVariants as val
use Rattle.kql_cells.proofs.RowLaws.{length-RowFits}
use Rattle.kql_values.specs.Grids.{AgreeOff, ColumnsFit, HaveLength, column_at, joined, or_absent, row_of, rows_of, singletons}
use Rattle.kql_cells.specs.Keys.{absent}
use Rattle.kql_values.specs.Moves.{IsWithin, absent_row, beside, column_of, kinds_of, no_column, picked, row_or_absent, value_or, widened}
use Rattle.kql_values.proofs.GridLaws.{appended, cell_of, column_of as column_is, pushed, row_of-length, rows_of-are, rows_of-at, rows_of-beside, rows_of-gathered, rows_of-length, rows_of-none, rows_of-part, rows_of-selected}

-- ---- columns that fit

pub fits-HaveLength : (cs : List Column) (n : ℕ) (vs : List (List Value)) → ColumnsFit cs n vs → HaveLength n vs
unfolding ColumnsFit HaveLength
fits-HaveLength [] n [] f = tt
fits-HaveLength [] n (v ∷ vs) f = absurd f
fits-HaveLength (c ∷ cs) n [] f = absurd f
fits-HaveLength (c ∷ cs) n (v ∷ vs) f = (f.0.0, fits-HaveLength cs n vs f.1)

pub fits-length : (cs : List Column) (n : ℕ) (vs : List (List Value)) → ColumnsFit cs n vs → length vs ≡ length cs
unfolding ColumnsFit
fits-length [] n [] f = refl
fits-length [] n (v ∷ vs) f = absurd f
fits-length (c ∷ cs) n [] f = absurd f
fits-length (c ∷ cs) n (v ∷ vs) f = ap suc (fits-length cs n vs f.1)

pub fits-nil : (n : ℕ) → ColumnsFit [] n []
unfolding ColumnsFit
fits-nil n = tt

-- one more column
pub fits-push : (cs : List Column) (n : ℕ) (vs : List (List Value)) (c : Column) (v : List Value) → ColumnsFit cs n vs → length v ≡ n → All (CellFits c) v → ColumnsFit (cs ++ c ∷ []) n (vs ++ v ∷ [])
unfolding ColumnsFit
fits-push [] n [] c v f e a = ((e, a), tt)
fits-push [] n (w ∷ vs) c v f e a = absurd f
fits-push (d ∷ cs) n [] c v f e a = absurd f
fits-push (d ∷ cs) n (w ∷ vs) c v f e a = (f.0, fits-push cs n vs c v f.1 e a)

pub fits-empty : (cs : List Column) (vs : List (List Value)) (c : Column) → ColumnsFit cs 0 vs → ColumnsFit (cs ++ c ∷ []) 0 (vs ++ [] ∷ [])
fits-empty cs vs c f = fits-push cs 0 vs c [] f refl (All-nil (CellFits c))

pub fits-empty-step : (cs : List Column) (vs new : List (List Value)) (i : ℕ) (c : Column) → i < length cs → c ≡ get_or cs i c → ColumnsFit (take i cs) 0 vs → new ≡ vs ++ [] ∷ []
    → ColumnsFit (take (i + 1) cs) 0 new
fits-empty-step cs vs new i c lt e f en = rw (take_more cs i c lt, ← e, en) (fits-empty (take i cs) vs c f)

pub ruleset column_facts = (fits-nil, fits-empty)

-- each cell of a column fits it
pub fits-at : (cs : List Column) (n : ℕ) (vs : List (List Value)) (j : ℕ) (d : List Value) → ColumnsFit cs n vs → j < length cs
    → (length (get_or vs j d) ≡ n) × All (CellFits (get_or cs j no_column)) (get_or vs j d)
unfolding ColumnsFit
fits-at [] n vs j d f lt = absurd (omega arith)
fits-at (c ∷ cs) n [] j d f lt = absurd f
fits-at (c ∷ cs) n (v ∷ vs) zero d f lt = f.0
fits-at (c ∷ cs) n (v ∷ vs) (suc j) d f lt = fits-at cs n vs j d f.1 (omega arith)

get-some : (cs : List Column) (j : ℕ) (c d : Column) → slice_get cs j ≡ Some c → get_or cs j d ≡ c
get-some [] j c d e = cc
get-some (b ∷ cs) zero c d e = cc
get-some (b ∷ cs) (suc j) c d e = get-some cs j c d e

pub fits-column : (cs : List Column) (n : ℕ) (vs : List (List Value)) (j : ℕ) (d : List Value) (c : Column) → ColumnsFit cs n vs → j < length cs → slice_get cs j ≡ Some c
    → All (CellFits c) (get_or vs j d)
fits-column cs n vs j d c f lt e = rw (← get-some cs j c no_column e) (fits-at cs n vs j d f lt).1

-- ---- rows that fit

pub fits-row : (cs : List Column) (n : ℕ) (vs : List (List Value)) (i : ℕ) → ColumnsFit cs n vs → i < n → RowFits cs (row_of vs i)
unfolding ColumnsFit RowFits row_of
fits-row [] n [] i f lt = tt
fits-row [] n (v ∷ vs) i f lt = absurd f
fits-row (c ∷ cs) n [] i f lt = absurd f
fits-row (c ∷ cs) n (v ∷ vs) i f lt = (f.0.1 i val.Null (omega (arith, f.0.0)), fits-row cs n vs i f.1 lt)

pub fits-grid : (cs : List Column) (n : ℕ) (vs : List (List Value)) → ColumnsFit cs n vs → All (RowFits cs) (rows_of n vs)
fits-grid cs n vs f i d lt =
    let within : i < n = rw (rows_of-length n vs) at lt in
    rw (rows_of-at n vs i d within) (fits-row cs n vs i f within)

cells-fit : (P : Value → Type 0) (n : ℕ) (v : List Value) → length v ≡ n → ((i : ℕ) → i < n → P (get_or v i val.Null)) → All P v
cells-fit P n v e f i d lt =
    let within : i < n = omega arith in
    rw (get_or_default v i d val.Null lt) (f i within)

rows-fit : (cs : List Column) (n : ℕ) (vs : List (List Value)) → HaveLength n vs → length vs ≡ length cs → ((i : ℕ) → i < n → RowFits cs (row_of vs i)) → ColumnsFit cs n vs
unfolding ColumnsFit HaveLength RowFits row_of
rows-fit [] n [] h e f = tt
rows-fit [] n (v ∷ vs) h e f = absurd (omega arith)
rows-fit (c ∷ cs) n [] h e f = absurd (omega arith)
rows-fit (c ∷ cs) n (v ∷ vs) h e f =
    ((h.0, cells-fit (CellFits c) n v h.0 (λ i lt. (f i lt).0)), rows-fit cs n vs h.1 (omega arith) (λ i lt. (f i lt).1))

-- where there is a row, rows that fit are columns that fit
pub grid-fits : (cs : List Column) (n : ℕ) (vs : List (List Value)) → 0 < n → HaveLength n vs → All (RowFits cs) (rows_of n vs) → ColumnsFit cs n vs
grid-fits cs n vs some h f =
    let row : (i : ℕ) → i < n → RowFits cs (row_of vs i) = λ i lt.
    let within : i < length (rows_of n vs) = rw (rows_of-length n vs) lt in
    rw (← rows_of-at n vs i [] lt) (f i [] within) in
    let width : length vs ≡ length cs = sym (row_of-length vs 0) ∙ length-RowFits cs (row_of vs 0) (row 0 some) in
    rows-fit cs n vs h width row

-- ---- moves of all columns alike

fits-mapped : (f : List Value → List Value) (cs : List Column) (n m : ℕ) (vs : List (List Value)) → ((v : List Value) → length v ≡ n → length (f v) ≡ m)
    → ((P : Value → Type 0) (v : List Value) → length v ≡ n → All P v → All P (f v)) → ColumnsFit cs n vs → ColumnsFit cs m (map f vs)
unfolding ColumnsFit
fits-mapped f [] n m [] long all h = tt
fits-mapped f [] n m (v ∷ vs) long all h = absurd h
fits-mapped f (c ∷ cs) n m [] long all h = absurd h
fits-mapped f (c ∷ cs) n m (v ∷ vs) long all h = ((long v h.0.0, all (CellFits c) v h.0.0 h.0.1), fits-mapped f cs n m vs long all h.1)

-- the rows at places
pub table-gathered : (cs : List Column) (n : ℕ) (vs new : List (List Value)) (places : List ℕ) → ColumnsFit cs n vs → All (λ i. i < length (rows_of n vs)) places
    → new ≡ map (λ c. map (value_at c) places) vs → ColumnsFit cs (length places) new × (rows_of (length places) new ≡ map (row_at (rows_of n vs)) places)
table-gathered cs n vs new places f within e =
    let inside : All (λ i. i < n) places = rw (rows_of-length n vs) at within in (
      rw e (fits-mapped (λ c. map (value_at c) places) cs n (length places) vs (λ v size. length-map places (value_at v)) (λ P v size all. All-map P (value_at v) places (λ k d lt.
          let here : get_or places k d < n = inside k d lt in
          all (get_or places k d) val.Null (omega arith))) f),
      rw e (rows_of-gathered n vs places inside),
    )

-- the rows from a place to another
pub table-part : (cs : List Column) (n : ℕ) (vs new : List (List Value)) (from to : ℕ) → ColumnsFit cs n vs → from ≤ to → to ≤ length (rows_of n vs)
    → new ≡ map (λ c. take (to - from) (drop from c)) vs → ColumnsFit cs (to - from) new × (rows_of (to - from) new ≡ take (to - from) (drop from (rows_of n vs)))
table-part cs n vs new from to f low within e =
    let up : to ≤ n = rw (rows_of-length n vs) at within in (
      rw e (fits-mapped (λ c. take (to - from) (drop from c)) cs n (to - from) vs (λ v size.
          let left = length-drop from v in
          length-take-le (to - from) (drop from v) (omega arith)) (λ P v size all. All-take P (to - from) (drop from v) (All-drop P from v all)) f),
      rw e (rows_of-part n vs from to low up),
    )

-- the first rows
pub table-first : (cs : List Column) (n : ℕ) (vs new : List (List Value)) (count : ℕ) → ColumnsFit cs n vs → count < n → new ≡ map (take count) vs
    → ColumnsFit cs count new × (rows_of count new ≡ take count (rows_of n vs))
table-first cs n vs new count f lt e =
    let low : 0 ≤ count = omega arith in
    let size = rows_of-length n vs in
    let up : count ≤ length (rows_of n vs) = omega arith in
    let none : count - 0 ≡ count = omega arith in
    rw none at (table-part cs n vs new 0 count f low up (rw none e))

-- ---- rows that are added

fits-joined : (cs : List Column) (n m : ℕ) (vs ws : List (List Value)) → ColumnsFit cs n vs → ColumnsFit cs m ws → ColumnsFit cs (n + m) (joined vs ws)
unfolding ColumnsFit joined
fits-joined [] n m [] ws f g = tt
fits-joined [] n m (v ∷ vs) ws f g = absurd f
fits-joined (c ∷ cs) n m [] ws f g = absurd f
fits-joined (c ∷ cs) n m (v ∷ vs) [] f g = absurd g
fits-joined (c ∷ cs) n m (v ∷ vs) (w ∷ ws) f g =
    ((omega (arith, length-append v w, f.0.0, g.0.0), All-append (CellFits c) v w f.0.1 g.0.1), fits-joined cs n m vs ws f.1 g.1)

fits-singletons : (cs : List Column) (row : List Value) → RowFits cs row → ColumnsFit cs 1 (singletons row)
unfolding ColumnsFit RowFits
fits-singletons [] [] f = tt
fits-singletons [] (v ∷ vs) f = absurd f
fits-singletons (c ∷ cs) [] f = absurd f
fits-singletons (c ∷ cs) (v ∷ vs) f = ((refl, All-cons (CellFits c) v [] f.0 (All-nil (CellFits c))), fits-singletons cs vs f.1)

-- a row that fits is as wide as there are columns
pub row-width : (cs : List Column) (n : ℕ) (vs : List (List Value)) (row : List Value) → ColumnsFit cs n vs → RowFits cs row → length vs ≡ length row
row-width cs n vs row f g = fits-length cs n vs f ∙ sym (length-RowFits cs row g)

pub table-pushed : (cs : List Column) (n count : ℕ) (vs new : List (List Value)) (row : List Value) → ColumnsFit cs n vs → RowFits cs row → count ≡ n + 1 → new ≡ joined vs (singletons row)
    → ColumnsFit cs count new × (rows_of count new ≡ rows_of n vs ++ row ∷ [])
table-pushed cs n count vs new row f g ec e =
    (rw (ec, e) (fits-joined cs n 1 vs (singletons row) f (fits-singletons cs row g)), rw ec (pushed n vs new row (row-width cs n vs row f g) (fits-HaveLength cs n vs f) e).1)

-- cells fit a column by its type alone
pub fits-kinds : (cs ds : List Column) (n : ℕ) (vs : List (List Value)) → kinds_of cs ≡ kinds_of ds → ColumnsFit cs n vs → ColumnsFit ds n vs
unfolding ColumnsFit
fits-kinds [] [] n vs e f = f
fits-kinds [] (d ∷ ds) n vs e f = cc
fits-kinds (c ∷ cs) [] n vs e f = cc
fits-kinds (c ∷ cs) (d ∷ ds) n [] e f = absurd f
fits-kinds (c ∷ cs) (d ∷ ds) n (v ∷ vs) e f =
    let same : c.kind ≡ d.kind = cc in
    let rest : kinds_of cs ≡ kinds_of ds = cc in
    ((f.0.0, subst (λ k. All (λ x. IsOfKind k x × IsWellFormed x) v) same f.0.1), fits-kinds cs ds n vs rest f.1)

pub kinds-width : (cs ds : List Column) (n m : ℕ) (vs ws : List (List Value)) → kinds_of ds ≡ kinds_of cs → ColumnsFit cs n vs → ColumnsFit ds m ws → length vs ≡ length ws
kinds-width cs ds n m vs ws e f g =
    let same : length (kinds_of ds) ≡ length (kinds_of cs) = ap length e in
    let left = length-map ds (λ c. c.kind) in
    let right = length-map cs (λ c. c.kind) in
    let first = fits-length cs n vs f in
    let second = fits-length ds m ws g in
    omega arith

pub table-appended : (cs ds : List Column) (n m count : ℕ) (vs ws new : List (List Value)) → kinds_of ds ≡ kinds_of cs → ColumnsFit cs n vs → ColumnsFit ds m ws → count ≡ n + m
    → new ≡ joined vs ws → ColumnsFit cs count new × (rows_of count new ≡ rows_of n vs ++ rows_of m ws)
table-appended cs ds n m count vs ws new kinds f g ec e = (
  rw (ec, e) (fits-joined cs n m vs ws f (fits-kinds ds cs m ws kinds g)),
  rw ec (appended n m vs ws new (kinds-width cs ds n m vs ws kinds f g) (fits-HaveLength cs n vs f) (fits-HaveLength ds m ws g) e).1,
)

-- ---- columns that are added

fits-append : (cs ds : List Column) (n : ℕ) (vs ws : List (List Value)) → ColumnsFit cs n vs → ColumnsFit ds n ws → ColumnsFit (cs ++ ds) n (vs ++ ws)
unfolding ColumnsFit
fits-append [] ds n [] ws f g = g
fits-append [] ds n (v ∷ vs) ws f g = absurd f
fits-append (c ∷ cs) ds n [] ws f g = absurd f
fits-append (c ∷ cs) ds n (v ∷ vs) ws f g = (f.0, fits-append cs ds n vs ws f.1 g)

pub table-beside : (cs ds schema : List Column) (n m : ℕ) (vs ws new : List (List Value)) → ColumnsFit cs n vs → ColumnsFit ds m ws → length (rows_of n vs) ≡ length (rows_of m ws)
    → schema ≡ cs ++ ds → new ≡ vs ++ ws → ColumnsFit schema n new × (rows_of n new ≡ beside (rows_of n vs) (rows_of m ws))
table-beside cs ds schema n m vs ws new f g size es e =
    let same : m ≡ n = sym (rows_of-length m ws) ∙ sym size ∙ rows_of-length n vs in
    let right : ColumnsFit ds n ws = rw (← same) g in
    (rw (es, e) (fits-append cs ds n vs ws f right), rw (same, e) (rows_of-beside n vs ws))

rows_of-one : (n : ℕ) (v : List Value) → length v ≡ n → rows_of n (v ∷ []) ≡ map (λ x. x ∷ []) v
unfolding row_of
rows_of-one n v size =
    rows_of-are n (v ∷ []) (map (λ x. x ∷ []) v) (length-map v (λ x. x ∷ []) ∙ size) (λ i lt.
    let within : i < length v = omega arith in
    get_or-map (λ x. x ∷ []) v i val.Null [] within)

pub table-widened : (cs schema : List Column) (n : ℕ) (vs new : List (List Value)) (c : Column) (v : List Value) → ColumnsFit cs n vs → length v ≡ length (rows_of n vs) → All (CellFits c) v
    → schema ≡ cs ++ c ∷ [] → new ≡ vs ++ v ∷ [] → ColumnsFit schema n new × (rows_of n new ≡ widened (rows_of n vs) v)
table-widened cs schema n vs new c v f size all es e =
    let long : length v ≡ n = size ∙ rows_of-length n vs in
    (rw (es, e) (fits-push cs n vs c v f long all), rw e (rows_of-beside n vs (v ∷ []) ∙ ap (beside (rows_of n vs)) (rows_of-one n v long)))

-- ---- columns that are picked

fits-selected : (cs : List Column) (n : ℕ) (vs : List (List Value)) (places : List ℕ) → ColumnsFit cs n vs → All (λ j. j < length cs) places
    → ColumnsFit (map (column_of cs) places) n (map (λ j. get_or vs j []) places)
unfolding ColumnsFit
fits-selected cs n vs [] f h = tt
fits-selected cs n vs (j ∷ places) f h =
    (fits-at cs n vs j [] f (All-head (λ k. k < length cs) j places h), fits-selected cs n vs places f (All-tail (λ k. k < length cs) j places h))

pub table-selected : (cs schema : List Column) (n : ℕ) (vs new : List (List Value)) (places : List ℕ) → ColumnsFit cs n vs → All (λ j. j < length cs) places
    → schema ≡ map (column_of cs) places → new ≡ map (λ j. get_or vs j []) places → ColumnsFit schema n new × (rows_of n new ≡ map (picked places) (rows_of n vs))
table-selected cs schema n vs new places f h es e =
    let within : All (λ j. j < length vs) places = rw (fits-length cs n vs f) h in
    (rw (es, e) (fits-selected cs n vs places f h), rw e (rows_of-selected n vs places within))

pub selected-within : (cs : List Column) (n : ℕ) (vs : List (List Value)) (places : List ℕ) → ColumnsFit cs n vs → All (λ j. j < length cs) places → All (λ j. j < length vs) places
selected-within cs n vs places f h = rw (fits-length cs n vs f) h

-- columns at distinct places have distinct names
differ-back : (cs : List Column) (p q : ℕ) → HasDistinctNames column_name cs → p < length cs → q < length cs → p ≢ q → q ≤ p → (q < p) ⊎ (p ≤ q)
    → column_name (column_of cs p) ≢ column_name (column_of cs q)
differ-back cs p q h lp lq off le (inl lt) = λ e. h q p no_column lt lp (sym e)
differ-back cs p q h lp lq off le (inr ge) = λ e. absurd (off (omega arith))

differ : (cs : List Column) (p q : ℕ) → HasDistinctNames column_name cs → p < length cs → q < length cs → p ≢ q → (p < q) ⊎ (q ≤ p)
    → column_name (column_of cs p) ≢ column_name (column_of cs q)
differ cs p q h lp lq off (inl lt) = h p q no_column lt lq
differ cs p q h lp lq off (inr le) = differ-back cs p q h lp lq off le (cases_lt q p)

pub distinct-picked : (cs schema : List Column) (places : List ℕ) → HasDistinctNames column_name cs → All (λ j. j < length cs) places → AllPairs (λ a b. a ≢ b) places
    → schema ≡ map (column_of cs) places → HasDistinctNames column_name schema
distinct-picked cs schema places h within pairs e = rw e (λ i j d lt inside.
    let size = length-map places (column_of cs) in
    let inner : j < length places = omega arith in
    let outer : i < length places = omega arith in
    rw (get_or-map (column_of cs) places i 0 d outer, get_or-map (column_of cs) places j 0 d inner)
    (differ cs (get_or places i 0) (get_or places j 0) h (within i 0 outer) (within j 0 inner) (pairs i j 0 lt inner) (cases_lt (get_or places i 0) (get_or places j 0))))

-- ---- places that may be none

pub or_absent-nil : (places : List (Option ℕ)) → or_absent [] [] places ≡ []
unfolding or_absent
or_absent-nil places = refl

or_absent-more : (cs : List Column) (vs : List (List Value)) (places : List (Option ℕ)) (j : ℕ) (c : Column) (v : List Value) → j < length cs → j < length vs
    → or_absent (take (j + 1) cs) (take (j + 1) vs) places ≡ or_absent (take j cs) (take j vs) places ++ map (value_or (absent (get_or cs j c).kind) (get_or vs j v)) places ∷ []
unfolding or_absent
or_absent-more [] vs places j c v lc lv = absurd (omega arith)
or_absent-more (d ∷ cs) [] places j c v lc lv = absurd (omega arith)
or_absent-more (d ∷ cs) (w ∷ vs) places zero c v lc lv = refl
or_absent-more (d ∷ cs) (w ∷ vs) places (suc j) c v lc lv =
    let step : suc j + 1 ≡ suc (j + 1) = omega arith in
    rw step (ap (λ l. map (value_or (absent d.kind) w) places ∷ l) (or_absent-more cs vs places j c v (omega arith) (omega arith)))

pub or_absent-step : (cs : List Column) (vs old new : List (List Value)) (places : List (Option ℕ)) (j : ℕ) (c : Column) (v : List Value) (a : Value) → j < length cs → j < length vs
    → c ≡ get_or cs j c → v ≡ get_or vs j v → a ≡ absent c.kind → old ≡ or_absent (take j cs) (take j vs) places → new ≡ old ++ map (value_or a v) places ∷ []
    → new ≡ or_absent (take (j + 1) cs) (take (j + 1) vs) places
or_absent-step cs vs old new places j c v a lc lv ec ev ea eo en =
    rw (or_absent-more cs vs places j c v lc lv, ← ec, ← ev, ← ea, ← eo) en

absent-fits : (k : Kind) → IsOfKind k (absent k) × IsWellFormed (absent k)
unfolding absent
absent-fits kind.Bool = (tt, tt)
absent-fits kind.Long = (tt, tt)
absent-fits kind.Text = (tt, tt)
absent-fits kind.Moment = (tt, tt)
absent-fits kind.Span = (tt, tt)
absent-fits kind.Dynamic = (tt, tt)

value-fits : (c : Column) (v : List Value) (p : Option ℕ) → All (CellFits c) v → IsWithin (length v) p → CellFits c (value_or (absent c.kind) v p)
value-fits c v (Some i) all lt = all i val.Null lt
value-fits c v None all lt = absent-fits c.kind

fits-or_absent : (cs : List Column) (n : ℕ) (vs : List (List Value)) (places : List (Option ℕ)) → ColumnsFit cs n vs → All (IsWithin n) places → ColumnsFit cs (length places) (or_absent cs vs places)
unfolding ColumnsFit or_absent
fits-or_absent [] n [] places f h = tt
fits-or_absent [] n (v ∷ vs) places f h = absurd f
fits-or_absent (c ∷ cs) n [] places f h = absurd f
fits-or_absent (c ∷ cs) n (v ∷ vs) places f h =
    let within : All (IsWithin (length v)) places = rw f.0.0 h in (
      (length-map places (value_or (absent c.kind) v), All-map (CellFits c) (value_or (absent c.kind) v) places (λ k d lt. value-fits c v (get_or places k d) f.0.1 (within k d lt))),
      fits-or_absent cs n vs places f.1 h,
    )

-- the row at a place that may be none
abbrev picked_row : List Column → List (List Value) → Option ℕ → List Value
picked_row [] vs p = []
picked_row (c ∷ cs) [] p = []
picked_row (c ∷ cs) (v ∷ vs) p = value_or (absent c.kind) v p ∷ picked_row cs vs p

row_of-or_absent : (cs : List Column) (vs : List (List Value)) (places : List (Option ℕ)) (k : ℕ) → k < length places → row_of (or_absent cs vs places) k ≡ picked_row cs vs (get_or places k None)
unfolding row_of or_absent
row_of-or_absent [] vs places k lt = refl
row_of-or_absent (c ∷ cs) [] places k lt = refl
row_of-or_absent (c ∷ cs) (v ∷ vs) places k lt = rw (get_or-map (value_or (absent c.kind) v) places k None val.Null lt, row_of-or_absent cs vs places k lt) refl

picked-none : (cs : List Column) (vs : List (List Value)) → length vs ≡ length cs → picked_row cs vs None ≡ absent_row cs
picked-none [] vs e = refl
picked-none (c ∷ cs) [] e = absurd (omega arith)
picked-none (c ∷ cs) (v ∷ vs) e = ap (λ l. absent c.kind ∷ l) (picked-none cs vs (omega arith))

picked-some : (cs : List Column) (vs : List (List Value)) (i : ℕ) → length vs ≡ length cs → picked_row cs vs (Some i) ≡ row_of vs i
unfolding row_of
picked-some [] [] i e = refl
picked-some [] (v ∷ vs) i e = absurd (omega arith)
picked-some (c ∷ cs) [] i e = absurd (omega arith)
picked-some (c ∷ cs) (v ∷ vs) i e = ap (λ l. value_at v i ∷ l) (picked-some cs vs i (omega arith))

row-picked : (cs : List Column) (n : ℕ) (vs : List (List Value)) (p : Option ℕ) → length vs ≡ length cs → IsWithin n p
    → row_or_absent (record { columns = cs; lines = rows_of n vs }) p ≡ picked_row cs vs p
row-picked cs n vs None e lt = sym (picked-none cs vs e)
row-picked cs n vs (Some i) e lt = rows_of-at n vs i [] lt ∙ sym (picked-some cs vs i e)

pub table-or_absent : (cs : List Column) (n : ℕ) (vs new : List (List Value)) (places : List (Option ℕ)) → ColumnsFit cs n vs → All (IsWithin (length (rows_of n vs))) places
    → new ≡ or_absent cs vs places → ColumnsFit cs (length places) new × (rows_of (length places) new ≡ map (row_or_absent (record { columns = cs; lines = rows_of n vs })) places)
table-or_absent cs n vs new places f h e =
    let within : All (IsWithin n) places = rw (rows_of-length n vs) at h in
    let g : Grid = record { columns = cs; lines = rows_of n vs } in
    let wide = fits-length cs n vs f in (
      rw e (fits-or_absent cs n vs places f within),
      rw e (rows_of-are (length places) (or_absent cs vs places) (map (row_or_absent g) places) (length-map places (row_or_absent g)) (λ k lt.
          get_or-map (row_or_absent g) places k None [] lt ∙ row-picked cs n vs (get_or places k None) wide (within k None lt) ∙ sym (row_of-or_absent cs vs places k lt))),
    )

pub absent-within : (n : ℕ) (cs : List Column) (vs : List (List Value)) (places : List (Option ℕ)) → ColumnsFit cs n vs → All (IsWithin (length (rows_of n vs))) places
    → All (λ c. All (IsWithin (length c)) places) vs
absent-within n cs vs places f h j d lt =
    let within : All (IsWithin n) places = rw (rows_of-length n vs) at h in
    let wide = fits-length cs n vs f in
    let size = (fits-at cs n vs j d f (omega arith)).0 in
    rw size within

pub places-inside : (n : ℕ) (cs : List Column) (vs : List (List Value)) (places : List ℕ) → ColumnsFit cs n vs → All (λ i. i < length (rows_of n vs)) places
    → All (λ c. All (λ i. i < length c) places) vs
places-inside n cs vs places f h j d lt =
    let within : All (λ i. i < n) places = rw (rows_of-length n vs) at h in
    let wide = fits-length cs n vs f in
    let size = (fits-at cs n vs j d f (omega arith)).0 in
    rw size within

-- each column reaches as far as the rows
pub columns-reach : (n : ℕ) (cs : List Column) (vs : List (List Value)) (to : ℕ) → ColumnsFit cs n vs → to ≤ length (rows_of n vs) → All (λ c. to ≤ length c) vs
columns-reach n cs vs to f h j d lt =
    let within : to ≤ n = rw (rows_of-length n vs) at h in
    let wide = fits-length cs n vs f in
    let size = (fits-at cs n vs j d f (omega arith)).0 in
    omega arith

-- ---- columns that are moved out, one by one

pub agree-first : (xs : List (List Value)) → AgreeOff [] xs xs
unfolding AgreeOff
agree-first xs = (refl, λ j off. refl)

off-before : (places : List ℕ) (i j : ℕ) → i < length places → AllPairs (λ a b. a ≢ b) places → j ≡ get_or places i j → All (λ k. k ≢ j) (take i places)
off-before places i j lt pairs e a d within same =
    let size = length-take-le i places (omega arith) in
    let low : a < i = omega arith in
    let inside : a < length places = omega arith in
    pairs a i j low lt (get_or_default places a j d inside ∙ sym (get_or-take i places a d low) ∙ same ∙ e)

pub pick-step : (places : List ℕ) (cs rest new picked more : List (List Value)) (i j : ℕ) (x : List Value) → i < length places → AllPairs (λ a b. a ≢ b) places → All (λ k. k < length cs) places
    → j ≡ get_or places i j → picked ≡ map (λ k. get_or cs k []) (take i places) → AgreeOff (take i places) rest cs → x ≡ get_or rest j x → more ≡ picked ++ x ∷ [] → new ≡ set rest j []
    → (more ≡ map (λ k. get_or cs k []) (take (i + 1) places)) × AgreeOff (take (i + 1) places) new cs
unfolding AgreeOff
pick-step places cs rest new picked more i j x lt pairs within ej ep agree ex em en =
    let inside : j < length cs = rw (← ej) at (within i j lt) in
    let here : j < length rest = omega (arith, agree.0) in
    let read : x ≡ get_or cs j [] = ex ∙ get_or_default rest j x [] here ∙ agree.1 j (off-before places i j lt pairs ej) in
    let first : more ≡ map (λ k. get_or cs k []) (take (i + 1) places) =
    rw (take_more places i j lt, ← ej, map-append (λ k. get_or cs k []) (take i places) (j ∷ []), em, ep, read) refl in
    let size : length new ≡ length cs = rw en (length-set rest j []) ∙ agree.0 in (
      first,
      (
        size,
        λ k off.
            let last : j ≢ k = λ e. off i j (omega (arith, length-take-le (i + 1) places (omega arith))) (get_or-take (i + 1) places i j (omega arith) ∙ sym ej ∙ e) in
            let other : k ≢ j = λ e. last (sym e) in
            let before : All (λ a. a ≢ k) (take i places) = λ a d low same.
            let under : a < i = omega (arith, length-take-le i places (omega arith)) in
            off a d (omega (arith, length-take-le (i + 1) places (omega arith))) (get_or-take (i + 1) places a d (omega arith) ∙ sym (get_or-take i places a d under) ∙ same) in
            rw en (get_or-set_other rest j k [] [] other) ∙ agree.1 k before,
      ),
    )

-- ---- for the search

pub fits-at-length : (cs : List Column) (n : ℕ) (vs : List (List Value)) (j : ℕ) (d : List Value) → ColumnsFit cs n vs → j < length vs → length (get_or vs j d) ≡ n
fits-at-length cs n vs j d f lt =
    let wide = fits-length cs n vs f in
    (fits-at cs n vs j d f (omega arith)).0

-- what contracts see, part by part
abbrev grid : List Column → List (List Value) → Grid
grid columns lines = record { columns = columns; lines = lines }

pub same-grid : (cs ds : List Column) (ls ms : List (List Value)) → cs ≡ ds → ls ≡ ms → grid cs ls ≡ grid ds ms
same-grid cs ds ls ms e f = rw (e, f) refl

pub table-column : (cs : List Column) (n : ℕ) (vs : List (List Value)) (j : ℕ) (x : List Value) → ColumnsFit cs n vs → j < length cs → x ≡ get_or vs j x → x ≡ column_at (rows_of n vs) j
table-column cs n vs j x f lt e =
    let wide = fits-length cs n vs f in
    e ∙ column_is n vs j x (fits-HaveLength cs n vs f) (omega arith)

pub table-cell : (cs : List Column) (n : ℕ) (vs : List (List Value)) (i j : ℕ) (x : List Value) (v : Value) → ColumnsFit cs n vs → i < length (rows_of n vs) → j < length cs
    → x ≡ get_or vs j x → v ≡ value_at x i → v ≡ cell_at (rows_of n vs) i j
table-cell cs n vs i j x v f within lt e ev =
    let wide = fits-length cs n vs f in
    let low : i < n = rw (rows_of-length n vs) at within in
    ev ∙ ap (λ c. value_at c i) e ∙ sym (cell_of n vs i j x low (omega arith))

pub table-row : (n : ℕ) (vs : List (List Value)) (i : ℕ) → i < length (rows_of n vs) → row_at (rows_of n vs) i ≡ row_of vs i
table-row n vs i within = let low : i < n = rw (rows_of-length n vs) at within in rows_of-at n vs i [] low

pub ruleset table_facts = (fits-HaveLength, fits-length, fits-at-length, fits-grid, rows_of-length, rows_of-none, places-inside, columns-reach, absent-within)
