-- The right columns that a join shows, at places, and the rows of a left table with them.
use Rattle.std.proofs.Common.{◌≡◌, ◌<◌, ◌+◌, ℕ, zero, suc, Bool, true, false, List, [], ◌∷◌, ◌++◌, map, filter, length, get_or, take, refl, ap, ap₂, sym, ◌∙◌, subst, inl, inr, arith}
use Rattle.std.specs.Prelude.{All, not, ◌&&◌, bytes_eq, nat_lt, if◌then◌else◌, Option, None, Some}
use Rattle.std.specs.List.{AllByRecursion, position_or_len}
use Rattle.std.proofs.lemmas.Bool.{cases_Bool}
use Rattle.std.proofs.lemmas.List.{append-nil, get_or-map, length-map, map-append, take_more}
use Rattle.std.proofs.lemmas.List.Elements.{All-from_recursion, filter-append, recursion_from_All}
use Rattle.std.proofs.lemmas.Slice.Eq.{bytes_eq-Decides}
use Rattle.kql_cells.specs.Keys.{absent}
use Rattle.kql_cells.specs.Named.{HasDistinctNames, column_name, place_of}
use Rattle.kql_cells.specs.Seen.{value_at}
use Rattle.kql_cells.specs.Table.{Grid, IsGrid, RowFits}
use Rattle.kql_cells.specs.declared.schema.Column.{Column}
use Rattle.kql_cells.specs.declared.value.Value.{Value}
use Rattle.kql_cells.specs.declared.value.Value.TheVariants as value
use Rattle.kql_bound.specs.declared.parts.JoinPlan.{JoinPlan}
use Rattle.kql_bound.specs.declared.parts.OnPair.{OnPair}
use Rattle.kql_meaning.specs.Items.{cells_in, without}
use Rattle.kql_meaning.specs.Join.{both_columns, renamed, shown_columns, shown_row}
use Rattle.kql_meaning.specs.Tables.{absent_row, cell, is_name_among, names_of}
use Rattle.kql_meaning.proofs.MemberLaws.{Member, member-of-filter}
use Rattle.kql_fit_laws.proofs.RowFacts.{absent-row-fits, cells-fit, renamed-fits, rows-append}
use Rattle.kql_values.specs.Grids.{ColumnsFit, HaveLength, column_at, row_of, rows_of}
use Rattle.kql_values.specs.Moves.{IsWithin, beside, column_of, no_column, value_or}
use Rattle.kql_values.proofs.GridLaws.{HaveLength-append, rows_of-are, rows_of-beside, rows_of-length}
use Rattle.kql_values.proofs.TableLaws.{fits-HaveLength}
use Rattle.join_op.specs.Shown.{is_right_key, is_shown, shown_at, shown_cell, shown_cells}
use Rattle.join_op.proofs.KeySteps.{cell-there}
use Rattle.join_op.proofs.PlaceSteps.{there-within}

-- One column: its cells stand where its name says.

own-place : (cs : List Column) (p : ℕ) → HasDistinctNames column_name cs → p < length cs → position_or_len (λ c. bytes_eq (column_name c) (column_of cs p).name) cs ≡ p
own-place [] p h lt = absurd (omega (arith, lt))
own-place (c ∷ cs) zero h lt = rw ((bytes_eq-Decides c.name c.name).1 refl) refl
own-place (c ∷ cs) (suc p) h lt = elim (cases_Bool (bytes_eq c.name (column_of cs p).name)) [
  | inl t ↦ absurd (h 0 (suc p) no_column (omega arith) (omega (arith, lt)) ((bytes_eq-Decides c.name (column_of cs p).name).0 t))
  | inr f ↦ rw f (omega (arith, own-place cs p (λ i k d below inside. h (suc i) (suc k) d (omega (arith, below)) (omega (arith, inside))) (omega (arith, lt))))
]

place-own : (cs : List Column) (p : ℕ) → HasDistinctNames column_name cs → p < length cs → place_of column_name (column_of cs p).name cs ≡ Some p
place-own cs p h lt =
    let own = own-place cs p h lt in
    let test : nat_lt p (length cs) ≡ true = grind (arith, lt) in
    rw (own, test) refl

one-cell : (b : Grid) (p : ℕ) (o : Option ℕ) → HasDistinctNames column_name b.columns → IsGrid b → p < length b.columns → IsWithin (length b.lines) o
    → value_or (absent (column_of b.columns p).kind) (column_at b.lines p) o ≡ shown_cell b (column_of b.columns p) o
unfolding shown_cell
one-cell b p None h fits lt within = refl
one-cell b p (Some k) h fits lt within =
    get_or-map (λ row. value_at row p) b.lines k [] value.Null within ∙ sym (cell-there b k p (column_of b.columns p).name fits within lt (place-own b.columns p h lt))

cells-same : (f g : Option ℕ → Value) (n : ℕ) (os : List (Option ℕ)) → AllByRecursion (IsWithin n) os → ((o : Option ℕ) → IsWithin n o → f o ≡ g o) → map f os ≡ map g os
cells-same f g n [] all h = refl
cells-same f g n (o ∷ os) all h = ap₂ (λ (v : Value) (vs : List Value). v ∷ vs) (h o all.0) (cells-same f g n os all.1 h)

read-column : (cs : List Column) (p : ℕ) (c : Column) → p < length cs → c ≡ get_or cs p c → c ≡ column_of cs p
read-column [] p c lt is = absurd (omega (arith, lt))
read-column (d ∷ cs) zero c lt is = is
read-column (d ∷ cs) (suc p) c lt is = read-column cs p c (omega (arith, lt)) is

pub vector-shown : (b : Grid) (p : ℕ) (c : Column) (places : List (Option ℕ)) (a : Value) (v : List Value) → HasDistinctNames column_name b.columns → IsGrid b → p < length b.columns
    → All (IsWithin (length b.lines)) places → c ≡ get_or b.columns p c → a ≡ absent c.kind → v ≡ map (value_or a (column_at b.lines p)) places → v ≡ map (shown_cell b (column_of b.columns p)) places
vector-shown b p c places a v h fits lt within is none made =
    let there = read-column b.columns p c lt is in
    made ∙ (ap (λ x. map (value_or x (column_at b.lines p)) places) (none ∙ ap (λ (d : Column). absent d.kind) there)
    ∙ cells-same (value_or (absent (column_of b.columns p).kind) (column_at b.lines p)) (shown_cell b (column_of b.columns p)) (length b.lines) places (recursion_from_All (IsWithin (length b.lines)) places within) (λ o w. one-cell b p o h fits lt w))

pub within-columns : (b : Grid) (v : List Value) (places : List (Option ℕ)) → length v ≡ length b.lines → All (IsWithin (length b.lines)) places → All (IsWithin (length v)) places
within-columns b v places size within = subst (λ n. All (IsWithin n) places) (sym size) within

pub within-rows : (b : Grid) (v : List Value) (rows : List ℕ) → length v ≡ length b.lines → All (λ i. i < length b.lines) rows → All (λ i. i < length v) rows
within-rows b v rows size within = subst (λ n. All (λ i. i < n) rows) (sym size) within

pub ruleset cell_steps = (within-columns, within-rows, vector-shown)

-- The same where no place is none.

values-there : (a : Value) (vs : List Value) (rows : List ℕ) → map (value_at vs) rows ≡ map (value_or a vs) (map (λ i. Some i) rows)
values-there a vs [] = refl
values-there a vs (i ∷ is) = ap (λ xs. value_at vs i ∷ xs) (values-there a vs is)

rows-within : (n : ℕ) (rows : List ℕ) → AllByRecursion (λ i. i < n) rows → AllByRecursion (IsWithin n) (map (λ i. Some i) rows)
rows-within n [] h = tt
rows-within n (i ∷ is) h = (h.0, rows-within n is h.1)

own-column : (cs : List Column) (p : ℕ) → p < length cs → column_of cs p ≡ get_or cs p (column_of cs p)
own-column [] p lt = absurd (omega (arith, lt))
own-column (c ∷ cs) zero lt = refl
own-column (c ∷ cs) (suc p) lt = own-column cs p (omega (arith, lt))

pub vector-at : (b : Grid) (p : ℕ) (rows : List ℕ) (v : List Value) → HasDistinctNames column_name b.columns → IsGrid b → p < length b.columns
    → All (λ i. i < length b.lines) rows → v ≡ map (value_at (column_at b.lines p)) rows → v ≡ map (shown_cell b (column_of b.columns p)) (map (λ i. Some i) rows)
vector-at b p rows v h fits lt within made =
    let a = absent (column_of b.columns p).kind in
    let inside = All-from_recursion (IsWithin (length b.lines)) (map (λ i. Some i) rows) (rows-within (length b.lines) rows (recursion_from_All (λ i. i < length b.lines) rows within)) in
    vector-shown b p (column_of b.columns p) (map (λ i. Some i) rows) a v h fits lt inside (own-column b.columns p lt) refl (made ∙ values-there a (column_at b.lines p) rows)

-- A column at places, none of which is none.
pub shown-there : (b : Grid) (c : Column) (places : List (Option ℕ)) (rows : List ℕ) (v : List Value) → places ≡ map (λ i. Some i) rows → v ≡ map (shown_cell b c) (map (λ i. Some i) rows) → v ≡ map (shown_cell b c) places
shown-there b c places rows v is made = made ∙ ap (map (shown_cell b c)) (sym is)

pub ruleset there_steps = (there-within, shown-there)

-- Column by column.

one-more : (j : JoinPlan) (cs : List Column) (p : ℕ) (c : Column) → p < length cs → c ≡ get_or cs p c → filter (is_shown j) (take (p + 1) cs) ≡ filter (is_shown j) (take p cs) ++ filter (is_shown j) (c ∷ [])
one-more j cs p c lt is =
    let more : take (p + 1) cs ≡ take p cs ++ c ∷ [] = take_more cs p c lt ∙ ap (λ x. take p cs ++ x ∷ []) (sym is) in
    ap (filter (is_shown j)) more ∙ filter-append (is_shown j) (take p cs) (c ∷ [])

cells-more : (j : JoinPlan) (b : Grid) (places : List (Option ℕ)) (cs : List Column) (p : ℕ) (c : Column) → p < length cs → c ≡ get_or cs p c
    → shown_cells j b places (take (p + 1) cs) ≡ shown_cells j b places (take p cs) ++ map (λ (d : Column). map (shown_cell b d) places) (filter (is_shown j) (c ∷ []))
unfolding shown_cells
cells-more j b places cs p c lt is =
    ap (map (λ (d : Column). map (shown_cell b d) places)) (one-more j cs p c lt is) ∙ map-append (λ (d : Column). map (shown_cell b d) places) (filter (is_shown j) (take p cs)) (filter (is_shown j) (c ∷ []))

pub vector-added : (j : JoinPlan) (b : Grid) (places : List (Option ℕ)) (cs : List Column) (p : ℕ) (c : Column) (v : List Value) (old new : List (List Value)) → p < length cs → c ≡ get_or cs p c → is_shown j c ≡ true
    → v ≡ map (shown_cell b (column_of cs p)) places → old ≡ shown_cells j b places (take p cs) → new ≡ old ++ v ∷ [] → new ≡ shown_cells j b places (take (p + 1) cs)
vector-added j b places cs p c v old new lt is shown cells before added =
    let there = read-column cs p c lt is in
    let one : filter (is_shown j) (c ∷ []) ≡ c ∷ [] = rw shown refl in
    added ∙ (ap₂ (λ (xs : List (List Value)) (x : List Value). xs ++ x ∷ []) before (cells ∙ ap (λ (d : Column). map (shown_cell b d) places) (sym there))
    ∙ sym (cells-more j b places cs p c lt is ∙ ap (λ ds. shown_cells j b places (take p cs) ++ map (λ (d : Column). map (shown_cell b d) places) ds) one))

pub vector-left : (j : JoinPlan) (b : Grid) (places : List (Option ℕ)) (cs : List Column) (p : ℕ) (c : Column) (old new : List (List Value)) → p < length cs → c ≡ get_or cs p c → is_shown j c ≡ false
    → old ≡ shown_cells j b places (take p cs) → new ≡ old → new ≡ shown_cells j b places (take (p + 1) cs)
vector-left j b places cs p c old new lt is hidden before same =
    let none : filter (is_shown j) (c ∷ []) ≡ [] = rw hidden refl in
    same ∙ (before ∙ sym (cells-more j b places cs p c lt is ∙ (ap (λ ds. shown_cells j b places (take p cs) ++ map (λ (d : Column). map (shown_cell b d) places) ds) none ∙ append-nil (shown_cells j b places (take p cs)))))

pub cells-none : (j : JoinPlan) (b : Grid) (places : List (Option ℕ)) → shown_cells j b places [] ≡ []
unfolding shown_cells
cells-none j b places = refl

pub ruleset vector_steps = (cells-none)

-- The columns that are shown, and rows of them.

pub shown-are : (j : JoinPlan) (cs : List Column) → shown_columns j cs ≡ filter (is_shown j) cs
unfolding shown_columns without is_shown is_right_key
shown-are j cs = by j.lookup
  where
    all-kept : (ds : List Column) → ds ≡ filter (λ (c : Column). true) ds
    all-kept [] = refl
    all-kept (d ∷ ds) = ap (λ xs. d ∷ xs) (all-kept ds)

    by : (b : Bool) → (if b then filter (λ (c : Column). not (is_name_among (map (λ (pair : OnPair). pair.right) j.on) c.name)) cs else cs) ≡ filter (λ (c : Column). not (b && is_name_among (map (λ (pair : OnPair). pair.right) j.on) c.name)) cs
    by true = refl
    by false = all-kept cs

cells-of : Grid → Option ℕ → List Column → List Value
cells-of b o cs = map (λ (c : Column). shown_cell b c o) cs

row-shown : (b : Grid) (places : List (Option ℕ)) (cs : List Column) (m : ℕ) → m < length places → row_of (map (λ (c : Column). map (shown_cell b c) places) cs) m ≡ map (λ (c : Column). shown_cell b c (get_or places m None)) cs
unfolding row_of
row-shown b places [] m lt = refl
row-shown b places (c ∷ cs) m lt = ap₂ (λ (v : Value) (vs : List Value). v ∷ vs) (get_or-map (shown_cell b c) places m None value.Null lt) (row-shown b places cs m lt)

at-place : (j : JoinPlan) (b : Grid) (o : Option ℕ) → map (λ (c : Column). shown_cell b c o) (filter (is_shown j) b.columns) ≡ shown_at j b o
unfolding shown_at shown_cell shown_row cells_in absent_row
at-place j b None = ap (map (λ (c : Column). absent c.kind)) (sym (shown-are j b.columns))
at-place j b (Some k) = ap (map (λ (c : Column). cell b k c.name)) (sym (shown-are j b.columns))

rows-shown : (j : JoinPlan) (b : Grid) (places : List (Option ℕ)) → rows_of (length places) (shown_cells j b places b.columns) ≡ map (shown_at j b) places
unfolding shown_cells
rows-shown j b places =
    rows_of-are (length places) (map (λ (c : Column). map (shown_cell b c) places) (filter (is_shown j) b.columns)) (map (shown_at j b) places) (length-map places (shown_at j b)) (λ m lt.
    get_or-map (shown_at j b) places m None [] lt ∙ sym (row-shown b places (filter (is_shown j) b.columns) m lt ∙ at-place j b (get_or places m None)))

cells-long : (j : JoinPlan) (b : Grid) (places : List (Option ℕ)) (cs : List Column) → HaveLength (length places) (map (λ (c : Column). map (shown_cell b c) places) cs)
unfolding HaveLength
cells-long j b places [] = tt
cells-long j b places (c ∷ cs) = (length-map places (shown_cell b c), cells-long j b places cs)

-- The whole table.

pub vectors-long : (j : JoinPlan) (left b : Grid) (places : List (Option ℕ)) (n : ℕ) (own shown all : List (List Value)) → length left.lines ≡ length places → rows_of n own ≡ left.lines → ColumnsFit left.columns n own
    → shown ≡ shown_cells j b places b.columns → all ≡ own ++ shown → HaveLength n all
unfolding shown_cells
vectors-long j left b places n own shown all size rows fits is made =
    let count : length places ≡ n = sym size ∙ (ap length (sym rows) ∙ rows_of-length n own) in
    let more : HaveLength n shown = subst (λ m. HaveLength m shown) count (subst (HaveLength (length places)) (sym is) (cells-long j b places (filter (is_shown j) b.columns))) in
    subst (HaveLength n) (sym made) (HaveLength-append n own shown (fits-HaveLength left.columns n own fits) more)

whole-rows : (j : JoinPlan) (left b : Grid) (places : List (Option ℕ)) (n : ℕ) (own shown all rows : List (List Value)) → length left.lines ≡ length places → rows_of n own ≡ left.lines
    → shown ≡ shown_cells j b places b.columns → all ≡ own ++ shown → rows ≡ rows_of n all → rows ≡ beside left.lines (map (shown_at j b) places)
whole-rows j left b places n own shown all rows size own-rows is made are =
    let count : n ≡ length places = sym (sym size ∙ (ap length (sym own-rows) ∙ rows_of-length n own)) in
    are ∙ (ap (rows_of n) made ∙ (rows_of-beside n own shown
    ∙ ap₂ (λ (xs ys : List (List Value)). beside xs ys) own-rows (ap₂ rows_of count is ∙ rows-shown j b places)))

fits-shown : (j : JoinPlan) (b : Grid) (taken : List (List ℕ)) (o : Option ℕ) → HasDistinctNames column_name b.columns → IsGrid b → IsWithin (length b.lines) o → RowFits (renamed taken (shown_columns j b.columns)) (shown_at j b o)
unfolding shown_at shown_row
fits-shown j b taken None h fits within = renamed-fits taken (shown_columns j b.columns) (absent_row (shown_columns j b.columns)) (absent-row-fits (shown_columns j b.columns))
fits-shown j b taken (Some k) h fits within =
    let shown = shown_columns j b.columns in
    renamed-fits taken shown (cells_in shown b k) (cells-fit b k (h, fits) within shown (λ c m.
    (member-of-filter (is_shown j) b.columns c (subst (Member c) (shown-are j b.columns) m)).0))

beside-fits : {X : Type 0} (P : X → Type 0) (f : X → List Value) (cs ds : List Column) (ls : List (List Value)) (os : List X) → AllByRecursion (RowFits cs) ls → AllByRecursion P os → ((o : X) → P o → RowFits ds (f o)) → AllByRecursion (RowFits (cs ++ ds)) (beside ls (map f os))
unfolding beside
beside-fits P f cs ds [] os fits all h = tt
beside-fits P f cs ds (l ∷ ls) [] fits all h = tt
beside-fits P f cs ds (l ∷ ls) (o ∷ os) fits all h = (rows-append cs ds l (f o) fits.0 (h o all.0), beside-fits P f cs ds ls os fits.1 all.1 h)

rows-fit : (j : JoinPlan) (left b : Grid) (places : List (Option ℕ)) → IsGrid left → HasDistinctNames column_name b.columns → IsGrid b → All (IsWithin (length b.lines)) places
    → All (RowFits (both_columns j left.columns b.columns)) (beside left.lines (map (shown_at j b) places))
unfolding both_columns
rows-fit j left b places own h fits within =
    let ds = renamed (names_of left.columns) (shown_columns j b.columns) in
    All-from_recursion (RowFits (left.columns ++ ds)) (beside left.lines (map (shown_at j b) places))
    (beside-fits (IsWithin (length b.lines)) (shown_at j b) left.columns ds left.lines places (recursion_from_All (RowFits left.columns) left.lines own) (recursion_from_All (IsWithin (length b.lines)) places within)
    (λ o w. fits-shown j b (names_of left.columns) o h fits w))

pub table-fits : (j : JoinPlan) (left b : Grid) (places : List (Option ℕ)) (n : ℕ) (own shown all rows : List (List Value)) (cs : List Column) → IsGrid left → HasDistinctNames column_name b.columns → IsGrid b → All (IsWithin (length b.lines)) places
    → length left.lines ≡ length places → rows_of n own ≡ left.lines → shown ≡ shown_cells j b places b.columns → all ≡ own ++ shown → rows ≡ rows_of n all → cs ≡ both_columns j left.columns b.columns
    → All (RowFits cs) rows
table-fits j left b places n own shown all rows cs whole h fits within size own-rows is made are named =
    subst (λ ds. All (RowFits ds) rows) (sym named) (subst (All (RowFits (both_columns j left.columns b.columns))) (sym (whole-rows j left b places n own shown all rows size own-rows is made are)) (rows-fit j left b places whole h fits within))

pub table-made : (j : JoinPlan) (left b t : Grid) (places : List (Option ℕ)) (n : ℕ) (own shown all rows : List (List Value)) (cs : List Column)
    → length left.lines ≡ length places → rows_of n own ≡ left.lines → shown ≡ shown_cells j b places b.columns → all ≡ own ++ shown → rows ≡ rows_of n all → cs ≡ both_columns j left.columns b.columns
    → t ≡ record { columns = cs; lines = rows } → t ≡ record { columns = both_columns j left.columns b.columns; lines = beside left.lines (map (shown_at j b) places) }
table-made j left b t places n own shown all rows cs size own-rows is made are named e =
    e ∙ ap₂ (λ (ds : List Column) (ls : List (List Value)). record { columns = ds; lines = ls }) named (whole-rows j left b places n own shown all rows size own-rows is made are)

pub names-made : (cs ds : List Column) → cs ≡ ds → HasDistinctNames column_name ds → HasDistinctNames column_name cs
names-made cs ds e h = subst (HasDistinctNames column_name) (sym e) h

pub ruleset table_steps = (vectors-long, names-made)
