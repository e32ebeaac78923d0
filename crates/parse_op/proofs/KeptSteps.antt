-- Columns that stay are taken by their places, one after another, and the columns of a pattern are set beside them.
use Rattle.std.proofs.Common.{◌≡◌, ◌≢◌, ◌<◌, ◌≤◌, ◌+◌, ℕ, zero, suc, Bool, true, false, List, [], ◌∷◌, ◌++◌, map, filter, length, get_or, refl, ap, ap₂, sym, ◌∙◌, subst, inl, inr, arith}
use Rattle.std.specs.Prelude.{All, AllPairs, not, bytes_eq, nat_lt, slice_get}
use Rattle.std.specs.List.{AllByRecursion, position_or_len, range_with_len}
use Rattle.std.proofs.lemmas.Bool.{cases_Bool}
use Rattle.std.proofs.lemmas.List.{map-id}
use Rattle.std.proofs.lemmas.List.Elements.{All-from_recursion, filter-append}
use Rattle.std.proofs.lemmas.List.FromFn.{map-range_with_len_more}
use Rattle.std.proofs.lemmas.Slice.Eq.{bytes_eq-Decides}
use Rattle.kql_cells.specs.Named.{HasDistinctNames, column_name}
use Rattle.kql_cells.specs.Seen.{row_at, value_at}
use Rattle.kql_cells.specs.Table.{Grid, IsGrid}
use Rattle.kql_cells.specs.declared.schema.Column.{Column}
use Rattle.kql_cells.specs.declared.value.Value.{Value}
use Rattle.kql_cells.specs.declared.value.Value.TheVariants as value
use Rattle.kql_cells.proofs.RowLaws.{length-RowFits}
use Rattle.kql_meaning.specs.Items.{cells_in, without}
use Rattle.kql_meaning.specs.Tables.{absent_in, cell, cell_in, has_column, names_of, places, places_below}
use Rattle.kql_meaning.proofs.JoinLaws.{map-map}
use Rattle.kql_meaning.proofs.MemberLaws.{Pairwise, pairs-of}
use Rattle.kql_meaning.proofs.RowByRowLaws.{rows-at-all}
use Rattle.kql_values.specs.Moves.{beside, column_of, no_column, picked, selected, side_by_side}
use Rattle.parse_op.specs.Filled.{places_without}

-- The places of columns that stay.

abbrev pub stay : List Column → List Column → ℕ → List ℕ
stay made cs n = filter (λ j. not (has_column (column_of cs j).name made)) (range_with_len 0 n)

range-more : (n : ℕ) → range_with_len 0 (n + 1) ≡ range_with_len 0 n ++ n ∷ []
range-more n = sym (map-id (range_with_len 0 (n + 1))) ∙ (map-range_with_len_more (λ (x : ℕ). x) 0 n n (omega arith) ∙ ap (λ xs. xs ++ n ∷ []) (map-id (range_with_len 0 n)))

stay-more : (made : List Column) (cs : List Column) (j : ℕ) → stay made cs (j + 1) ≡ stay made cs j ++ filter (λ j. not (has_column (column_of cs j).name made)) (j ∷ [])
stay-more made cs j =
    let p = λ (j : ℕ). not (has_column (column_of cs j).name made) in
    ap (filter p) (range-more j) ∙ filter-append p (range_with_len 0 j) (j ∷ [])

at-place : (cs : List Column) (j : ℕ) (c : Column) → j < length cs → c ≡ get_or cs j c → column_of cs j ≡ c
at-place [] j c lt is = absurd (omega (arith, lt))
at-place (d ∷ cs) zero c lt is = sym is
at-place (d ∷ cs) (suc j) c lt is = at-place cs j c (omega (arith, lt)) is

nothing-more : (xs : List ℕ) → xs ≡ xs ++ []
nothing-more [] = refl
nothing-more (x ∷ xs) = ap (λ ys. x ∷ ys) (nothing-more xs)

pub place-added : (made : List Column) (cs : List Column) (j : ℕ) (c : Column) (old new : List ℕ) → j < length cs → c ≡ get_or cs j c → has_column c.name made ≡ false → old ≡ stay made cs j → new ≡ old ++ j ∷ [] → new ≡ stay made cs (j + 1)
place-added made cs j c old new lt is free before after =
    let test : not (has_column (column_of cs j).name made) ≡ true = rw (at-place cs j c lt is, free) refl in
    let one : filter (λ j. not (has_column (column_of cs j).name made)) (j ∷ []) ≡ j ∷ [] = rw test refl in
    after ∙ (ap (λ xs. xs ++ j ∷ []) before ∙ sym (stay-more made cs j ∙ ap (λ xs. stay made cs j ++ xs) one))

pub place-left : (made : List Column) (cs : List Column) (j : ℕ) (c : Column) (old new : List ℕ) → j < length cs → c ≡ get_or cs j c → has_column c.name made ≡ true → old ≡ stay made cs j → new ≡ old → new ≡ stay made cs (j + 1)
place-left made cs j c old new lt is among before after =
    let test : not (has_column (column_of cs j).name made) ≡ false = rw (at-place cs j c lt is, among) refl in
    let none : filter (λ j. not (has_column (column_of cs j).name made)) (j ∷ []) ≡ [] = rw test refl in
    after ∙ (before ∙ (nothing-more (stay made cs j) ∙ sym (stay-more made cs j ∙ ap (λ xs. stay made cs j ++ xs) none)))

-- No two places are one.

filter-above : (p : ℕ → Bool) (a n : ℕ) → AllByRecursion (λ j. a ≤ j) (filter p (range_with_len a n))
filter-above p a zero = tt
filter-above p a (suc n) =
    let rest : AllByRecursion (λ j. a ≤ j) (filter p (range_with_len (a + 1) n)) = weaker (filter p (range_with_len (a + 1) n)) (filter-above p (a + 1) n) in
    elim (cases_Bool (p a)) [
      | inl t ↦ rw t (omega arith, rest)
      | inr f ↦ rw f rest
    ]
  where
    weaker : (xs : List ℕ) → AllByRecursion (λ j. a + 1 ≤ j) xs → AllByRecursion (λ j. a ≤ j) xs
    weaker [] h = tt
    weaker (x ∷ xs) h = (omega (arith, h.0), weaker xs h.1)

differ-from : (a : ℕ) (xs : List ℕ) → AllByRecursion (λ j. a + 1 ≤ j) xs → AllByRecursion (λ j. a ≢ j) xs
differ-from a [] h = tt
differ-from a (x ∷ xs) h = ((λ e. absurd (omega (arith, h.0, e))), differ-from a xs h.1)

filter-differ : (p : ℕ → Bool) (a n : ℕ) → Pairwise (λ i j. i ≢ j) (filter p (range_with_len a n))
filter-differ p a zero = tt
filter-differ p a (suc n) =
    let rest = filter-differ p (a + 1) n in
    let apart = differ-from a (filter p (range_with_len (a + 1) n)) (filter-above p (a + 1) n) in
    elim (cases_Bool (p a)) [
      | inl t ↦ rw t (apart, rest)
      | inr f ↦ rw f rest
    ]

pub places-differ : (made : List Column) (cs : List Column) → AllPairs (λ i j. i ≢ j) (places_without made cs)
unfolding places_without places_below
places-differ made cs =
    pairs-of (λ i j. i ≢ j) (filter (λ j. not (has_column (column_of cs j).name made)) (range_with_len 0 (length cs))) (filter-differ (λ j. not (has_column (column_of cs j).name made)) 0 (length cs))

-- The numbers of a range that pass a test lie below its end, and no two are one.

filter-below : (p : ℕ → Bool) (a n : ℕ) → AllByRecursion (λ j. j < a + n) (filter p (range_with_len a n))
filter-below p a zero = tt
filter-below p a (suc n) =
    let e : a + 1 + n ≡ a + suc n = omega arith in
    let rest : AllByRecursion (λ j. j < a + suc n) (filter p (range_with_len (a + 1) n)) = subst (λ m. AllByRecursion (λ j. j < m) (filter p (range_with_len (a + 1) n))) e (filter-below p (a + 1) n) in
    elim (cases_Bool (p a)) [
      | inl t ↦ rw t (omega arith, rest)
      | inr f ↦ rw f rest
    ]

below : (p : ℕ → Bool) (n : ℕ) → AllByRecursion (λ j. j < n) (filter p (range_with_len 0 n))
below p n = let e : 0 + n ≡ n = omega arith in subst (λ m. AllByRecursion (λ j. j < m) (filter p (range_with_len 0 n))) e (filter-below p 0 n)

-- Columns.

filter-map : {X Y : Type 0} (p : Y → Bool) (f : X → Y) (xs : List X) → map f (filter (λ x. p (f x)) xs) ≡ filter p (map f xs)
filter-map p f [] = refl
filter-map p f (x ∷ xs) = elim (cases_Bool (p (f x))) [
  | inl t ↦ rw t (ap (λ ys. f x ∷ ys) (filter-map p f xs))
  | inr n ↦ rw n (filter-map p f xs)
]

range-next : {X : Type 0} (f : ℕ → X) (a n : ℕ) → map f (range_with_len (a + 1) n) ≡ map (λ i. f (suc i)) (range_with_len a n)
range-next f a zero = refl
range-next f a (suc n) = let next : a + 1 ≡ suc a = omega arith in ap₂ (λ x xs. x ∷ xs) (ap f next) (range-next f (a + 1) n)

all-columns : (cs : List Column) → map (column_of cs) (range_with_len 0 (length cs)) ≡ cs
all-columns [] = refl
all-columns (c ∷ cs) = ap (λ ds. c ∷ ds) (range-next (column_of (c ∷ cs)) 0 (length cs) ∙ all-columns cs)

pub columns-kept : (made : List Column) (cs : List Column) → map (column_of cs) (places_without made cs) ≡ without (names_of made) cs
unfolding places_without without places_below has_column
columns-kept made cs =
    filter-map (λ (c : Column). not (has_column c.name made)) (column_of cs) (range_with_len 0 (length cs))
    ∙ ap (filter (λ (c : Column). not (has_column c.name made))) (all-columns cs)

pub places-inside : (made : List Column) (cs : List Column) → All (λ j. j < length cs) (places_without made cs)
unfolding places_without places_below
places-inside made cs = All-from_recursion (λ j. j < length cs) (places_without made cs) (below (λ j. not (has_column (column_of cs j).name made)) (length cs))

-- A column of distinct names is found by its name at its place.

at-own-place : (cs : List Column) (j : ℕ) → HasDistinctNames column_name cs → j < length cs → position_or_len (λ c. bytes_eq (column_name c) (column_of cs j).name) cs ≡ j
at-own-place [] j h lt = absurd (omega arith)
at-own-place (c ∷ cs) zero h lt = rw ((bytes_eq-Decides c.name c.name).1 refl) refl
at-own-place (c ∷ cs) (suc j) h lt = elim (cases_Bool (bytes_eq c.name (column_of cs j).name)) [
  | inl t ↦ absurd (h 0 (suc j) no_column (omega arith) (omega (arith, lt)) ((bytes_eq-Decides c.name (column_of cs j).name).0 t))
  | inr f ↦ rw f (omega (arith, at-own-place cs j (λ i k d below inside. h (suc i) (suc k) d (omega (arith, below)) (omega (arith, inside))) (omega (arith, lt))))
]

cell-at-place : (t : Grid) (i j : ℕ) → HasDistinctNames column_name t.columns → IsGrid t → i < length t.lines → j < length t.columns → cell t i (column_of t.columns j).name ≡ value_at (row_at t.lines i) j
unfolding cell cell_in
cell-at-place t i j names fits row inside =
    let own = at-own-place t.columns j names inside in
    let test : nat_lt j (length t.columns) ≡ true = grind (arith, inside) in
    let width = length-RowFits t.columns (row_at t.lines i) (fits i [] row) in
    let k : j < length (row_at t.lines i) = omega (arith, width, inside) in
    rw (own, test) (same-within (row_at t.lines i) j (absent_in (slice_get t.columns j)) value.Null k)
  where
    same-within : (vs : List Value) (j : ℕ) (d e : Value) → j < length vs → get_or vs j d ≡ get_or vs j e
    same-within [] j d e lt = absurd (omega (arith, lt))
    same-within (v ∷ vs) zero d e lt = refl
    same-within (v ∷ vs) (suc j) d e lt = same-within vs j d e (omega (arith, lt))

-- Rows.

map-range-same : {X : Type 0} (f g : ℕ → X) (a n : ℕ) → ((i : ℕ) → i < a + n → f i ≡ g i) → map f (range_with_len a n) ≡ map g (range_with_len a n)
map-range-same f g a zero h = refl
map-range-same f g a (suc n) h = ap₂ (λ x xs. x ∷ xs) (h a (omega arith)) (map-range-same f g (a + 1) n (λ i lt. h i (omega (arith, lt))))

picked-cells : (ps : List ℕ) (t : Grid) (i : ℕ) → HasDistinctNames column_name t.columns → IsGrid t → i < length t.lines → AllByRecursion (λ j. j < length t.columns) ps → picked ps (row_at t.lines i) ≡ cells_in (map (column_of t.columns) ps) t i
unfolding cells_in
picked-cells [] t i names fits row all = refl
picked-cells (j ∷ js) t i names fits row all =
    ap₂ (λ (v : Value) (vs : List Value). v ∷ vs) (sym (cell-at-place t i j names fits row all.0)) (picked-cells js t i names fits row all.1)

pub kept-row : (made : List Column) (t : Grid) (i : ℕ) → HasDistinctNames column_name t.columns → IsGrid t → i < length t.lines → picked (places_without made t.columns) (row_at t.lines i) ≡ cells_in (without (names_of made) t.columns) t i
unfolding places_without places_below
kept-row made t i distinct fits row =
    picked-cells (places_without made t.columns) t i distinct fits row (below (λ j. not (has_column (column_of t.columns j).name made)) (length t.columns))
    ∙ ap (λ cs. cells_in cs t i) (columns-kept made t.columns)

kept-rows : (made : List Column) (t : Grid) → HasDistinctNames column_name t.columns → IsGrid t → map (picked (places_without made t.columns)) t.lines ≡ map (λ i. cells_in (without (names_of made) t.columns) t i) (places t)
unfolding places places_below
kept-rows made t distinct fits =
    ap (map (picked (places_without made t.columns))) (sym (rows-at-all t))
    ∙ (map-map (picked (places_without made t.columns)) (row_at t.lines) (places t)
    ∙ map-range-same (λ i. picked (places_without made t.columns) (row_at t.lines i)) (λ i. cells_in (without (names_of made) t.columns) t i) 0 (length t.lines) (λ i lt. kept-row made t i distinct fits (omega (arith, lt))))

beside-maps : {X : Type 0} (f g : X → List Value) (xs : List X) → beside (map f xs) (map g xs) ≡ map (λ x. f x ++ g x) xs
unfolding beside
beside-maps f g [] = refl
beside-maps f g (x ∷ xs) = ap (λ rows. (f x ++ g x) ∷ rows) (beside-maps f g xs)

-- The columns that stay, and others beside them.
pub others-beside : (made cs : List Column) (t : Grid) (f : ℕ → List Value) → HasDistinctNames column_name t.columns → IsGrid t → side_by_side (selected t (places_without made t.columns)) (record { columns = cs; lines = map f (places t) }) ≡ record { columns = without (names_of made) t.columns ++ cs; lines = map (λ i. cells_in (without (names_of made) t.columns) t i ++ f i) (places t) }
others-beside made cs t f distinct fits =
    ap₂ (λ (ds : List Column) (ls : List (List Value)). record { columns = ds ++ cs; lines = ls })
    (columns-kept made t.columns)
    (ap (λ ls. beside ls (map f (places t))) (kept-rows made t distinct fits)
    ∙ beside-maps (λ i. cells_in (without (names_of made) t.columns) t i) f (places t))

pub ruleset place_steps = (place-added, place-left)
