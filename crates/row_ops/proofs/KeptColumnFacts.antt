-- Columns that are kept by their places are those without some names, and `extend` is these beside the items.
use Rattle.std.proofs.Common.{◌≡◌, ◌<◌, ◌+◌, ℕ, zero, suc, Bool, true, List, [], ◌∷◌, ◌++◌, map, filter, length, get_or, refl, ap, ap₂, sym, ◌∙◌, subst, inl, inr, arith}
use Rattle.std.specs.Prelude.{All, not, bytes_eq, nat_lt, slice_get}
use Rattle.std.specs.List.{AllByRecursion, position_or_len, range_with_len}
use Rattle.std.proofs.lemmas.Bool.{cases_Bool}
use Rattle.std.proofs.lemmas.List.Elements.{All-from_recursion}
use Rattle.std.proofs.lemmas.Slice.Eq.{bytes_eq-Decides}
use Rattle.kql_cells.specs.Named.{HasDistinctNames, column_name}
use Rattle.kql_cells.specs.Seen.{row_at, value_at}
use Rattle.kql_cells.specs.Table.{Grid, IsGrid}
use Rattle.kql_cells.specs.declared.schema.Column.{Column}
use Rattle.kql_cells.specs.declared.value.Value.{Value}
use Rattle.kql_cells.specs.declared.value.Value.TheVariants as value
use Rattle.kql_cells.proofs.RowLaws.{length-RowFits}
use Rattle.kql_bound.specs.declared.parts.BItem.{BItem}
use Rattle.kql_meaning.specs.Extend.{extend_columns, extend_table}
use Rattle.kql_meaning.specs.Items.{cells_in, items_columns, items_names, items_values, without}
use Rattle.kql_meaning.specs.Project.{project_table}
use Rattle.kql_meaning.specs.Tables.{absent_in, cell, cell_in, is_name_among, places, places_below}
use Rattle.kql_meaning.proofs.JoinLaws.{map-map}
use Rattle.kql_meaning.proofs.RowByRowLaws.{rows-at-all}
use Rattle.kql_values.specs.Moves.{beside, column_of, no_column, picked, selected, side_by_side}
use Rattle.row_ops.specs.ItemColumns.{places_without}
use Rattle.row_ops.proofs.ItemColumnFacts.{map-range-same}

-- The numbers of a range that pass a test lie below its end, and no two are one.

pub filter-below : (p : ℕ → Bool) (a n : ℕ) → AllByRecursion (λ j. j < a + n) (filter p (range_with_len a n))
filter-below p a zero = tt
filter-below p a (suc n) =
    let e : a + 1 + n ≡ a + suc n = omega arith in
    let rest : AllByRecursion (λ j. j < a + suc n) (filter p (range_with_len (a + 1) n)) = subst (λ m. AllByRecursion (λ j. j < m) (filter p (range_with_len (a + 1) n))) e (filter-below p (a + 1) n) in
    elim (cases_Bool (p a)) [
      | inl t ↦ rw t (omega arith, rest)
      | inr f ↦ rw f rest
    ]

below : (p : ℕ → Bool) (n : ℕ) → AllByRecursion (λ j. j < n) (filter p (range_with_len 0 n))
below p n = let e : 0 + n ≡ n = omega arith in subst (λ m. AllByRecursion (λ j. j < m) (filter p (range_with_len 0 n))) e (filter-below p 0 n)

-- Columns.

filter-map : {X Y : Type 0} (p : Y → Bool) (f : X → Y) (xs : List X) → map f (filter (λ x. p (f x)) xs) ≡ filter p (map f xs)
filter-map p f [] = refl
filter-map p f (x ∷ xs) = elim (cases_Bool (p (f x))) [
  | inl t ↦ rw t (ap (λ ys. f x ∷ ys) (filter-map p f xs))
  | inr n ↦ rw n (filter-map p f xs)
]

range-next : {X : Type 0} (f : ℕ → X) (a n : ℕ) → map f (range_with_len (a + 1) n) ≡ map (λ i. f (suc i)) (range_with_len a n)
range-next f a zero = refl
range-next f a (suc n) = let next : a + 1 ≡ suc a = omega arith in ap₂ (λ x xs. x ∷ xs) (ap f next) (range-next f (a + 1) n)

all-columns : (cs : List Column) → map (column_of cs) (range_with_len 0 (length cs)) ≡ cs
all-columns [] = refl
all-columns (c ∷ cs) = ap (λ ds. c ∷ ds) (range-next (column_of (c ∷ cs)) 0 (length cs) ∙ all-columns cs)

pub columns-kept : (names : List (List ℕ)) (cs : List Column) → map (column_of cs) (places_without names cs) ≡ without names cs
unfolding places_without without places_below
columns-kept names cs =
    filter-map (λ (c : Column). not (is_name_among names c.name)) (column_of cs) (range_with_len 0 (length cs))
    ∙ ap (filter (λ (c : Column). not (is_name_among names c.name))) (all-columns cs)

pub places-inside : (names : List (List ℕ)) (cs : List Column) → All (λ j. j < length cs) (places_without names cs)
unfolding places_without places_below
places-inside names cs = All-from_recursion (λ j. j < length cs) (places_without names cs) (below (λ j. not (is_name_among names (column_of cs j).name)) (length cs))

-- A column of distinct names is found by its name at its place.

at-own-place : (cs : List Column) (j : ℕ) → HasDistinctNames column_name cs → j < length cs → position_or_len (λ c. bytes_eq (column_name c) (column_of cs j).name) cs ≡ j
at-own-place [] j h lt = absurd (omega arith)
at-own-place (c ∷ cs) zero h lt = rw ((bytes_eq-Decides c.name c.name).1 refl) refl
at-own-place (c ∷ cs) (suc j) h lt = elim (cases_Bool (bytes_eq c.name (column_of cs j).name)) [
  | inl t ↦ absurd (h 0 (suc j) no_column (omega arith) (omega (arith, lt)) ((bytes_eq-Decides c.name (column_of cs j).name).0 t))
  | inr f ↦ rw f (omega (arith, at-own-place cs j (λ i k d below inside. h (suc i) (suc k) d (omega (arith, below)) (omega (arith, inside))) (omega (arith, lt))))
]

cell-at-place : (t : Grid) (i j : ℕ) → HasDistinctNames column_name t.columns → IsGrid t → i < length t.lines → j < length t.columns → cell t i (column_of t.columns j).name ≡ value_at (row_at t.lines i) j
unfolding cell cell_in
cell-at-place t i j names fits row inside =
    let own = at-own-place t.columns j names inside in
    let test : nat_lt j (length t.columns) ≡ true = grind (arith, inside) in
    let width = length-RowFits t.columns (row_at t.lines i) (fits i [] row) in
    let k : j < length (row_at t.lines i) = omega (arith, width, inside) in
    rw (own, test) (same-within (row_at t.lines i) j (absent_in (slice_get t.columns j)) value.Null k)
  where
    same-within : (vs : List Value) (j : ℕ) (d e : Value) → j < length vs → get_or vs j d ≡ get_or vs j e
    same-within [] j d e lt = absurd (omega (arith, lt))
    same-within (v ∷ vs) zero d e lt = refl
    same-within (v ∷ vs) (suc j) d e lt = same-within vs j d e (omega (arith, lt))

-- Rows.

picked-cells : (ps : List ℕ) (t : Grid) (i : ℕ) → HasDistinctNames column_name t.columns → IsGrid t → i < length t.lines → AllByRecursion (λ j. j < length t.columns) ps → picked ps (row_at t.lines i) ≡ cells_in (map (column_of t.columns) ps) t i
unfolding cells_in
picked-cells [] t i names fits row all = refl
picked-cells (j ∷ js) t i names fits row all =
    ap₂ (λ (v : Value) (vs : List Value). v ∷ vs) (sym (cell-at-place t i j names fits row all.0)) (picked-cells js t i names fits row all.1)

pub kept-row : (names : List (List ℕ)) (t : Grid) (i : ℕ) → HasDistinctNames column_name t.columns → IsGrid t → i < length t.lines → picked (places_without names t.columns) (row_at t.lines i) ≡ cells_in (without names t.columns) t i
unfolding places_without places_below
kept-row names t i distinct fits row =
    picked-cells (places_without names t.columns) t i distinct fits row (below (λ j. not (is_name_among names (column_of t.columns j).name)) (length t.columns))
    ∙ ap (λ cs. cells_in cs t i) (columns-kept names t.columns)

kept-rows : (names : List (List ℕ)) (t : Grid) → HasDistinctNames column_name t.columns → IsGrid t → map (picked (places_without names t.columns)) t.lines ≡ map (λ i. cells_in (without names t.columns) t i) (places t)
unfolding places places_below
kept-rows names t distinct fits =
    ap (map (picked (places_without names t.columns))) (sym (rows-at-all t))
    ∙ (map-map (picked (places_without names t.columns)) (row_at t.lines) (places t)
    ∙ map-range-same (λ i. picked (places_without names t.columns) (row_at t.lines i)) (λ i. cells_in (without names t.columns) t i) 0 (length t.lines) (λ i lt. kept-row names t i distinct fits (omega (arith, lt))))

beside-maps : {X : Type 0} (f g : X → List Value) (xs : List X) → beside (map f xs) (map g xs) ≡ map (λ x. f x ++ g x) xs
unfolding beside
beside-maps f g [] = refl
beside-maps f g (x ∷ xs) = ap (λ rows. (f x ++ g x) ∷ rows) (beside-maps f g xs)

-- `extend` is the columns that stay, and beside them those of the items.
pub extended : (items : List BItem) (t : Grid) → HasDistinctNames column_name t.columns → IsGrid t → side_by_side (selected t (places_without (items_names items) t.columns)) (project_table items t) ≡ extend_table items t
unfolding extend_table extend_columns project_table
extended items t distinct fits =
    let names = items_names items in
    ap₂ (λ (cs : List Column) (ls : List (List Value)). record { columns = cs ++ items_columns items t.columns; lines = ls })
    (columns-kept names t.columns)
    (ap (λ ls. beside ls (map (λ i. items_values items t i) (places t))) (kept-rows names t distinct fits)
    ∙ beside-maps (λ i. cells_in (without names t.columns) t i) (λ i. items_values items t i) (places t))
