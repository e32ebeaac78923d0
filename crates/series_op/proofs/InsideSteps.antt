-- The rows inside.
use Rattle.std.proofs.Common.{◌≡◌, ◌<◌, ◌+◌, Bool, false, List, [], ◌∷◌, ◌++◌, ℕ, suc, filter, length, refl, ap, ap₂, sym, ◌∙◌, subst, arith}
use Rattle.std.specs.Prelude.{All, None, Option, Some, cond}
use Rattle.std.specs.List.{range_with_len}
use Rattle.std.proofs.lemmas.List.Elements.{All-filter, filter-append}
use Rattle.std.proofs.lemmas.Option.{slice_get_within}
use Rattle.kql_cells.specs.Named.{column_name, place_of}
use Rattle.kql_cells.specs.Seen.{value_at}
use Rattle.kql_cells.specs.Table.{Grid, IsGrid, gathered}
use Rattle.kql_cells.specs.declared.schema.Column.{Column}
use Rattle.kql_cells.specs.declared.value.Value.{Value}
use Rattle.kql_values.specs.Grids.{column_at}
use Rattle.kql_keys.proofs.NumberLaws.{range-suc}
use Rattle.kql_bound.specs.declared.parts.SeriesPlan.{SeriesPlan}
use Rattle.kql_meaning.specs.MakeSeries.{is_inside, rows_inside}
use Rattle.kql_meaning.specs.Tables.{cell, cell_in, places, places_below}
use Rattle.kql_meaning.specs.Values.{number_of}
use Rattle.kql_meaning.proofs.ListLaws.{every-range, filter-none}
use Rattle.kql_fit_laws.proofs.RowFacts.{found-place, places-inside}
use Rattle.kql_scalar.proofs.FormFacts.{cell-column}
use Rattle.series_op.proofs.BinRows.{filter-each}

-- Whether the axis of a row lies inside.
abbrev pub inside_at : SeriesPlan → Grid → ℕ → Bool
inside_at p t i = is_inside p (number_of (cell t i p.axis))

-- The table.

pub inside-below : (p : SeriesPlan) (t : Grid) (ps seen : List ℕ) → ps ≡ filter (λ i. is_inside p (number_of (cell t i p.axis))) (places t) → seen ≡ ps → All (λ i. i < length t.lines) seen
inside-below p t ps seen e same = subst (All (λ i. i < length t.lines)) (sym (same ∙ e)) (All-filter (inside_at p t) (λ i. i < length t.lines) (places t) (places-inside t))

pub inside-is : (p : SeriesPlan) (t u : Grid) (ps seen : List ℕ) → ps ≡ filter (λ i. is_inside p (number_of (cell t i p.axis))) (places t) → seen ≡ ps → u ≡ gathered t seen → u ≡ rows_inside p t
unfolding rows_inside
inside-is p t u ps seen e same is = is ∙ ap (gathered t) (same ∙ e)

pub ruleset table_steps = (inside-below, inside-is)

-- The axis as a column.

place-below : (cs : List Column) (n : List ℕ) (j : ℕ) → place_of column_name n cs ≡ Some j → j < length cs
place-below cs n j e = let q = found-place cs n j e in slice_get_within cs j q.0 q.1

axis-cell : (p : SeriesPlan) (t : Grid) (i j : ℕ) (vs : List Value) → IsGrid t → place_of column_name p.axis t.columns ≡ Some j → vs ≡ column_at t.lines j → i < length t.lines → cell t i p.axis ≡ value_at vs i
unfolding cell
axis-cell p t i j vs h e is lt = ap (cell_in t i) e ∙ cell-column t i j vs h is lt (place-below t.columns p.axis j e)

pub axis-places : (p : SeriesPlan) (t : Grid) (j : ℕ) (vs : List Value) (cs : List Column) (o : Option ℕ) (ps : List ℕ) → IsGrid t → cs ≡ t.columns → o ≡ place_of column_name p.axis cs → o ≡ Some j → vs ≡ column_at t.lines j → length vs ≡ length t.lines → ps ≡ filter (λ i. is_inside p (number_of (value_at vs i))) (range_with_len 0 (length vs)) → ps ≡ filter (λ i. is_inside p (number_of (cell t i p.axis))) (places t)
unfolding places places_below
axis-places p t j vs cs o ps h same named found is long e =
    let there : place_of column_name p.axis t.columns ≡ Some j = ap (place_of column_name p.axis) (sym same) ∙ (sym named ∙ found) in
    e
    ∙ (ap (λ n. filter (λ i. is_inside p (number_of (value_at vs i))) (range_with_len 0 n)) long
    ∙ filter-each (λ i. is_inside p (number_of (value_at vs i))) (inside_at p t) (range_with_len 0 (length t.lines))
    (every-range (λ i. is_inside p (number_of (value_at vs i)) ≡ inside_at p t i) 0 (length t.lines)
    (λ i low high. ap (λ (v : Value). is_inside p (number_of v)) (sym (axis-cell p t i j vs h there is (omega (arith, high)))))))

no-axis : (p : SeriesPlan) (t : Grid) (i : ℕ) → place_of column_name p.axis t.columns ≡ None → inside_at p t i ≡ false
unfolding cell cell_in number_of is_inside
no-axis p t i e = rw e refl

pub axis-none : (p : SeriesPlan) (t : Grid) (cs : List Column) (o : Option ℕ) (ps : List ℕ) → cs ≡ t.columns → o ≡ place_of column_name p.axis cs → o ≡ None → ps ≡ [] → ps ≡ filter (λ i. is_inside p (number_of (cell t i p.axis))) (places t)
unfolding places places_below
axis-none p t cs o ps same named found e =
    let there : place_of column_name p.axis t.columns ≡ None = ap (place_of column_name p.axis) (sym same) ∙ (sym named ∙ found) in
    e ∙ sym (filter-none (inside_at p t) (range_with_len 0 (length t.lines)) (every-range (λ i. inside_at p t i ≡ false) 0 (length t.lines) (λ i low high. no-axis p t i there)))

pub ruleset axis_steps = (axis-places, axis-none)

-- Place after place.

abbrev pub inside_column : SeriesPlan → List Value → ℕ → List ℕ
inside_column p vs n = filter (λ i. is_inside p (number_of (value_at vs i))) (range_with_len 0 n)

range-more : (q : ℕ → Bool) (i : ℕ) → filter q (range_with_len 0 (i + 1)) ≡ filter q (range_with_len 0 i) ++ filter q (i ∷ [])
range-more q i =
    let next : i + 1 ≡ suc i = omega arith in
    ap (λ n. filter q (range_with_len 0 n)) next ∙ (ap (filter q) (range-suc i) ∙ filter-append q (range_with_len 0 i) (i ∷ []))

pub place-next : (p : SeriesPlan) (vs : List Value) (i : ℕ) (v : Value) (b : Bool) (old new : List ℕ) → v ≡ value_at vs i → b ≡ is_inside p (number_of v) → old ≡ inside_column p vs i → new ≡ old ++ cond b (i ∷ []) [] → new ≡ inside_column p vs (i + 1)
place-next p vs i v b old new value test before after =
    let q = λ (k : ℕ). is_inside p (number_of (value_at vs k)) in
    let here : b ≡ q i = test ∙ ap (λ (w : Value). is_inside p (number_of w)) value in
    let one : cond b (i ∷ []) [] ≡ filter q (i ∷ []) = ap (λ c. cond c (i ∷ []) []) here in
    after ∙ (ap₂ (λ (xs ys : List ℕ). xs ++ ys) before one ∙ sym (range-more q i))

pub none-yet : (p : SeriesPlan) (vs : List Value) → inside_column p vs 0 ≡ []
none-yet p vs = refl

pub ruleset column_steps = (none-yet, place-next)
