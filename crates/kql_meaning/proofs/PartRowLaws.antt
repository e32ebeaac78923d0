-- `parse` and `mv-expand` with plain expressions take each row by itself.
use Rattle.std.proofs.Common.{◌≡◌, ℕ, Bool, true, List, [], ◌∷◌, ◌++◌, map, filter, length, refl, ap, ap₂, sym, ◌∙◌, inl, inr}
use Rattle.std.specs.Prelude.{Option, None, Some, find, fold, max, slice_index_or}
use Rattle.std.specs.List.{flat_map}
use Rattle.std.proofs.lemmas.Bool.{and_parts, cases_Bool}
use Rattle.std.proofs.lemmas.List.Concat.{flat_map-append}
use Rattle.kql_cells.specs.Seen.{row_at}
use Rattle.kql_cells.specs.Table.{Grid}
use Rattle.kql_cells.specs.declared.schema.Column.{Column}
use Rattle.kql_cells.specs.declared.value.Value.{Value}
use Rattle.kql_cells.specs.declared.value.Value.TheVariants as value
use Rattle.kql_bound.specs.declared.parts.Expand.{Expand}
use Rattle.kql_bound.specs.declared.parts.ExpandItem.{ExpandItem}
use Rattle.kql_bound.specs.declared.parts.ParsePlan.{ParsePlan}
use Rattle.kql_cells.specs.Ordered.{text_in}
use Rattle.kql_meaning.specs.Expressions.{val}
use Rattle.kql_meaning.specs.Items.{cells_in, without}
use Rattle.kql_meaning.specs.LawsOfRows.{ExpandTakesEachRow, ParseOfGathered, ParseTakesEachRow}
use Rattle.kql_meaning.specs.MvExpand.{expand_columns, expand_table, expanded_row, item_named, item_parts, new_items, part_as, part_at, parts_of, replaced_cell, rows_given}
use Rattle.kql_meaning.specs.Parse.{parse_columns, parse_table, parsed_values, pattern_names}
use Rattle.kql_meaning.specs.RowByRow.{are_plain_parts, grid_of, is_plain}
use Rattle.kql_meaning.specs.Tables.{places, places_below}
use Rattle.kql_meaning.proofs.RowByRowLaws.{MakesOfEach, alone, cell-alone, cells-alone, made-of-rows, map-same, of-gathered, plain-alone, rows-at-all, takes-each}

-- `parse`.

abbrev pub parsed_row : ParsePlan → List Column → List Value → List Value
parsed_row p columns line = cells_in (without (pattern_names p.pattern) columns) (alone columns line) 0 ++ parsed_values p (text_in (val p.text (alone columns line) 0 []))

pub parse-of-each : (p : ParsePlan) → is_plain p.text ≡ true → MakesOfEach (parse_table p) (parse_columns p) (parsed_row p)
unfolding parse_table
parse-of-each p r = record {
  rows = λ t. ap (grid_of (parse_columns p t.columns))
      (made-of-rows t (λ i. cells_in (without (pattern_names p.pattern) t.columns) t i ++ parsed_values p (text_in (val p.text t i []))) (parsed_row p t.columns) (λ i. ap₂ (λ (a : List Value) (v : Value). a ++ parsed_values p (text_in v)) (cells-alone (without (pattern_names p.pattern) t.columns) t i) (plain-alone p.text r t i [])));
}

pub parse_of_gathered : ParseOfGathered
parse_of_gathered p t rows r h = of-gathered (parse_table p) (parse_columns p) (parsed_row p) (parse-of-each p r) t rows h

pub parse_takes_each_row : ParseTakesEachRow
parse_takes_each_row p r = takes-each (parse_table p) (parse_columns p) (parsed_row p) (parse-of-each p r)

-- `mv-expand`.

-- A row alone.
abbrev own : Grid → ℕ → Grid
own t i = alone t.columns (row_at t.lines i)

parts-alone : (x : Expand) (item : ExpandItem) → is_plain item.expr ≡ true → (t : Grid) (i : ℕ) → item_parts x t i item ≡ item_parts x (own t i) 0 item
unfolding item_parts
parts-alone x item r t i = ap (parts_of x.array) (plain-alone item.expr r t i [])

part-alone : (x : Expand) (item : ExpandItem) → is_plain item.expr ≡ true → (t : Grid) (i k : ℕ) → part_at x t i k item ≡ part_at x (own t i) 0 k item
unfolding part_at
part-alone x item r t i k = ap (λ (parts : List Value). part_as item.to (slice_index_or parts k value.Null)) (parts-alone x item r t i)

-- The longest of these and a number before them.
abbrev longest : Expand → Grid → ℕ → ℕ → List ExpandItem → ℕ
longest x t i n items = fold (λ m item. max m (length (item_parts x t i item))) n items

longest-alone : (x : Expand) (items : List ExpandItem) → are_plain_parts items ≡ true → (t : Grid) (i n : ℕ) → longest x t i n items ≡ longest x (own t i) 0 n items
unfolding are_plain_parts
longest-alone x [] r t i n = refl
longest-alone x (item ∷ items) r t i n =
    let b = and_parts (is_plain item.expr) (are_plain_parts items) r in
    ap (λ (parts : List Value). longest x t i (max n (length parts)) items) (parts-alone x item b.0 t i) ∙ longest-alone x items b.1 t i (max n (length (item_parts x (own t i) 0 item)))

given-alone : (x : Expand) → are_plain_parts x.items ≡ true → (t : Grid) (i : ℕ) → rows_given x t i ≡ rows_given x (own t i) 0
unfolding rows_given
given-alone x r t i = longest-alone x x.items r t i 0

abbrev IsPlainIn : Option ExpandItem → Type 0
IsPlainIn None = Unit {0}
IsPlainIn (Some item) = is_plain item.expr ≡ true

found-plain : (q : ExpandItem → Bool) (items : List ExpandItem) → are_plain_parts items ≡ true → IsPlainIn (find q items)
unfolding are_plain_parts
found-plain q [] r = tt
found-plain q (item ∷ items) r =
    let b = and_parts (is_plain item.expr) (are_plain_parts items) r in
    elim (cases_Bool (q item)) [
      | inl t ↦ rw t b.0
      | inr f ↦ rw f (found-plain q items b.1)
    ]

named-plain : (x : Expand) → are_plain_parts x.items ≡ true → (n : List ℕ) → IsPlainIn (item_named x.items n)
unfolding item_named
named-plain x r n = found-plain _ x.items r

replaced-alone : (x : Expand) (o : Option ExpandItem) → IsPlainIn o → (t : Grid) (i k : ℕ) (c : Column) → replaced_cell x t i k c o ≡ replaced_cell x (own t i) 0 k c o
unfolding replaced_cell
replaced-alone x None r t i k c = cell-alone t i c.name
replaced-alone x (Some item) r t i k c = part-alone x item r t i k

kept-alone : (x : Expand) (q : ExpandItem → Bool) (items : List ExpandItem) → are_plain_parts items ≡ true → (t : Grid) (i k : ℕ) → map (part_at x t i k) (filter q items) ≡ map (part_at x (own t i) 0 k) (filter q items)
unfolding are_plain_parts
kept-alone x q [] r t i k = refl
kept-alone x q (item ∷ items) r t i k =
    let b = and_parts (is_plain item.expr) (are_plain_parts items) r in
    elim (cases_Bool (q item)) [
      | inl yes_here ↦ rw yes_here (ap₂ (λ (v : Value) (vs : List Value). v ∷ vs) (part-alone x item b.0 t i k) (kept-alone x q items b.1 t i k))
      | inr no_here ↦ rw no_here (kept-alone x q items b.1 t i k)
    ]

expanded-alone : (x : Expand) → are_plain_parts x.items ≡ true → (t : Grid) (i k : ℕ) → expanded_row x t i k ≡ expanded_row x (own t i) 0 k
unfolding expanded_row new_items
expanded-alone x r t i k =
    ap₂ (λ (a : List Value) (b : List Value). a ++ b)
    (map-same (λ (c : Column). replaced_cell x t i k c (item_named x.items c.name)) (λ (c : Column). replaced_cell x (own t i) 0 k c (item_named x.items c.name)) (λ c. replaced-alone x (item_named x.items c.name) (named-plain x r c.name) t i k c) t.columns)
    (kept-alone x _ x.items r t i k)

abbrev pub rows_of_row : Expand → List Column → List Value → List (List Value)
rows_of_row x columns line = map (expanded_row x (alone columns line) 0) (places_below (rows_given x (alone columns line) 0))

rows-alone : (x : Expand) → are_plain_parts x.items ≡ true → (t : Grid) (i : ℕ) → map (expanded_row x t i) (places_below (rows_given x t i)) ≡ rows_of_row x t.columns (row_at t.lines i)
rows-alone x r t i =
    map-same (expanded_row x t i) (expanded_row x (own t i) 0) (λ k. expanded-alone x r t i k) (places_below (rows_given x t i))
    ∙ ap (λ n. map (expanded_row x (own t i) 0) (places_below n)) (given-alone x r t i)

flat-of-rows : (f : ℕ → List (List Value)) (g : List Value → List (List Value)) (h : ℕ → List Value) → ((i : ℕ) → f i ≡ g (h i)) → (is : List ℕ) → flat_map f is ≡ flat_map g (map h is)
flat-of-rows f g h e [] = refl
flat-of-rows f g h e (i ∷ is) = ap₂ (λ (a : List (List Value)) (b : List (List Value)). a ++ b) (e i) (flat-of-rows f g h e is)

pub expand-of-each : (x : Expand) → are_plain_parts x.items ≡ true → (t : Grid) → expand_table x t ≡ grid_of (expand_columns x t.columns) (flat_map (rows_of_row x t.columns) t.lines)
unfolding expand_table
expand-of-each x r t =
    ap (grid_of (expand_columns x t.columns))
    (flat-of-rows (λ i. map (expanded_row x t i) (places_below (rows_given x t i))) (rows_of_row x t.columns) (row_at t.lines) (rows-alone x r t) (places t)
    ∙ ap (flat_map (rows_of_row x t.columns)) (rows-at-all t))

pub expand_takes_each_row : ExpandTakesEachRow
expand_takes_each_row x r columns xs ys =
    ap (λ (t : Grid). t.lines) (expand-of-each x r (grid_of columns (xs ++ ys)))
    ∙ (flat_map-append (rows_of_row x columns) xs ys
    ∙ sym (ap₂ (λ (t u : Grid). t.lines ++ u.lines) (expand-of-each x r (grid_of columns xs)) (expand-of-each x r (grid_of columns ys))))

pub ruleset part_row_laws = (parse_of_gathered, parse_takes_each_row, expand_takes_each_row)
