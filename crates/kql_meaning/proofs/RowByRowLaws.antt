-- Plain expressions read their row alone, and so `where`, `extend` and `project` with them take each row by itself.
use Rattle.std.proofs.Common.{◌≡◌, ◌<◌, ℕ, zero, suc, Bool, true, false, List, [], ◌∷◌, ◌++◌, map, filter, length, refl, ap, ap₂, sym, ◌∙◌, subst, inl, inr, arith}
use Rattle.std.specs.Prelude.{All, Option, None, Some, slice_index_or}
use Rattle.std.specs.List.{list_all}
use Rattle.std.proofs.lemmas.Bool.{and_parts, cases_Bool}
use Rattle.std.proofs.lemmas.List.{map-append}
use Rattle.std.proofs.lemmas.List.Elements.{All-head, All-tail, filter-append}
use Rattle.kql_cells.specs.Named.{column_name, place_of}
use Rattle.kql_cells.specs.Seen.{row_at}
use Rattle.kql_cells.specs.Table.{Grid, gathered}
use Rattle.kql_cells.specs.declared.schema.Column.{Column}
use Rattle.kql_cells.specs.declared.value.Value.{Value}
use Rattle.kql_functions.specs.declared.func.Func.{Func}
use Rattle.kql_scalar_fns.specs.Applied.{applied}
use Rattle.kql_functions.specs.declared.aggregate.Aggregate.{Aggregate}
use Rattle.kql_bound.specs.declared.expr.BExpr.{BExpr, ind-BExpr, map-BExpr, out-BExpr, roll-BExpr, roll-out-BExpr}
use Rattle.kql_bound.specs.declared.expr.BExpr.TheOpen.{BExpr-F}
use Rattle.kql_bound.specs.declared.expr.BExpr.TheVariants as V
use Rattle.kql_bound.specs.declared.expr.ChainSign.{ChainSign}
use Rattle.kql_bound.specs.declared.expr.StepColumn.{StepColumn}
use Rattle.kql_functions.specs.declared.window.Window.{Window}
use Rattle.kql_bound.specs.declared.literal.Lit.{Lit}
use Rattle.kql_bound.specs.declared.parts.BItem.{BItem}
use Rattle.kql_meaning.specs.Expressions.{chain_value, path_value, val, value_along, value_down, values_in}
use Rattle.kql_meaning.specs.Extend.{extend_columns, extend_table}
use Rattle.kql_meaning.specs.Items.{cells_in, items_columns, items_names, items_values, without}
use Rattle.kql_meaning.specs.Results.{results, results_step}
use Rattle.kql_meaning.specs.LawsOfRows.{ExtendOfGathered, ExtendTakesEachRow, PlainOfGathered, PlainReadsItsRow, ProjectOfGathered, ProjectTakesEachRow, WhereOfGathered, WhereTakesEachRow}
use Rattle.kql_meaning.specs.Project.{project_table}
use Rattle.kql_meaning.specs.Readings.{Records}
use Rattle.kql_meaning.specs.RowByRow.{TakesEachRow, are_plain, grid_of, is_plain}
use Rattle.kql_meaning.specs.Tables.{cell, cell_in, places}
use Rattle.kql_meaning.specs.Values.{holds}
use Rattle.kql_meaning.specs.Where.{where_table}
use Rattle.kql_meaning.proofs.JoinLaws.{map-map}
use Rattle.kql_meaning.proofs.ListLaws.{gathered-all}
use Rattle.kql_meaning.proofs.PlainLaws.{links_plain, plain-Aggregate, plain-Call, plain-Chain, plain-Path, plain-Window}
use Rattle.kql_meaning.proofs.ValueLaws.{val-Call, val-Chain, val-Column, val-Literal, val-Path, val-Step}

-- Two rows that show the same cells.

abbrev SameCells : Grid → ℕ → Grid → ℕ → Type 0
SameCells t i u j = (n : List ℕ) → cell t i n ≡ cell u j n

-- What is said of an expression.
abbrev ReadsCells : BExpr → Type 0
ReadsCells e = is_plain e ≡ true → (t u : Grid) (i j : ℕ) (s : Records) → SameCells t i u j → val e t i s ≡ val e u j s

abbrev Given : Type 0
Given = (e : BExpr) × ReadsCells e

abbrev bare : Given → BExpr
bare g = g.0

abbrev bare_link : ChainSign × Given → ChainSign × BExpr
bare_link l = (l.0, l.1.0)

values-same : (gs : List Given) → list_all is_plain (map bare gs) ≡ true → (t u : Grid) (i j : ℕ) (s : Records) → SameCells t i u j → values_in (map bare gs) t i s ≡ values_in (map bare gs) u j s
unfolding values_in
values-same [] r t u i j s h = refl
values-same (g ∷ gs) r t u i j s h =
    let b = and_parts (is_plain g.0) (list_all is_plain (map bare gs)) r in
    ap₂ (λ (v : Value) (vs : List Value). v ∷ vs) (g.1 b.0 t u i j s h) (values-same gs b.1 t u i j s h)

abbrev link_values : List (ChainSign × BExpr) → Grid → ℕ → Records → List (ChainSign × Value)
link_values links t i s = map {B = ChainSign × Value} (λ (l : ChainSign × BExpr). (l.0, val l.1 t i s)) links

links-same : (gs : List (ChainSign × Given)) → links_plain (map bare_link gs) ≡ true → (t u : Grid) (i j : ℕ) (s : Records) → SameCells t i u j → link_values (map bare_link gs) t i s ≡ link_values (map bare_link gs) u j s
links-same [] r t u i j s h = refl
links-same (g ∷ gs) r t u i j s h =
    let b = and_parts (is_plain g.1.0) (links_plain (map bare_link gs)) r in
    ap₂ (λ (v : Value) (vs : List (ChainSign × Value)). (g.0, v) ∷ vs) (g.1.1 b.0 t u i j s h) (links-same gs b.1 t u i j s h)

literal-reads : (l : Lit) → ReadsCells (V.Literal l)
literal-reads l r t u i j s h = val-Literal l t i s ∙ sym (val-Literal l u j s)

column-reads : (n : List ℕ) → ReadsCells (V.Column n)
column-reads n r t u i j s h = val-Column n t i s ∙ (h n ∙ sym (val-Column n u j s))

step-reads : (c : StepColumn) → ReadsCells (V.Step c)
step-reads c r t u i j s h = val-Step c t i s ∙ sym (val-Step c u j s)

call-reads : (f : Func) (gs : List Given) → ReadsCells (V.Call f (map bare gs))
call-reads f gs r t u i j s h =
    let all = sym (plain-Call f (map bare gs)) ∙ r in
    val-Call f (map bare gs) t i s ∙ (ap (applied f) (values-same gs all t u i j s h) ∙ sym (val-Call f (map bare gs) u j s))

chain-reads : (first : Given) (gs : List (ChainSign × Given)) → ReadsCells (V.Chain first.0 (map bare_link gs))
unfolding value_along
chain-reads first gs r t u i j s h =
    let b = and_parts (is_plain first.0) (links_plain (map bare_link gs)) (sym (plain-Chain first.0 (map bare_link gs)) ∙ r) in
    val-Chain first.0 (map bare_link gs) t i s ∙ (ap₂ (λ v vs. chain_value v vs) (first.1 b.0 t u i j s h) (links-same gs b.1 t u i j s h) ∙ sym (val-Chain first.0 (map bare_link gs) u j s))

path-reads : (whole : Given) (gs : List Given) → ReadsCells (V.Path whole.0 (map bare gs))
unfolding value_down
path-reads whole gs r t u i j s h =
    let b = and_parts (is_plain whole.0) (list_all is_plain (map bare gs)) (sym (plain-Path whole.0 (map bare gs)) ∙ r) in
    val-Path whole.0 (map bare gs) t i s ∙ (ap₂ (λ v vs. path_value v vs) (whole.1 b.0 t u i j s h) (values-same gs b.1 t u i j s h) ∙ sym (val-Path whole.0 (map bare gs) u j s))

window-reads : (f : Window) (args : List BExpr) → ReadsCells (V.Window f args)
window-reads f args r t u i j s h = let no : false ≡ true = sym (plain-Window f args) ∙ r in absurd cc

aggregate-reads : (f : Aggregate) (args : List BExpr) → ReadsCells (V.Aggregate f args)
aggregate-reads f args r t u i j s h = let no : false ≡ true = sym (plain-Aggregate f args) ∙ r in absurd cc

of-layer : (y : BExpr-F Given) → ReadsCells (roll-BExpr (map-BExpr Given BExpr bare y))
of-layer (BExpr-F.Literal l) = subst ReadsCells (sym (V.rolls-Literal l)) (literal-reads l)
of-layer (BExpr-F.Column n) = subst ReadsCells (sym (V.rolls-Column n)) (column-reads n)
of-layer (BExpr-F.Step c) = subst ReadsCells (sym (V.rolls-Step c)) (step-reads c)
of-layer (BExpr-F.Call f gs) = subst ReadsCells (sym (V.rolls-Call f (map bare gs))) (call-reads f gs)
of-layer (BExpr-F.Chain first gs) = subst ReadsCells (sym (V.rolls-Chain first.0 (map bare_link gs))) (chain-reads first gs)
of-layer (BExpr-F.Path whole gs) = subst ReadsCells (sym (V.rolls-Path whole.0 (map bare gs))) (path-reads whole gs)
of-layer (BExpr-F.Window f gs) = subst ReadsCells (sym (V.rolls-Window f (map bare gs))) (window-reads f (map bare gs))
of-layer (BExpr-F.Aggregate f gs) = subst ReadsCells (sym (V.rolls-Aggregate f (map bare gs))) (aggregate-reads f (map bare gs))

-- A plain expression has one value wherever its columns have the same cells.
pub plain-reads : (e : BExpr) → ReadsCells e
plain-reads = ind-BExpr ReadsCells (λ x y is. subst (λ (z : BExpr-F BExpr). ReadsCells (roll-BExpr z)) is (of-layer y))

-- Rows.

-- The table of one row alone.
abbrev pub alone : List Column → List Value → Grid
alone columns line = grid_of columns (line ∷ [])

cell-of-row : (t : Grid) (i : ℕ) (o : Option ℕ) → cell_in t i o ≡ cell_in (alone t.columns (row_at t.lines i)) 0 o
unfolding cell_in
cell-of-row t i None = refl
cell-of-row t i (Some j) = refl

pub cell-alone : (t : Grid) (i : ℕ) (n : List ℕ) → cell t i n ≡ cell (alone t.columns (row_at t.lines i)) 0 n
unfolding cell
cell-alone t i n = cell-of-row t i (place_of column_name n t.columns)

pub plain_reads_its_row : PlainReadsItsRow
plain_reads_its_row e t u i j s r cs rows = plain-reads e r t u i j s (λ n. cell-alone t i n ∙ (ap₂ (λ columns line. cell (alone columns line) 0 n) cs rows ∙ sym (cell-alone u j n)))

-- So its value is that over the row alone.
pub plain-alone : (e : BExpr) → is_plain e ≡ true → (t : Grid) (i : ℕ) (s : Records) → val e t i s ≡ val e (alone t.columns (row_at t.lines i)) 0 s
plain-alone e r t i s = plain_reads_its_row e t (alone t.columns (row_at t.lines i)) i 0 s r refl refl

row-of-map : {X : Type 0} (f : X → List Value) (xs : List X) (k : ℕ) (d : X) → k < length xs → row_at (map f xs) k ≡ f (slice_index_or xs k d)
row-of-map f [] k d lt = absurd (omega arith)
row-of-map f (x ∷ xs) zero d lt = refl
row-of-map f (x ∷ xs) (suc k) d lt = row-of-map f xs k d (omega arith)

pub plain_of_gathered : PlainOfGathered
plain_of_gathered e t rows k s r lt = plain_reads_its_row e (gathered t rows) t k (slice_index_or rows k 0) s r refl (row-of-map (row_at t.lines) rows k 0 lt)

-- Lists.

filter-map : {X Y : Type 0} (p : Y → Bool) (f : X → Y) (xs : List X) → filter p (map f xs) ≡ map f (filter (λ x. p (f x)) xs)
filter-map p f [] = refl
filter-map p f (x ∷ xs) = elim (cases_Bool (p (f x))) [
  | inl t ↦ rw t (ap (λ ys. f x ∷ ys) (filter-map p f xs))
  | inr n ↦ rw n (filter-map p f xs)
]

filter-same : {X : Type 0} (p q : X → Bool) → ((x : X) → p x ≡ q x) → (xs : List X) → filter p xs ≡ filter q xs
filter-same p q h [] = refl
filter-same p q h (x ∷ xs) = elim (cases_Bool (q x)) [
  | inl t ↦ rw (h x, t) (ap (λ ys. x ∷ ys) (filter-same p q h xs))
  | inr n ↦ rw (h x, n) (filter-same p q h xs)
]

pub map-same : {X Y : Type 0} (f g : X → Y) → ((x : X) → f x ≡ g x) → (xs : List X) → map f xs ≡ map g xs
map-same f g h [] = refl
map-same f g h (x ∷ xs) = ap₂ (λ y ys. y ∷ ys) (h x) (map-same f g h xs)

pub rows-at-all : (t : Grid) → map (row_at t.lines) (places t) ≡ t.lines
rows-at-all t = ap (λ (u : Grid). u.lines) (gathered-all t)

-- `where`.

-- Whether a row passes a predicate.
abbrev pub passes : BExpr → List Column → List Value → Bool
passes e columns line = holds (val e (alone columns line) 0 [])

pub where-rows : (e : BExpr) → is_plain e ≡ true → (t : Grid) → where_table e t ≡ grid_of t.columns (filter (passes e t.columns) t.lines)
unfolding where_table
where-rows e r t =
    ap (grid_of t.columns)
    (ap (map (row_at t.lines)) (filter-same (λ i. holds (val e t i [])) (λ i. passes e t.columns (row_at t.lines i)) (λ i. ap holds (plain-alone e r t i [])) (places t))
    ∙ (sym (filter-map (passes e t.columns) (row_at t.lines) (places t)) ∙ ap (filter (passes e t.columns)) (rows-at-all t)))

pub where_of_gathered : WhereOfGathered
where_of_gathered e t rows r =
    where-rows e r (gathered t rows)
    ∙ ap (grid_of t.columns)
    (filter-map (passes e t.columns) (row_at t.lines) rows
    ∙ ap (map (row_at t.lines)) (filter-same (λ i. passes e t.columns (row_at t.lines i)) (λ i. holds (val e t i [])) (λ i. ap holds (sym (plain-alone e r t i []))) rows))

pub where_takes_each_row : WhereTakesEachRow
where_takes_each_row e r columns xs ys =
    ap (λ (t : Grid). t.lines) (where-rows e r (grid_of columns (xs ++ ys)))
    ∙ (filter-append (passes e columns) xs ys
    ∙ sym (ap₂ (λ (t u : Grid). t.lines ++ u.lines) (where-rows e r (grid_of columns xs)) (where-rows e r (grid_of columns ys))))

-- Operators that make one row of each row.

-- An operator whose rows are those that are made of each row by itself.
pub record MakesOfEach (f : Grid → Grid) (columns_made : List Column → List Column) (made : List Column → List Value → List Value) : Type 0 where
  pub rows : (t : Grid) → f t ≡ grid_of (columns_made t.columns) (map (made t.columns) t.lines)

pub takes-each : (f : Grid → Grid) (c : List Column → List Column) (g : List Column → List Value → List Value) → MakesOfEach f c g → TakesEachRow f
takes-each f c g each columns xs ys =
    ap (λ (t : Grid). t.lines) (each.rows (grid_of columns (xs ++ ys)))
    ∙ (map-append (g columns) xs ys
    ∙ sym (ap₂ (λ (t u : Grid). t.lines ++ u.lines) (each.rows (grid_of columns xs)) (each.rows (grid_of columns ys))))

rows-of-map : (g : List Value → List Value) (lines : List (List Value)) (rows : List ℕ) → All (λ i. i < length lines) rows → map g (map (row_at lines) rows) ≡ map (row_at (map g lines)) rows
rows-of-map g lines [] h = refl
rows-of-map g lines (i ∷ is) h =
    ap₂ (λ x xs. x ∷ xs) (sym (row-of-map g lines i [] (All-head (λ i. i < length lines) i is h))) (rows-of-map g lines is (All-tail (λ i. i < length lines) i is h))

pub of-gathered : (f : Grid → Grid) (c : List Column → List Column) (g : List Column → List Value → List Value) → MakesOfEach f c g → (t : Grid) (rows : List ℕ) → All (λ i. i < length t.lines) rows → f (gathered t rows) ≡ gathered (f t) rows
of-gathered f c g each t rows h =
    each.rows (gathered t rows)
    ∙ (ap (grid_of (c t.columns)) (rows-of-map (g t.columns) t.lines rows h)
    ∙ sym (ap (λ (u : Grid). gathered u rows) (each.rows t)))

-- What is made of each row by its place, where it is made of the row alone.
pub made-of-rows : {Y : Type 0} (t : Grid) (f : ℕ → Y) (g : List Value → Y) → ((i : ℕ) → f i ≡ g (row_at t.lines i)) → map f (places t) ≡ map g t.lines
made-of-rows t f g h = map-same f (λ i. g (row_at t.lines i)) h (places t) ∙ (sym (map-map g (row_at t.lines) (places t)) ∙ ap (map g) (rows-at-all t))

results-one : (e : BExpr) → is_plain e ≡ true → (y : BExpr-F BExpr) → out-BExpr e ≡ y → (v : Value) (t : Grid) (s : Records) → results_step y v t s ≡ v ∷ []
results-one e r (BExpr-F.Literal l) o v t s = refl
results-one e r (BExpr-F.Column n) o v t s = refl
results-one e r (BExpr-F.Step c) o v t s = refl
results-one e r (BExpr-F.Call f args) o v t s = refl
results-one e r (BExpr-F.Chain first links) o v t s = refl
results-one e r (BExpr-F.Path whole steps) o v t s = refl
results-one e r (BExpr-F.Window f args) o v t s = refl
results-one e r (BExpr-F.Aggregate f args) o v t s =
    let same : e ≡ V.Aggregate f args = sym (roll-out-BExpr e) ∙ (ap roll-BExpr o ∙ V.rolls-Aggregate f args) in
    let no : false ≡ true = sym (plain-Aggregate f args) ∙ (ap is_plain (sym same) ∙ r) in
    absurd cc

pub results-plain : (e : BExpr) → is_plain e ≡ true → (t : Grid) (i : ℕ) (s : Records) → results e t i s ≡ val e t i s ∷ []
unfolding results
results-plain e r t i s = results-one e r (out-BExpr e) refl (val e t i s) t s

pub items-alone : (items : List BItem) → are_plain items ≡ true → (t : Grid) (i : ℕ) → items_values items t i ≡ items_values items (alone t.columns (row_at t.lines i)) 0
unfolding items_values are_plain
items-alone [] r t i = refl
items-alone (b ∷ bs) r t i =
    let p = and_parts (is_plain b.expr) (are_plain bs) r in
    let u = alone t.columns (row_at t.lines i) in
    ap₂ (λ (x : List Value) (xs : List Value). x ++ xs) (results-plain b.expr p.0 t i [] ∙ (ap (λ v. v ∷ []) (plain-alone b.expr p.0 t i []) ∙ sym (results-plain b.expr p.0 u 0 []))) (items-alone bs p.1 t i)

pub cells-alone : (columns : List Column) (t : Grid) (i : ℕ) → cells_in columns t i ≡ cells_in columns (alone t.columns (row_at t.lines i)) 0
unfolding cells_in
cells-alone columns t i = map-same (λ c. cell t i c.name) (λ c. cell (alone t.columns (row_at t.lines i)) 0 c.name) (λ c. cell-alone t i c.name) columns

abbrev pub extended_row : List BItem → List Column → List Value → List Value
extended_row items columns line = cells_in (without (items_names items) columns) (alone columns line) 0 ++ items_values items (alone columns line) 0

abbrev pub projected_row : List BItem → List Column → List Value → List Value
projected_row items columns line = items_values items (alone columns line) 0

pub extend-of-each : (items : List BItem) → are_plain items ≡ true → MakesOfEach (extend_table items) (extend_columns items) (extended_row items)
unfolding extend_table
extend-of-each items r = record {
  rows = λ t. ap (grid_of (extend_columns items t.columns))
      (made-of-rows t (λ i. cells_in (without (items_names items) t.columns) t i ++ items_values items t i) (extended_row items t.columns) (λ i. ap₂ (λ (a : List Value) (b : List Value). a ++ b) (cells-alone (without (items_names items) t.columns) t i) (items-alone items r t i)));
}

pub project-of-each : (items : List BItem) → are_plain items ≡ true → MakesOfEach (project_table items) (items_columns items) (projected_row items)
unfolding project_table
project-of-each items r = record {
  rows = λ t. ap (grid_of (items_columns items t.columns))
      (made-of-rows t (λ i. items_values items t i) (projected_row items t.columns) (λ i. items-alone items r t i));
}

pub extend_of_gathered : ExtendOfGathered
extend_of_gathered items t rows r h = of-gathered (extend_table items) (extend_columns items) (extended_row items) (extend-of-each items r) t rows h

pub project_of_gathered : ProjectOfGathered
project_of_gathered items t rows r h = of-gathered (project_table items) (items_columns items) (projected_row items) (project-of-each items r) t rows h

pub extend_takes_each_row : ExtendTakesEachRow
extend_takes_each_row items r = takes-each (extend_table items) (extend_columns items) (extended_row items) (extend-of-each items r)

pub project_takes_each_row : ProjectTakesEachRow
project_takes_each_row items r = takes-each (project_table items) (items_columns items) (projected_row items) (project-of-each items r)

pub ruleset row_by_row_laws = (plain_reads_its_row, plain_of_gathered, where_of_gathered, extend_of_gathered, project_of_gathered, where_takes_each_row, extend_takes_each_row, project_takes_each_row)
