-- The tables of sources.
use Rattle.std.proofs.Common.{◌≡◌, ◌<◌, ◌≤◌, ◌+◌, ℕ, suc, true, List, [], ◌∷◌, map, length, get_or, refl, sym, ap, ap₂, ◌∙◌, subst, arith, ℤ}
use Rattle.std.specs.Prelude.{◌&&◌, All, Some, nat_le}
use Rattle.std.specs.Int.{is_positive}
use Rattle.std.specs.List.{range_with_len}
use Rattle.std.proofs.lemmas.Bool.{and_parts, leb-true}
use Rattle.kql_cells.specs.Named.{HasDistinctNames, column_name}
use Rattle.kql_cells.specs.Seen.{value_at}
use Rattle.kql_cells.specs.Table.{Grid, IsGrid, RowFits}
use Rattle.kql_cells.specs.declared.schema.Column.{Column}
use Rattle.kql_cells.specs.declared.value.Kind.{Kind}
use Rattle.kql_cells.specs.declared.value.Value.{Value}
use Rattle.kql_cells.specs.declared.value.Value.TheVariants as value
use Rattle.kql_bound.specs.declared.literal.Lit.{Lit}
use Rattle.kql_bound.specs.declared.parts.BItem.{BItem}
use Rattle.kql_meaning.specs.declared.position.Position.TheVariants as position
use Rattle.kql_meaning.specs.Fits.{Known, source_columns}
use Rattle.kql_bound.specs.declared.plan.Source.TheVariants as source
use Rattle.kql_meaning.specs.FittingOperators.{answer_if, are_distinct, columns_if, ends_fit, has_at_most, is_empty, items_fit, range_fits}
use Rattle.kql_meaning.specs.Numbers.{count_of_terms, terms}
use Rattle.kql_meaning.specs.Plans.{World, source_table}
use Rattle.kql_meaning.specs.Project.{project_table}
use Rattle.kql_meaning.specs.Sources.{number_in, print_table, range_columns, range_table}
use Rattle.kql_meaning.specs.Tables.{is_name_among, names_of}
use Rattle.kql_meaning.specs.Values.{number_as}
use Rattle.kql_meaning.proofs.MemberLaws.{pairs-of}
use Rattle.kql_fit_laws.proofs.RangeRows.{range_keeps}
use Rattle.kql_values.specs.Grids.{ColumnsFit, HaveLength, row_of, rows_of}
use Rattle.row_ops.proofs.PlainItemLaws.{items-widen}

-- `print`.

pub none-fit : ColumnsFit [] 1 []
unfolding ColumnsFit
none-fit = tt

pub no-names : HasDistinctNames column_name []
no-names = pairs-of (λ c d. column_name c ≡ column_name d → ⊥) [] tt

one-row : (g : Grid) → g ≡ record { columns = []; lines = rows_of 1 [] } → g ≡ record { columns = []; lines = [] ∷ [] }
unfolding rows_of row_of
one-row g is = is

pub print-fits : (items : List BItem) (g : Grid) → items_fit items [] position.Plain ≡ true → g ≡ record { columns = []; lines = rows_of 1 [] } → items_fit items g.columns position.Window ≡ true
print-fits items g fits is = subst (λ (h : Grid). items_fit items h.columns position.Window ≡ true) (sym is) (items-widen items [] fits)

pub print-names : (items : List BItem) (g : Grid) (cs : List Column → List Column) → HasDistinctNames column_name (cs []) → g ≡ record { columns = []; lines = rows_of 1 [] } → HasDistinctNames column_name (cs g.columns)
print-names items g cs names is = subst (λ (h : Grid). HasDistinctNames column_name (cs h.columns)) (sym is) names

pub print-made : (items : List BItem) (g r : Grid) → g ≡ record { columns = []; lines = rows_of 1 [] } → r ≡ project_table items g → r ≡ print_table items
unfolding print_table
print-made items g r is made = made ∙ ap (project_table items) (one-row g is)

pub ruleset print_steps = (none-fit, no-names, print-fits, print-made)

-- `range`.

range-parts : (from to step : Lit) → range_fits from to step ≡ true → (is_positive (number_in step) ≡ true) × (count_of_terms (number_in from) (number_in to) (number_in step) ≤ 1000000)
unfolding range_fits has_at_most
range-parts from to step fits =
    let n = count_of_terms (number_in from) (number_in to) (number_in step) in
    let parts = and_parts (ends_fit from to step) (is_positive (number_in step) && nat_le n 1000000) fits in
    let own = and_parts (is_positive (number_in step)) (nat_le n 1000000) parts.1 in
    (own.0, leb-true n 1000000 own.1)

pub range-positive : (from to step : Lit) (s : ℤ) → range_fits from to step ≡ true → s ≡ number_in step → is_positive s ≡ true
range-positive from to step s fits is = ap is_positive is ∙ (range-parts from to step fits).0

pub range-few : (from to step : Lit) (a b s : ℤ) → range_fits from to step ≡ true → a ≡ number_in from → b ≡ number_in to → s ≡ number_in step → count_of_terms a b s ≤ 1000000
range-few from to step a b s fits first last each =
    subst (λ x. count_of_terms x b s ≤ 1000000) (sym first)
    (subst (λ y. count_of_terms (number_in from) y s ≤ 1000000) (sym last)
    (subst (λ z. count_of_terms (number_in from) (number_in to) z ≤ 1000000) (sym each) (range-parts from to step fits).1))

one-name : (column : List ℕ) (from : Lit) → HasDistinctNames column_name (range_columns column from)
unfolding range_columns
one-name column from = pairs-of (λ c d. column_name c ≡ column_name d → ⊥) (record { name = column; kind = from.kind } ∷ []) (tt, tt)

pub range-names : (column : List ℕ) (from : Lit) (cs : List Column) → cs ≡ range_columns column from → HasDistinctNames column_name cs
range-names column from cs is = subst (HasDistinctNames column_name) (sym is) (one-name column from)

pub one-long : (n : ℕ) (v : List Value) (vs : List (List Value)) → n ≡ length v → vs ≡ v ∷ [] → HaveLength n vs
unfolding HaveLength
one-long n v vs len is = subst (HaveLength n) (sym is) (sym len, tt)

-- One column alone is a row for each of its values.
rows-from : (v : List Value) (a : ℕ) (d : ℕ → List Value) → ((i : ℕ) → i < length v → d (a + i) ≡ get_or v i value.Null ∷ []) → map d (range_with_len a (length v)) ≡ map (λ x. x ∷ []) v
rows-from [] a d h = refl
rows-from (x ∷ xs) a d h =
    let first : d a ≡ x ∷ [] = let e : a + 0 ≡ a = omega arith in subst (λ n. d n ≡ x ∷ []) e (h 0 (omega arith)) in
    ap₂ (λ r rs. r ∷ rs) first (rows-from xs (a + 1) d (λ i lt. let e : a + suc i ≡ a + 1 + i = omega arith in subst (λ n. d n ≡ get_or xs i value.Null ∷ []) e (h (suc i) (omega (arith, lt)))))

rows-alone : (v : List Value) → rows_of (length v) (v ∷ []) ≡ map (λ x. x ∷ []) v
unfolding rows_of row_of
rows-alone v = rows-from v 0 (row_of (v ∷ [])) (λ i lt. let e : 0 + i ≡ i = omega arith in ap (λ k. value_at v k ∷ []) e)

range-lines : (kind : Kind) (ns : List ℤ) → map (λ (x : Value). x ∷ []) (map (number_as kind) ns) ≡ map (λ n. number_as kind n ∷ []) ns
range-lines kind [] = refl
range-lines kind (n ∷ ns) = ap (λ (rows : List (List Value)). (number_as kind n ∷ []) ∷ rows) (range-lines kind ns)

pub range-rows : (column : List ℕ) (from to step : Lit) (a b s : ℤ) (n : ℕ) (v : List Value) (vs rows : List (List Value)) → a ≡ number_in from → b ≡ number_in to → s ≡ number_in step → v ≡ map (number_as from.kind) (terms a b s) → n ≡ length v → vs ≡ v ∷ [] → rows ≡ rows_of n vs → rows ≡ (range_table column from to step).lines
unfolding range_table
range-rows column from to step a b s n v vs rows first last each is len alone made =
    made ∙ (ap₂ rows_of len alone ∙ (rows-alone v
    ∙ (ap (map (λ (x : Value). x ∷ [])) (is ∙ (ap (λ x. map (number_as from.kind) (terms x b s)) first ∙ (ap (λ y. map (number_as from.kind) (terms (number_in from) y s)) last ∙ ap (λ z. map (number_as from.kind) (terms (number_in from) (number_in to) z)) each)))
    ∙ range-lines from.kind (terms (number_in from) (number_in to) (number_in step)))))

nothing-known : Known
nothing-known = record { tables = []; lets = [] }

no-world : World
no-world = record { tables = []; lets = [] }

range-there : (column : List ℕ) (from to step : Lit) → range_fits from to step ≡ true → source_columns (source.Range column from to step) nothing-known ≡ Some (range_columns column from)
unfolding source_columns answer_if columns_if range_columns is_empty are_distinct names_of is_name_among
range-there column from to step fits = rw fits refl

range-grid : (column : List ℕ) (from to step : Lit) → range_fits from to step ≡ true → IsGrid (range_table column from to step)
unfolding source_table
range-grid column from to step fits = (range_keeps nothing-known no-world column from to step (range_columns column from) (range-there column from to step fits)).1.1

pub range-fit : (column : List ℕ) (from to step : Lit) (cs : List Column) (rows : List (List Value)) → range_fits from to step ≡ true → cs ≡ range_columns column from → rows ≡ (range_table column from to step).lines → All (RowFits cs) rows
unfolding range_table
range-fit column from to step cs rows fits named is =
    subst (λ ds. All (RowFits ds) rows) (sym named) (subst (All (RowFits (range_columns column from))) (sym is) (range-grid column from to step fits))

pub range-made : (column : List ℕ) (from to step : Lit) (cs : List Column) (rows : List (List Value)) (r : Grid) → cs ≡ range_columns column from → rows ≡ (range_table column from to step).lines → r ≡ record { columns = cs; lines = rows } → r ≡ range_table column from to step
unfolding range_table
range-made column from to step cs rows r named is made =
    made ∙ ap₂ (λ (ds : List Column) (ls : List (List Value)). record { columns = ds; lines = ls }) named is

pub ruleset range_steps = (range-positive, range-few, range-names, one-long)
