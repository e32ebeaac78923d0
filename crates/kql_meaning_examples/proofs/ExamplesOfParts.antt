-- What make-series and mv-expand give of small tables, computed.
use Rattle.std.proofs.Common.{◌≡◌, ◌∙◌, ℕ, Bool, true, false, List, [], ◌∷◌, ◌++◌, length, map, refl, ap, rules}
use Rattle.std.specs.Prelude.{codes, pos, ℤ, Some, ◌==◌, if◌then◌else◌}
use mathlib.Core.Path.{fun_ext}
use Rattle.kql_cells.specs.Table.{Grid}
use Rattle.kql_cells.specs.declared.dynamic.Dyn.{Dyn, the_lemmas}
use Rattle.kql_dynamic.specs.Arrays.{array}
use Rattle.kql_dynamic.specs.Parts.{value_of}
use Rattle.kql_scalar_fns.specs.Conversion.{long_held, one_if, to_long}
use Rattle.kql_scalar_fns.specs.Dynamic.{element}
use Rattle.kql_cells.specs.Readings.{long_written}
use Rattle.kql_cells.specs.declared.dynamic.Dyn.TheVariants as dyn
use Rattle.kql_cells.specs.declared.schema.Column.{Column}
use Rattle.kql_cells.specs.declared.value.Kind.TheVariants as kind
use Rattle.kql_cells.specs.declared.value.Value.{Value}
use Rattle.kql_cells.specs.declared.value.Value.TheVariants as value
use Rattle.kql_ticks.specs.Ranges.{fit}
use Rattle.kql_functions.specs.declared.aggregate.Aggregate.TheVariants as aggregate
use Rattle.kql_bound.specs.declared.parts.SeriesPlan.{SeriesPlan}
use Rattle.kql_meaning.specs.Aggregates.{aggregated, all_values}
use Rattle.kql_meaning.specs.Groups.{distinct_keys, group_of, key_by}
use Rattle.kql_meaning.specs.MakeSeries.{axis_of, bins, falls_in, is_inside, of_bin, rows_in_bin, rows_inside, series_columns, series_item_columns, series_of, series_row, series_rows, series_table}
use Rattle.kql_meaning.specs.Numbers.{added, count_of_terms, fitted, sum_of, terms}
use Rattle.kql_meaning.specs.Readings.{reading_at, values_over}
use Rattle.kql_meaning.specs.Sources.{number_in}
use Rattle.kql_meaning_examples.proofs.ExamplesOfValues.{column-columns, kind_by, sum-reading, sum_read, value-reading}
use Rattle.kql_meaning_examples.specs.Examples.{ExpandBag, ExpandBagAsArrays, ExpandBoth, ExpandColumns, ExpandInPlaceToLong, ExpandToLong, dynamic_text, mixed, SeriesColumns, SeriesOfSums, aggregate_of, array_of, bins_of_five, long_literal, n, named, of_longs, t, timed, column, dynamic_long, null}
use Rattle.kql_meaning.specs.Expressions.{column_kind, val}
use Rattle.kql_meaning.specs.MvExpand.{entry_part, expand_columns, expand_table, expanded_row, item_named, item_parts, kind_named, new_columns, new_items, part_as, part_at, parts_of, replaced_cell, replaced_column, replaced_columns, rows_given}
use Rattle.kql_meaning.specs.Tables.{absent_in, cell, cell_in, distinct_by, has_column, is_name_among, names_of, places, places_below}
use Rattle.kql_meaning.specs.Values.{absent, number_as, number_of, same_key, same_keys}
use Rattle.kql_meaning.proofs.ValueLaws.{val-Column}

-- The parts of the cells.
array-parts : (array : Bool) (xs : List Dyn) → parts_of array (value.Dynamic (dyn.Array xs)) ≡ map value_of xs
unfolding parts_of
array-parts array xs = search (rules, the_lemmas)

long-part : (k : ℕ) → value_of (dyn.Long (pos k)) ≡ dynamic_long k
long-part k = search (rules, the_lemmas)

long-parts : (array : Bool) (k : ℕ) → parts_of array (dynamic_long k) ≡ dynamic_long k ∷ []
unfolding parts_of
long-parts array k = search (rules, the_lemmas)

abbrev parts : Value → List Value
parts v = parts_of false v

one_two : parts (array_of (1 ∷ 2 ∷ [])) ≡ dynamic_long 1 ∷ dynamic_long 2 ∷ []
one_two = rw (array-parts, long-part 1, long-part 2) refl

seven_to_nine : parts (array_of (7 ∷ 8 ∷ 9 ∷ [])) ≡ dynamic_long 7 ∷ dynamic_long 8 ∷ dynamic_long 9 ∷ []
seven_to_nine = rw (array-parts, long-part 7, long-part 8, long-part 9) refl

nothing : parts (array_of []) ≡ []
nothing = rw array-parts refl

pub expand_both : ExpandBoth
unfolding expand_table expanded_row item_named item_parts new_items part_as part_at replaced_cell rows_given has_column is_name_among names_of cell cell_in absent_in absent places places_below parts_of
expand_both = simp (val-Column, one_two, seven_to_nine, nothing, long-parts) refl

-- The sum of x over any rows.
sum-value : (g : Grid) → val (aggregate_of aggregate.Sum (codes "x")) g 0 [] ≡ sum_read.at g 0 []
sum-value g = value-reading (aggregate_of aggregate.Sum (codes "x")) sum_read sum-reading g 0

key-value : (g : Grid) (i : ℕ) → key_by (named (codes "g") (column (codes "g")) ∷ []) g i ≡ cell g i (codes "g") ∷ []
unfolding key_by
key-value g i = rw (val-Column (codes "g") g i []) refl

keys-value : (g : Grid) → key_by bins_of_five.keys g ≡ (λ i. cell g i (codes "g") ∷ [])
keys-value g = fun_ext (key-value g)

-- The rows of a series, by the keys of its groups.
abbrev series_by : SeriesPlan → Grid → (ℕ → List Value) → List (List Value)
series_by p g ks = map (λ k. k ++ (map (series_of p (group_of ks g k)) p.items ++ axis_of p ∷ [])) (distinct_keys ks g)

series-keys : (p : SeriesPlan) (g : Grid) (ks : ℕ → List Value) → key_by p.keys g ≡ ks → series_rows p g ≡ series_by p g ks
unfolding series_rows series_row
series-keys p g ks same = ap (series_by p g) same

-- An item over the bins, by its sums.
abbrev sums_by : Grid → Value
sums_by g = array (map (λ b. element (if length (rows_in_bin bins_of_five g b).lines == 0 then n 9 else sum_read.at (rows_in_bin bins_of_five g b) 0 [])) (bins bins_of_five))

sums-value : (g : Grid) → series_of bins_of_five g (record { name = codes "s"; expr = aggregate_of aggregate.Sum (codes "x"); default = long_literal 9 }) ≡ sums_by g
unfolding series_of of_bin
sums-value g = ap (λ (f : ℤ → Value). array (map (λ b. element (if length (rows_in_bin bins_of_five g b).lines == 0 then n 9 else f b)) (bins bins_of_five))) (fun_ext (λ b. sum-value (rows_in_bin bins_of_five g b)))

inside : Grid
inside = rows_inside bins_of_five timed

rows_of_sums : series_by bins_of_five inside (λ i. cell inside i (codes "g") ∷ []) ≡ map (λ k. k ++ (sums_by (group_of (λ i. cell inside i (codes "g") ∷ []) inside k) ∷ axis_of bins_of_five ∷ [])) (distinct_keys (λ i. cell inside i (codes "g") ∷ []) inside)
rows_of_sums = ap (λ (f : List Value → Value). map (λ k. k ++ (f k ∷ axis_of bins_of_five ∷ [])) (distinct_keys (λ i. cell inside i (codes "g") ∷ []) inside)) (fun_ext (λ k. sums-value (group_of (λ i. cell inside i (codes "g") ∷ []) inside k)))

computed : map (λ k. k ++ (sums_by (group_of (λ i. cell inside i (codes "g") ∷ []) inside k) ∷ axis_of bins_of_five ∷ [])) (distinct_keys (λ i. cell inside i (codes "g") ∷ []) inside) ≡ ((t (codes "a") ∷ of_longs (11 ∷ 1 ∷ []) ∷ of_longs (0 ∷ 5 ∷ []) ∷ []) ∷ (t (codes "b") ∷ of_longs (2 ∷ 9 ∷ []) ∷ of_longs (0 ∷ 5 ∷ []) ∷ []) ∷ [])
unfolding inside axis_of rows_in_bin falls_in bins is_inside rows_inside number_in terms count_of_terms number_of number_as added distinct_keys distinct_by group_of same_keys same_key cell cell_in absent_in absent places places_below sum_read aggregated all_values values_over reading_at fitted sum_of fit column_kind element
computed = refl

pub series_of_sums : SeriesOfSums
unfolding series_table inside
series_of_sums = series-keys bins_of_five inside _ (keys-value inside) ∙ (rows_of_sums ∙ computed)

-- A bag, and parts that are converted.
bag-parts : (array : Bool) (entries : List (List ℕ × Dyn)) → parts_of array (value.Dynamic (dyn.Bag entries)) ≡ map (entry_part array) entries
unfolding parts_of
bag-parts array entries = search (rules, the_lemmas)

pub expand_bag : ExpandBag
unfolding expand_table expand_columns replaced_columns replaced_column kind_named new_columns expanded_row item_named item_parts new_items part_as part_at replaced_cell rows_given entry_part has_column is_name_among names_of cell cell_in absent_in absent places places_below
expand_bag = simp (val-Column, bag-parts) refl

pub expand_bag_as_arrays : ExpandBagAsArrays
unfolding expand_table expand_columns replaced_columns replaced_column kind_named new_columns expanded_row item_named item_parts new_items part_as part_at replaced_cell rows_given entry_part has_column is_name_among names_of cell cell_in absent_in absent places places_below
expand_bag_as_arrays = simp (val-Column, bag-parts) refl

text-part : (x : List ℕ) → value_of (dyn.Text x) ≡ value.Dynamic (dyn.Text x)
text-part x = search (rules, the_lemmas)

truth-part : (b : Bool) → value_of (dyn.Bool b) ≡ value.Dynamic (dyn.Bool b)
truth-part b = search (rules, the_lemmas)

mixed-parts : parts mixed ≡ dynamic_long 1 ∷ dynamic_text (codes "7") ∷ dynamic_text (codes "x") ∷ value.Dynamic (dyn.Bool true) ∷ []
mixed-parts = rw (array-parts, long-part 1, text-part (codes "7"), text-part (codes "x"), truth-part true) refl

null-parts : parts null ≡ null ∷ []
unfolding parts_of
null-parts = refl

long-held : (k : ℕ) → long_held (dyn.Long (pos k)) ≡ Some (pos k)
unfolding long_held
long-held k = search (rules, the_lemmas)

text-held : (x : List ℕ) → long_held (dyn.Text x) ≡ long_written x
unfolding long_held
text-held x = search (rules, the_lemmas)

truth-held : (b : Bool) → long_held (dyn.Bool b) ≡ Some (one_if b)
unfolding long_held
truth-held b = search (rules, the_lemmas)

one-as_long : to_long (dynamic_long 1) ≡ n 1
unfolding to_long
one-as_long = rw (long-held 1) refl

seven-as_long : to_long (dynamic_text (codes "7")) ≡ n 7
unfolding to_long long_written
seven-as_long = rw (text-held (codes "7")) refl

letter-as_long : to_long (dynamic_text (codes "x")) ≡ null
unfolding to_long long_written
letter-as_long = rw (text-held (codes "x")) refl

truth-as_long : to_long (value.Dynamic (dyn.Bool true)) ≡ n 1
unfolding to_long
truth-as_long = rw (truth-held true) refl

null-as_long : to_long null ≡ null
unfolding to_long
null-as_long = refl

pub expand_to_long : ExpandToLong
unfolding expand_table expand_columns replaced_columns replaced_column kind_named new_columns expanded_row item_named item_parts new_items part_as part_at replaced_cell rows_given has_column is_name_among names_of cell cell_in absent_in absent places places_below
expand_to_long = simp (val-Column, mixed-parts, null-parts, one-as_long, seven-as_long, letter-as_long, truth-as_long, null-as_long) refl

pub expand_in_place_to_long : ExpandInPlaceToLong
unfolding expand_table expand_columns replaced_columns replaced_column kind_named new_columns expanded_row item_named item_parts new_items part_as part_at replaced_cell rows_given has_column is_name_among names_of cell cell_in absent_in absent places places_below
expand_in_place_to_long = simp (val-Column, mixed-parts, null-parts, one-as_long, seven-as_long, letter-as_long, truth-as_long, null-as_long) refl

pub expand_columns_of_both : ExpandColumns
unfolding expand_table expand_columns replaced_columns replaced_column kind_named new_columns new_items item_named has_column is_name_among names_of
expand_columns_of_both = refl

pub series_columns_of_sums : SeriesColumns
unfolding series_table series_columns series_item_columns kind_by column_kind
series_columns_of_sums = ap (λ (columns : List Column). columns ++ (series_item_columns bins_of_five.items ++ record { name = codes "t"; kind = kind.Dynamic } ∷ [])) (column-columns (codes "g") (codes "g") timed.columns)

pub ruleset part_examples = (expand_both, expand_columns_of_both, expand_bag, expand_bag_as_arrays, expand_to_long, expand_in_place_to_long, series_of_sums, series_columns_of_sums)
