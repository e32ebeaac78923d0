-- What `next` and `row_number` give of a small table, computed.
use Rattle.std.proofs.Common.{◌≡◌, ◌∙◌, ℕ, List, [], ◌∷◌, ◌++◌, refl, ap}
use Rattle.std.specs.Prelude.{codes, negsuc}
use mathlib.Core.Path.{fun_ext}
use Rattle.kql_texts.specs.Texts.{same}
use Rattle.kql_ticks.specs.Ranges.{fit}
use Rattle.kql_cells.specs.declared.schema.Column.{Column}
use Rattle.kql_cells.specs.declared.value.Kind.TheVariants as kind
use Rattle.kql_cells.specs.declared.value.Value.{Value}
use Rattle.kql_cells.specs.declared.value.Value.TheVariants as value
use Rattle.kql_scalar_fns.specs.Applied.{applied}
use Rattle.kql_scalar_fns.specs.Arguments.{argument}
use Rattle.kql_scalar_fns.specs.Arithmetic.{sum}
use Rattle.kql_scalar_fns.specs.Comparison.{comparison, equality}
use Rattle.kql_scalar_fns.specs.Logic.{truth}
use Rattle.kql_functions.specs.declared.func.ComparisonFunc.TheVariants as comparison_word
use Rattle.kql_functions.specs.declared.func.Func.TheVariants as func
use Rattle.kql_bound.specs.declared.expr.BExpr.{BExpr}
use Rattle.kql_bound.specs.declared.expr.BExpr.TheOpen.{BExpr-F}
use Rattle.kql_bound.specs.declared.expr.BExpr.TheVariants as expr
use Rattle.kql_functions.specs.declared.window.Window.{Window}
use Rattle.kql_functions.specs.declared.window.Window.TheVariants as window
use Rattle.kql_bound.specs.declared.parts.BItem.{BItem}
use Rattle.kql_meaning_examples.specs.Examples.{ExtendNext, ExtendRowNumbers, column, g_after, literal, minus_one, n, null, number_from_five, number_from_null, number_from_one, number_in_group, other_group, runs, table, x_after, x_two_after}
use Rattle.kql_meaning.specs.Expressions.{column_kind, first_kind, reading, reading_step, window_kind}
use Rattle.kql_meaning.specs.Extend.{extend_columns, extend_table}
use Rattle.kql_meaning.specs.Items.{cells_in, items_columns, items_names, items_values, named_columns, without}
use Rattle.kql_meaning.specs.Results.{result_kinds, results}
use Rattle.kql_meaning.specs.Readings.{Reading, kinds_of, reading_at, values_at}
use Rattle.kql_meaning.specs.Tables.{absent_in, cell, cell_in, is_name_among, places, places_below}
use Rattle.kql_meaning.specs.Values.{absent, absent_as, holds}
use Rattle.kql_meaning.specs.Windows.{count_in, first_number, last_where, rows_away, run_start, value_after, value_before, where_none, windowed}
use Rattle.kql_meaning_examples.proofs.ExamplesOfValues.{extended_by, kind-reading, kind_by, value-reading, window-kinds, window-results}
use Rattle.kql_meaning.proofs.ReadingLaws.{reading_steps}

-- An item that is a window function: its value and its column, by how it reads.
item-value : (f : Window) (args : List BExpr) (r : Reading) → reading (expr.Window f args) ≡ r → (i : ℕ) → results (expr.Window f args) runs i [] ≡ r.at runs i [] ∷ []
item-value f args r same i = window-results f args runs i ∙ ap (λ v. v ∷ []) (value-reading (expr.Window f args) r same runs i)

item-kind : (f : Window) (args : List BExpr) (r : Reading) → reading (expr.Window f args) ≡ r → result_kinds (expr.Window f args) runs.columns ≡ kind_by r runs.columns ∷ []
item-kind f args r same = window-kinds f args runs.columns ∙ ap (λ k. k ∷ []) (kind-reading (expr.Window f args) r same runs.columns)

-- `extend` of these rows, by the columns and the values of its items.
extended : (items : List BItem) (columns : List Column) (vs : ℕ → List Value) → items_columns items runs.columns ≡ columns → ((i : ℕ) → items_values items runs i ≡ vs i) → extend_table items runs ≡ table (without (items_names items) runs.columns ++ columns) (extended_by items runs vs)
unfolding extend_table extend_columns
extended items columns vs one two = ap (λ (cs : List Column). table (without (items_names items) runs.columns ++ cs) (extended_by items runs (items_values items runs))) one ∙ ap (λ (f : ℕ → List Value). table (without (items_names items) runs.columns ++ columns) (extended_by items runs f)) (fun_ext two)

abbrev column_read : List ℕ → Reading
column_read name = reading_step (BExpr-F.Column name)

abbrev long_read : Value → Reading
long_read v = reading_step (BExpr-F.Literal (record { kind = kind.Long; value = v }))

abbrev window_read : Window → List Reading → Reading
window_read f args = reading_step (BExpr-F.Window f args)

-- `next`.
abbrev x_after_read : Reading
x_after_read = window_read window.Next (column_read (codes "x") ∷ [])

x_after-reading : reading x_after.expr ≡ x_after_read
x_after-reading = simp reading_steps

abbrev x_two_after_read : Reading
x_two_after_read = window_read window.Next (column_read (codes "x") ∷ long_read (n 2) ∷ long_read (value.Long (negsuc 0)) ∷ [])

x_two_after-reading : reading x_two_after.expr ≡ x_two_after_read
x_two_after-reading = simp reading_steps

abbrev g_after_read : Reading
g_after_read = window_read window.Next (column_read (codes "g") ∷ [])

g_after-reading : reading g_after.expr ≡ g_after_read
g_after-reading = simp reading_steps

next_values : (i : ℕ) → items_values (x_after ∷ x_two_after ∷ g_after ∷ []) runs i ≡ x_after_read.at runs i [] ∷ x_two_after_read.at runs i [] ∷ g_after_read.at runs i [] ∷ []
unfolding items_values
next_values i = rw (item-value window.Next (column (codes "x") ∷ []) x_after_read x_after-reading i, item-value window.Next (column (codes "x") ∷ literal 2 ∷ minus_one ∷ []) x_two_after_read x_two_after-reading i, item-value window.Next (column (codes "g") ∷ []) g_after_read g_after-reading i) refl

next_columns : items_columns (x_after ∷ x_two_after ∷ g_after ∷ []) runs.columns ≡ record { name = codes "u"; kind = kind_by x_after_read runs.columns } ∷ record { name = codes "w"; kind = kind_by x_two_after_read runs.columns } ∷ record { name = codes "h"; kind = kind_by g_after_read runs.columns } ∷ []
unfolding items_columns named_columns
next_columns = rw (item-kind window.Next (column (codes "x") ∷ []) x_after_read x_after-reading, item-kind window.Next (column (codes "x") ∷ literal 2 ∷ minus_one ∷ []) x_two_after_read x_two_after-reading, item-kind window.Next (column (codes "g") ∷ []) g_after_read g_after-reading) refl

pub extend_next : ExtendNext
unfolding windowed value_after rows_away where_none count_in reading_at items_names without is_name_among cells_in cell cell_in absent_in absent absent_as places places_below column_kind kind_by window_kind first_kind kinds_of
extend_next = extended (x_after ∷ x_two_after ∷ g_after ∷ []) _ (λ i. x_after_read.at runs i [] ∷ x_two_after_read.at runs i [] ∷ g_after_read.at runs i [] ∷ []) next_columns next_values ∙ refl

-- `row_number`.
abbrev in_group_read : Reading
in_group_read = window_read window.RowNumber (long_read (n 1) ∷ reading_step (BExpr-F.Call (func.Comparison comparison_word.NotEqual) (column_read (codes "g") ∷ window_read window.Prev (column_read (codes "g") ∷ []) ∷ [])) ∷ [])

in_group-reading : reading number_in_group.expr ≡ in_group_read
in_group-reading = simp reading_steps

abbrev from_five_read : Reading
from_five_read = window_read window.RowNumber (long_read (n 5) ∷ [])

from_five-reading : reading number_from_five.expr ≡ from_five_read
from_five-reading = simp reading_steps

abbrev from_one_read : Reading
from_one_read = window_read window.RowNumber []

from_one-reading : reading number_from_one.expr ≡ from_one_read
from_one-reading = simp reading_steps

abbrev from_null_read : Reading
from_null_read = window_read window.RowNumber (long_read null ∷ [])

from_null-reading : reading number_from_null.expr ≡ from_null_read
from_null-reading = simp reading_steps

abbrev numbers : List BItem
numbers = number_in_group ∷ number_from_five ∷ number_from_one ∷ number_from_null ∷ []

abbrev number_values_at : ℕ → List Value
number_values_at i = in_group_read.at runs i [] ∷ from_five_read.at runs i [] ∷ from_one_read.at runs i [] ∷ from_null_read.at runs i [] ∷ []

number_values : (i : ℕ) → items_values numbers runs i ≡ number_values_at i
unfolding items_values
number_values i = rw (item-value window.RowNumber (literal 1 ∷ other_group ∷ []) in_group_read in_group-reading i, item-value window.RowNumber (literal 5 ∷ []) from_five_read from_five-reading i, item-value window.RowNumber [] from_one_read from_one-reading i, item-value window.RowNumber (expr.Literal (record { kind = kind.Long; value = null }) ∷ []) from_null_read from_null-reading i) refl

number_columns : items_columns numbers runs.columns ≡ record { name = codes "r"; kind = kind_by in_group_read runs.columns } ∷ record { name = codes "q"; kind = kind_by from_five_read runs.columns } ∷ record { name = codes "o"; kind = kind_by from_one_read runs.columns } ∷ record { name = codes "z"; kind = kind_by from_null_read runs.columns } ∷ []
unfolding items_columns named_columns
number_columns = rw (item-kind window.RowNumber (literal 1 ∷ other_group ∷ []) in_group_read in_group-reading, item-kind window.RowNumber (literal 5 ∷ []) from_five_read from_five-reading, item-kind window.RowNumber [] from_one_read from_one-reading, item-kind window.RowNumber (expr.Literal (record { kind = kind.Long; value = null }) ∷ []) from_null_read from_null-reading) refl

pub extend_row_numbers : ExtendRowNumbers
unfolding windowed value_before rows_away where_none count_in first_number run_start last_where reading_at sum fit holds truth applied argument comparison equality values_at items_names without is_name_among cells_in cell cell_in absent_in absent absent_as places places_below column_kind kind_by window_kind first_kind kinds_of same
extend_row_numbers = extended numbers _ number_values_at number_columns number_values ∙ refl

pub ruleset window_examples = (extend_next, extend_row_numbers)
