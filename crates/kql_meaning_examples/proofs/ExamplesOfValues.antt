-- What where, extend and summarize give of small tables, computed: first each expression is opened, and then the rest computes.
use Rattle.std.proofs.Common.{◌≡◌, ◌∙◌, ℕ, List, [], ◌∷◌, ◌++◌, map, filter, refl, ap, rules}
use Rattle.std.specs.Prelude.{codes, negsuc, slice_index_or, unwrap_or}
use mathlib.Core.Path.{fun_ext}
use Rattle.kql_texts.specs.Texts.{same}
use Rattle.kql_ticks.specs.Ranges.{fit}
use Rattle.kql_cells.specs.Table.{Grid, gathered}
use Rattle.kql_cells.specs.declared.schema.Column.{Column}
use Rattle.kql_cells.specs.declared.value.Kind.{Kind}
use Rattle.kql_cells.specs.declared.value.Value.{Value}
use Rattle.kql_scalar_fns.specs.Applied.{applied}
use Rattle.kql_scalar_fns.specs.Arguments.{argument}
use Rattle.kql_scalar_fns.specs.Choice.{greater, greatest, is_null}
use Rattle.kql_scalar_fns.specs.Comparison.{comparison, equality, order}
use Rattle.kql_scalar_fns.specs.Logic.{truth}
use Rattle.kql_cells.specs.declared.value.Kind.TheVariants as kind
use Rattle.kql_functions.specs.declared.func.ComparisonFunc.TheVariants as comparison_word
use Rattle.kql_functions.specs.declared.func.Func.TheVariants as func
use Rattle.kql_bound.specs.declared.expr.BExpr.{BExpr, the_lemmas}
use Rattle.kql_bound.specs.declared.expr.BExpr.TheOpen.{BExpr-F}
use Rattle.kql_bound.specs.declared.expr.BExpr.TheVariants as expr
use Rattle.kql_functions.specs.declared.aggregate.Aggregate.TheVariants as aggregate
use Rattle.kql_functions.specs.declared.window.Window.{Window}
use Rattle.kql_functions.specs.declared.window.Window.TheVariants as window
use Rattle.kql_bound.specs.declared.parts.BItem.{BItem}
use Rattle.kql_cells.specs.declared.value.Value.TheVariants as value
use Rattle.kql_meaning.specs.Aggregates.{aggregated, all_values}
use Rattle.kql_meaning.specs.Groups.{distinct_keys, group_of, key_by}
use Rattle.kql_meaning.specs.Summarize.{group_row, group_rows}
use Rattle.kql_meaning_examples.specs.Examples.{ExtendWindows, SummarizeGreatest, SummarizeByGroup, SummarizeExactly, SummarizeNothing, aggregate_of, greatest_first, keyed, t, longs, named, table, WhereNotOne, WhereNull, WindowColumns, before, column, compared, literal, n, null, other_group, running, runs, some_longs}
use Rattle.kql_meaning.specs.Expressions.{column_kind, first_kind, kind_of, reading, reading_step, val, values_in, window_kind}
use Rattle.kql_meaning.specs.Extend.{extend_columns, extend_table}
use Rattle.kql_meaning.specs.Items.{cells_in, items_columns, items_names, items_values, named_columns, without}
use Rattle.kql_meaning.specs.Results.{compared_values, greatest_row, result_kinds, results, row_of, typed}
use Rattle.kql_meaning.specs.Readings.{Reading, kinds_of, no_reading, reading_at, values_at, values_over}
use Rattle.kql_meaning.specs.Tables.{absent_in, cell, cell_in, distinct_by, is_name_among, places, places_below}
use Rattle.kql_meaning.specs.Numbers.{added, counted, fitted, sum_of}
use Rattle.kql_meaning.specs.Values.{absent, absent_as, holds, number_of, same_key, same_keys}
use Rattle.kql_meaning.specs.Where.{where_table}
use Rattle.kql_meaning.specs.Windows.{count_in, last_where, rows_away, run_start, running_sum, value_before, where_none, windowed}
use Rattle.kql_meaning.proofs.ReadingLaws.{reading_steps}
use Rattle.kql_meaning.proofs.ValueLaws.{val-Column}

-- `where`, by how its predicate reads.
abbrev kept_by : Grid → Reading → Grid
kept_by t r = gathered t (filter (λ i. holds (r.at t i [])) (places t))

where-reading : (p : BExpr) (t : Grid) (r : Reading) → reading p ≡ r → where_table p t ≡ kept_by t r
unfolding where_table val
where-reading p t r same = ap (kept_by t) same

-- How the parts of the examples read.
abbrev x_read : Reading
x_read = reading_step (BExpr-F.Column (codes "x"))

not_one-reading : reading (compared comparison_word.NotEqual (column (codes "x")) (literal 1)) ≡ reading_step (BExpr-F.Call (func.Comparison comparison_word.NotEqual) (x_read ∷ reading_step (BExpr-F.Literal (record { kind = kind.Long; value = n 1 })) ∷ []))
not_one-reading = simp reading_steps

pub where_not_one : WhereNotOne
unfolding holds truth applied argument comparison equality values_at cell cell_in absent_in absent places places_below
where_not_one = where-reading _ some_longs _ not_one-reading ∙ refl

null-reading : reading (compared comparison_word.Equal (column (codes "x")) (expr.Literal (record { kind = kind.Long; value = null }))) ≡ reading_step (BExpr-F.Call (func.Comparison comparison_word.Equal) (x_read ∷ reading_step (BExpr-F.Literal (record { kind = kind.Long; value = null })) ∷ []))
null-reading = simp reading_steps

pub where_null : WhereNull
unfolding holds truth applied argument comparison equality values_at cell cell_in absent_in absent places places_below
where_null = where-reading _ some_longs _ null-reading ∙ refl

-- Expressions of one result column.
column-results : (name : List ℕ) (t : Grid) (i : ℕ) → results (column name) t i [] ≡ val (column name) t i [] ∷ []
unfolding results
column-results name t i = search (rules, the_lemmas)

pub window-results : (f : Window) (args : List BExpr) (t : Grid) (i : ℕ) → results (expr.Window f args) t i [] ≡ val (expr.Window f args) t i [] ∷ []
unfolding results
window-results f args t i = search (rules, the_lemmas)

-- The value of an expression, by how it reads.
pub value-reading : (e : BExpr) (r : Reading) → reading e ≡ r → (t : Grid) (i : ℕ) → val e t i [] ≡ r.at t i []
unfolding val
value-reading e r same t i = ap (λ (q : Reading). q.at t i []) same

-- `extend`, by the values of its items.
abbrev pub extended_by : List BItem → Grid → (ℕ → List Value) → List (List Value)
extended_by items t vs = map (λ i. cells_in (without (items_names items) t.columns) t i ++ vs i) (places t)

pub extend-values : (items : List BItem) (t : Grid) (vs : ℕ → List Value) → ((i : ℕ) → items_values items t i ≡ vs i) → (extend_table items t).lines ≡ extended_by items t vs
unfolding extend_table
extend-values items t vs same = ap (extended_by items t) (fun_ext same)

abbrev g_read : Reading
g_read = reading_step (BExpr-F.Column (codes "g"))

abbrev running_read : Reading
running_read = reading_step (BExpr-F.Window window.RowCumsum (x_read ∷ reading_step (BExpr-F.Call (func.Comparison comparison_word.NotEqual) (g_read ∷ reading_step (BExpr-F.Window window.Prev (g_read ∷ [])) ∷ [])) ∷ []))

running-reading : reading running.expr ≡ running_read
running-reading = simp reading_steps

abbrev before_read : Reading
before_read = reading_step (BExpr-F.Window window.Prev (x_read ∷ reading_step (BExpr-F.Literal (record { kind = kind.Long; value = n 1 })) ∷ reading_step (BExpr-F.Literal (record { kind = kind.Long; value = value.Long (negsuc 0) })) ∷ []))

before-reading : reading before.expr ≡ before_read
before-reading = simp reading_steps

window_values : (i : ℕ) → items_values (running ∷ before ∷ []) runs i ≡ running_read.at runs i [] ∷ before_read.at runs i [] ∷ []
unfolding items_values
window_values i = rw (window-results window.RowCumsum (column (codes "x") ∷ other_group ∷ []) runs i, window-results window.Prev (column (codes "x") ∷ literal 1 ∷ expr.Literal (record { kind = kind.Long; value = value.Long (negsuc 0) }) ∷ []) runs i, value-reading running.expr running_read running-reading runs i, value-reading before.expr before_read before-reading runs i) refl

pub extend_windows : ExtendWindows
unfolding windowed value_before rows_away where_none count_in running_sum run_start last_where values_over reading_at fitted sum_of added number_of fit holds truth applied argument comparison equality values_at items_names without is_name_among cells_in cell cell_in absent_in absent absent_as places places_below column_kind same
extend_windows = extend-values (running ∷ before ∷ []) runs (λ i. running_read.at runs i [] ∷ before_read.at runs i [] ∷ []) window_values ∙ refl

-- The columns of items, by how they read.
unfoldable pub kind_by : Reading → List Column → Kind
kind_by r columns = unwrap_or (r.kind columns) kind.Dynamic

pub kind-reading : (e : BExpr) (r : Reading) → reading e ≡ r → (columns : List Column) → typed e columns ≡ kind_by r columns
unfolding typed kind_of kind_by
kind-reading e r same columns = ap (λ (q : Reading). unwrap_or (q.kind columns) kind.Dynamic) same

pub window-kinds : (f : Window) (args : List BExpr) (columns : List Column) → result_kinds (expr.Window f args) columns ≡ typed (expr.Window f args) columns ∷ []
unfolding result_kinds
window-kinds f args columns = search (rules, the_lemmas)

column-kinds : (name : List ℕ) (columns : List Column) → result_kinds (column name) columns ≡ typed (column name) columns ∷ []
unfolding result_kinds
column-kinds name columns = search (rules, the_lemmas)

column-reading : (name : List ℕ) → reading (column name) ≡ reading_step (BExpr-F.Column name)
column-reading name = simp reading_steps

-- The column of an item that is a column.
pub column-columns : (name from : List ℕ) (columns : List Column) → items_columns (named name (column from) ∷ []) columns ≡ record { name = name; kind = kind_by (reading_step (BExpr-F.Column from)) columns } ∷ []
unfolding items_columns named_columns
column-columns name from columns = rw (column-kinds from columns, kind-reading (column from) _ (column-reading from) columns) refl

window_items_columns : items_columns (running ∷ before ∷ []) runs.columns ≡ record { name = codes "s"; kind = kind_by running_read runs.columns } ∷ record { name = codes "p"; kind = kind_by before_read runs.columns } ∷ []
unfolding items_columns named_columns
window_items_columns = rw (window-kinds window.RowCumsum (column (codes "x") ∷ other_group ∷ []) runs.columns, window-kinds window.Prev (column (codes "x") ∷ literal 1 ∷ expr.Literal (record { kind = kind.Long; value = value.Long (negsuc 0) }) ∷ []) runs.columns, kind-reading running.expr running_read running-reading runs.columns, kind-reading before.expr before_read before-reading runs.columns) refl

-- The columns of `extend`, by those of its items.
pub extend-columns : (items : List BItem) (t : Grid) (columns : List Column) → items_columns items t.columns ≡ columns → (extend_table items t).columns ≡ without (items_names items) t.columns ++ columns
unfolding extend_table extend_columns
extend-columns items t columns same = ap (λ (cs : List Column). without (items_names items) t.columns ++ cs) same

pub window_columns : WindowColumns
unfolding kind_by window_kind first_kind kinds_of column_kind items_names without is_name_among
window_columns = extend-columns (running ∷ before ∷ []) runs _ window_items_columns ∙ refl

aggregate-count-results : (t : Grid) (i : ℕ) → results (expr.Aggregate aggregate.Count []) t i [] ≡ val (expr.Aggregate aggregate.Count []) t i [] ∷ []
unfolding results
aggregate-count-results t i = search (rules, the_lemmas)

aggregate-sum-results : (name : List ℕ) (t : Grid) (i : ℕ) → results (aggregate_of aggregate.Sum name) t i [] ≡ val (aggregate_of aggregate.Sum name) t i [] ∷ []
unfolding results
aggregate-sum-results name t i = search (rules, the_lemmas)

-- The rows of groups, by the values of keys and of items.
abbrev groups_by : (ℕ → List Value) → (Grid → List Value) → Grid → List (List Value)
groups_by keys items t = map (λ k. k ++ items (group_of keys t k)) (distinct_keys keys t)

groups-values : (key : BItem) (keys items : List BItem) (t : Grid) (ks : ℕ → List Value) (vs : Grid → List Value) → ((i : ℕ) → key_by (key ∷ keys) t i ≡ ks i) → ((g : Grid) → items_values items g 0 ≡ vs g) → group_rows (key ∷ keys) items t ≡ groups_by ks vs t
unfolding group_rows group_row
groups-values key keys items t ks vs one two = ap (λ (f : ℕ → List Value). groups_by f (λ g. items_values items g 0) t) (fun_ext one) ∙ ap (λ (f : Grid → List Value). groups_by ks f t) (fun_ext two)

unfoldable pub sum_read : Reading
sum_read = reading_step (BExpr-F.Aggregate aggregate.Sum (x_read ∷ []))

pub sum-reading : reading (aggregate_of aggregate.Sum (codes "x")) ≡ sum_read
unfolding sum_read
sum-reading = simp reading_steps

count_read : Reading
count_read = reading_step (BExpr-F.Aggregate aggregate.Count [])

count-reading : reading (expr.Aggregate aggregate.Count []) ≡ count_read
unfolding count_read
count-reading = simp reading_steps

g-reading : reading (column (codes "g")) ≡ g_read
g-reading = simp reading_steps

g_keys : (i : ℕ) → key_by (named (codes "g") (column (codes "g")) ∷ []) runs i ≡ g_read.at runs i [] ∷ []
unfolding key_by
g_keys i = ap (λ v. v ∷ []) (value-reading (column (codes "g")) g_read g-reading runs i)

both_values : (g : Grid) → items_values (named (codes "count_") (expr.Aggregate aggregate.Count []) ∷ named (codes "sum_x") (aggregate_of aggregate.Sum (codes "x")) ∷ []) g 0 ≡ count_read.at g 0 [] ∷ sum_read.at g 0 [] ∷ []
unfolding items_values
both_values g = rw (aggregate-count-results g 0, aggregate-sum-results (codes "x") g 0, value-reading (expr.Aggregate aggregate.Count []) count_read count-reading g 0, value-reading (aggregate_of aggregate.Sum (codes "x")) sum_read sum-reading g 0) refl

pub summarize_by_group : SummarizeByGroup
unfolding count_read sum_read aggregated all_values values_over counted reading_at fitted sum_of added number_of fit distinct_keys distinct_by group_of same_keys same_key column_kind cell cell_in absent_in absent places places_below
summarize_by_group = groups-values _ [] _ runs (λ i. g_read.at runs i [] ∷ []) (λ g. count_read.at g 0 [] ∷ sum_read.at g 0 [] ∷ []) g_keys both_values ∙ refl

sum_values : (g : Grid) → items_values (named (codes "sum_x") (aggregate_of aggregate.Sum (codes "x")) ∷ []) g 0 ≡ sum_read.at g 0 [] ∷ []
unfolding items_values
sum_values g = rw (aggregate-sum-results (codes "x") g 0, value-reading (aggregate_of aggregate.Sum (codes "x")) sum_read sum-reading g 0) refl

whole-values : (items : List BItem) (t : Grid) (vs : List Value) → items_values items t 0 ≡ vs → group_rows [] items t ≡ vs ∷ []
unfolding group_rows
whole-values items t vs same = ap (λ (row : List Value). row ∷ []) same

pub summarize_exactly : SummarizeExactly
unfolding sum_read aggregated all_values values_over reading_at fitted sum_of added number_of fit column_kind cell cell_in absent_in absent places places_below
summarize_exactly = whole-values _ greatest_first _ (sum_values greatest_first) ∙ refl

pub summarize_nothing : SummarizeNothing
unfolding sum_read aggregated all_values values_over reading_at fitted sum_of added number_of fit column_kind cell cell_in absent_in absent places places_below
summarize_nothing = whole-values _ (table (longs (codes "x") ∷ []) []) _ (sum_values (table (longs (codes "x") ∷ []) [])) ∙ refl

-- `arg_max`: the greatest value, and the further arguments at its row.
greatest_call : BExpr
greatest_call = expr.Aggregate aggregate.ArgMax (column (codes "k") ∷ column (codes "v") ∷ [])

k_read : Reading
k_read = reading_step (BExpr-F.Column (codes "k"))

v_read : Reading
v_read = reading_step (BExpr-F.Column (codes "v"))

greatest-reading : reading greatest_call ≡ reading_step (BExpr-F.Aggregate aggregate.ArgMax (k_read ∷ v_read ∷ []))
unfolding greatest_call k_read v_read
greatest-reading = simp reading_steps

k-readings : map reading (column (codes "k") ∷ column (codes "v") ∷ []) ≡ k_read ∷ v_read ∷ []
unfolding k_read v_read
k-readings = simp reading_steps

greatest-results : (g : Grid) (i : ℕ) → results greatest_call g i [] ≡ val greatest_call g i [] ∷ values_in (column (codes "v") ∷ []) g (greatest_row (compared_values (column (codes "k") ∷ column (codes "v") ∷ []) g [])) []
unfolding results greatest_call
greatest-results g i = search (rules, the_lemmas)

compared-k : compared_values (column (codes "k") ∷ column (codes "v") ∷ []) keyed [] ≡ all_values k_read keyed []
unfolding compared_values reading_at
compared-k = ap (λ (rs : List Reading). all_values (slice_index_or rs 0 no_reading) keyed []) k-readings

greatest_values : items_values (record { names = codes "k" ∷ codes "v" ∷ []; expr = greatest_call } ∷ []) keyed 0 ≡ n 2 ∷ t (codes "a") ∷ []
unfolding items_values values_in k_read v_read aggregated all_values values_over greatest_row row_of reading_at cell cell_in absent_in absent places places_below same_key greatest greater is_null order
greatest_values = rw (greatest-results keyed 0, compared-k, value-reading greatest_call _ greatest-reading keyed 0, val-Column (codes "v") keyed) refl

pub summarize_greatest : SummarizeGreatest
unfolding greatest_call
summarize_greatest = whole-values _ keyed _ greatest_values

pub ruleset value_examples = (where_not_one, where_null, extend_windows, window_columns, summarize_by_group, summarize_exactly, summarize_nothing, summarize_greatest)
