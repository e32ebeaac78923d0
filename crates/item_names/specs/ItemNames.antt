-- The names of the columns that items give where the query gives none.
--
-- Items are bound: a constant is a literal and no column, brackets are gone, and the columns that a `*` takes stand in its place.
use Rattle.std.specs.Prelude.{ℕ, ◌+◌, Bool, true, false, is_none, List, [], ◌∷◌, ◌++◌, Option, None, Some, codes, decimal, map, option_and_then, option_map, pos, unwrap_or, if◌then◌else◌}
use Rattle.std.specs.List.{list_any}
use Rattle.kql_cells.specs.declared.value.Value.{Value}
use Rattle.kql_cells.specs.declared.value.Value.TheVariants as value
use Rattle.kql_functions.specs.Names.{aggregate_name}
use Rattle.kql_functions.specs.declared.aggregate.Aggregate.{Aggregate}
use Rattle.kql_functions.specs.declared.aggregate.Aggregate.TheVariants as aggregate
use Rattle.kql_functions.specs.declared.func.ArithmeticFunc.TheVariants as arithmetic
use Rattle.kql_functions.specs.declared.func.Func.{Func}
use Rattle.kql_functions.specs.declared.func.Func.TheVariants as func
use Rattle.kql_bound.specs.declared.expr.BExpr.{BExpr, out-BExpr}
use Rattle.kql_bound.specs.declared.expr.BExpr.TheOpen.{BExpr-F}
use Rattle.kql_bound.specs.declared.literal.Lit.{Lit}
use Rattle.kql_meaning.specs.FittingExpressions.{column_of, literal_of}

-- Names of single columns.

-- Functions that put values into bins.
unfoldable pub is_binning : Func → Bool
is_binning (func.Arithmetic arithmetic.Bin) = true
is_binning (func.Arithmetic arithmetic.Floor) = true
is_binning (func.Arithmetic arithmetic.BinAt) = true
is_binning _ = false

-- The column that the first of these expressions is.
unfoldable pub first_column : List BExpr → Option (List ℕ)
first_column [] = None
first_column (e ∷ es) = column_of e

-- What a step of a path adds to its name: a key, or a place from the start.
unfoldable pub index_of : Value → Option (List ℕ)
index_of (value.Text key) = Some (codes "_" ++ key)
index_of (value.Long (pos n)) = Some (codes "_" ++ decimal n)
index_of _ = None

unfoldable pub index_name : BExpr → Option (List ℕ)
index_name e = option_and_then (λ (l : Lit). index_of l.value) (literal_of e)

-- A name, and behind it what each of these steps adds, if each is a key or a place from the start.
unfoldable pub name_behind : List ℕ → List BExpr → Option (List ℕ)
name_behind name [] = Some name
name_behind name (e ∷ es) = option_and_then (λ index. name_behind (name ++ index) es) (index_name e)

-- The name of a path that begins at a column.
unfoldable pub path_name : BExpr → List BExpr → Option (List ℕ)
path_name whole steps = option_and_then (λ column. name_behind column steps) (column_of whole)

abbrev pub path_step : BExpr-F BExpr → Option (List ℕ)
path_step (BExpr-F.Path whole steps) = path_name whole steps
path_step _ = None

unfoldable pub path_of : BExpr → Option (List ℕ)
path_of e = path_step (out-BExpr e)

-- The name of the path that the first of these expressions is.
unfoldable pub first_path : List BExpr → Option (List ℕ)
first_path [] = None
first_path (e ∷ es) = path_of e

unfoldable pub is_conversion : Func → Bool
is_conversion (func.Conversion f) = true
is_conversion _ = false

-- The name of a call: bins of a column have the column's, and a conversion of a path has the path's.
unfoldable pub call_name : Func → List BExpr → Option (List ℕ)
call_name f args = if is_binning f then first_column args else (if is_conversion f then first_path args else None)

abbrev pub own_name_step : BExpr-F BExpr → Option (List ℕ)
own_name_step (BExpr-F.Column n) = Some n
own_name_step (BExpr-F.Call f args) = call_name f args
own_name_step (BExpr-F.Path whole steps) = path_name whole steps
own_name_step _ = None

-- The name that an expression of one row has by itself: a column its own, and a path that of its column and its steps.
unfoldable pub own_name : BExpr → Option (List ℕ)
own_name e = own_name_step (out-BExpr e)

-- Names of aggregates.

-- The aggregate's name, and behind it the column that it goes over, where it is one.
unfoldable pub name_over : Aggregate → List BExpr → List ℕ
name_over f args = aggregate_name f ++ (codes "_" ++ unwrap_or (first_column args) [])

-- A word, and behind it the column whose values are gathered, where it is one.
unfoldable pub name_of_gathered : List ℕ → List BExpr → Option (List ℕ)
name_of_gathered word args = option_map (λ column. word ++ column) (first_column args)

-- The names that the result columns of an aggregate have by themselves.
unfoldable pub aggregate_names : Aggregate → List BExpr → List (Option (List ℕ))
aggregate_names aggregate.Count args = Some (codes "count_") ∷ []
aggregate_names aggregate.CountIf args = Some (codes "countif_") ∷ []
aggregate_names aggregate.MakeList args = name_of_gathered (codes "list_") args ∷ []
aggregate_names aggregate.MakeListIf args = name_of_gathered (codes "list_") args ∷ []
aggregate_names aggregate.MakeSet args = name_of_gathered (codes "set_") args ∷ []
aggregate_names aggregate.MakeSetIf args = name_of_gathered (codes "set_") args ∷ []
aggregate_names aggregate.ArgMax args = map own_name args
aggregate_names aggregate.ArgMin args = map own_name args
aggregate_names aggregate.TakeAny args = map own_name args
aggregate_names f args = Some (name_over f args) ∷ []

-- Names of items.

abbrev pub own_names_step : BExpr-F BExpr → Option (List ℕ) → List (Option (List ℕ))
own_names_step (BExpr-F.Aggregate f args) own = aggregate_names f args
own_names_step _ own = own ∷ []

-- The names that the result columns of an item have by themselves.
unfoldable pub own_names : BExpr → List (Option (List ℕ))
own_names e = own_names_step (out-BExpr e) (own_name e)

-- The name of a column that has none by itself.
unfoldable pub numbered : ℕ → List ℕ
numbered n = codes "Column" ++ decimal n

unfoldable pub or_numbered : ℕ → Option (List ℕ) → List ℕ
or_numbered n own = unwrap_or own (numbered n)

-- The names of an item's columns, where n is the number that the next item takes which has a column without a name.
unfoldable pub item_names : BExpr → ℕ → List (List ℕ)
item_names e n = map (or_numbered n) (own_names e)

-- Whether an item takes a number.
unfoldable pub takes_number : BExpr → Bool
takes_number e = list_any is_none (own_names e)

-- The number that the next item takes behind one without a given name.
unfoldable pub next_number : BExpr → ℕ → ℕ
next_number e n = if takes_number e then n + 1 else n

-- The names of the columns of an operator's items, in the order of the text, each item with its given name if it has one.
unfoldable pub names_from : ℕ → List (Option (List ℕ) × BExpr) → List (List (List ℕ))
names_from n [] = []
names_from n ((Some given, e) ∷ items) = (given ∷ []) ∷ names_from n items
names_from n ((None, e) ∷ items) = item_names e n ∷ names_from (next_number e n) items

abbrev pub names_in_order : List (Option (List ℕ) × BExpr) → List (List (List ℕ))
names_in_order items = names_from 1 items

-- The name of the i-th item of `print`, from 0, whatever it is.
unfoldable pub print_name : ℕ → List ℕ
print_name i = codes "print_" ++ decimal i
