-- The equations of the names of items, one for each variant of an expression, and how many names there are.
use Rattle.std.proofs.Common.{◌≡◌, ℕ, List, [], ◌∷◌, map, length, refl, rules}
use Rattle.std.specs.Prelude.{◌++◌, ◌&&◌, Option, None, Some, is_none, is_some, option_and_then}
use Rattle.std.specs.List.{list_all, list_any}
use Rattle.kql_cells.specs.declared.schema.Column.{Column}
use Rattle.kql_functions.specs.declared.func.Func.{Func}
use Rattle.kql_functions.specs.declared.aggregate.Aggregate.{Aggregate}
use Rattle.kql_functions.specs.declared.aggregate.Aggregate.TheVariants as aggregate
use Rattle.kql_functions.specs.declared.window.Window.{Window}
use Rattle.kql_bound.specs.declared.expr.BExpr.{BExpr, out-BExpr, the_lemmas}
use Rattle.kql_bound.specs.declared.expr.BExpr.TheOpen.{BExpr-F}
use Rattle.kql_bound.specs.declared.expr.BExpr.TheVariants as V
use Rattle.kql_bound.specs.declared.expr.ChainSign.{ChainSign}
use Rattle.kql_bound.specs.declared.expr.StepColumn.{StepColumn}
use Rattle.kql_bound.specs.declared.literal.Lit.{Lit}
use Rattle.kql_meaning.specs.Results.{aggregate_result_kinds, result_kinds, result_kinds_step, typed}
use Rattle.std.proofs.lemmas.List.{length-map}
use Rattle.kql_cells.specs.declared.value.Kind.{Kind}
use Rattle.item_names.specs.ItemNames.{aggregate_names, call_name, index_name, item_names, name_behind, or_numbered, own_name, own_names, own_names_step, path_name, path_of, takes_number}
use Rattle.kql_meaning.specs.FittingExpressions.{column_of}

-- The name that an expression of one row has by itself.

pub own-Literal : (l : Lit) → own_name (V.Literal l) ≡ None
unfolding own_name
own-Literal l = search (rules, the_lemmas)

pub own-Column : (n : List ℕ) → own_name (V.Column n) ≡ Some n
unfolding own_name
own-Column n = search (rules, the_lemmas)

pub own-Step : (c : StepColumn) → own_name (V.Step c) ≡ None
unfolding own_name
own-Step c = search (rules, the_lemmas)

pub own-Call : (f : Func) (args : List BExpr) → own_name (V.Call f args) ≡ call_name f args
unfolding own_name
own-Call f args = search (rules, the_lemmas)

pub own-Chain : (first : BExpr) (links : List (ChainSign × BExpr)) → own_name (V.Chain first links) ≡ None
unfolding own_name
own-Chain first links = search (rules, the_lemmas)

pub own-Path : (whole : BExpr) (steps : List BExpr) → own_name (V.Path whole steps) ≡ path_name whole steps
unfolding own_name
own-Path whole steps = search (rules, the_lemmas)

pub own-Window : (f : Window) (args : List BExpr) → own_name (V.Window f args) ≡ None
unfolding own_name
own-Window f args = search (rules, the_lemmas)

pub own-Aggregate : (f : Aggregate) (args : List BExpr) → own_name (V.Aggregate f args) ≡ None
unfolding own_name
own-Aggregate f args = search (rules, the_lemmas)

pub ruleset own_steps = (own-Literal, own-Column, own-Step, own-Call, own-Chain, own-Path, own-Window, own-Aggregate)

-- The name of the path that it is.

pub path-Literal : (l : Lit) → path_of (V.Literal l) ≡ None
unfolding path_of
path-Literal l = search (rules, the_lemmas)

pub path-Column : (n : List ℕ) → path_of (V.Column n) ≡ None
unfolding path_of
path-Column n = search (rules, the_lemmas)

pub path-Step : (c : StepColumn) → path_of (V.Step c) ≡ None
unfolding path_of
path-Step c = search (rules, the_lemmas)

pub path-Call : (f : Func) (args : List BExpr) → path_of (V.Call f args) ≡ None
unfolding path_of
path-Call f args = search (rules, the_lemmas)

pub path-Chain : (first : BExpr) (links : List (ChainSign × BExpr)) → path_of (V.Chain first links) ≡ None
unfolding path_of
path-Chain first links = search (rules, the_lemmas)

pub path-Path : (whole : BExpr) (steps : List BExpr) → path_of (V.Path whole steps) ≡ path_name whole steps
unfolding path_of
path-Path whole steps = search (rules, the_lemmas)

pub path-Window : (f : Window) (args : List BExpr) → path_of (V.Window f args) ≡ None
unfolding path_of
path-Window f args = search (rules, the_lemmas)

pub path-Aggregate : (f : Aggregate) (args : List BExpr) → path_of (V.Aggregate f args) ≡ None
unfolding path_of
path-Aggregate f args = search (rules, the_lemmas)

pub ruleset path_steps = (path-Literal, path-Column, path-Step, path-Call, path-Chain, path-Path, path-Window, path-Aggregate)

-- Whether a path has a name.

named-step : (name : List ℕ) (es : List BExpr) (o : Option (List ℕ)) → ((n : List ℕ) → is_some (name_behind n es) ≡ list_all (λ e. is_some (index_name e)) es) → is_some (option_and_then (λ index. name_behind (name ++ index) es) o) ≡ (is_some o && list_all (λ e. is_some (index_name e)) es)
named-step name es None h = refl
named-step name es (Some index) h = h (name ++ index)

pub named-behind : (name : List ℕ) (es : List BExpr) → is_some (name_behind name es) ≡ list_all (λ e. is_some (index_name e)) es
unfolding name_behind
named-behind name [] = refl
named-behind name (e ∷ es) = named-step name es (index_name e) (λ n. named-behind n es)

path-named : (o : Option (List ℕ)) (steps : List BExpr) → is_some (option_and_then (λ column. name_behind column steps) o) ≡ (is_some o && list_all (λ e. is_some (index_name e)) steps)
path-named None steps = refl
path-named (Some column) steps = named-behind column steps

pub path_is_named : (whole : BExpr) (steps : List BExpr) → is_some (path_name whole steps) ≡ (is_some (column_of whole) && list_all (λ e. is_some (index_name e)) steps)
unfolding path_name
path_is_named whole steps = path-named (column_of whole) steps

-- The names of an item.

pub item-Literal : (l : Lit) (k : ℕ) → item_names (V.Literal l) k ≡ or_numbered k (own_name (V.Literal l)) ∷ []
unfolding item_names own_names
item-Literal l k = search (rules, the_lemmas)

pub item-Column : (n : List ℕ) (k : ℕ) → item_names (V.Column n) k ≡ or_numbered k (own_name (V.Column n)) ∷ []
unfolding item_names own_names
item-Column n k = search (rules, the_lemmas)

pub item-Step : (c : StepColumn) (k : ℕ) → item_names (V.Step c) k ≡ or_numbered k (own_name (V.Step c)) ∷ []
unfolding item_names own_names
item-Step c k = search (rules, the_lemmas)

pub item-Call : (f : Func) (args : List BExpr) (k : ℕ) → item_names (V.Call f args) k ≡ or_numbered k (own_name (V.Call f args)) ∷ []
unfolding item_names own_names
item-Call f args k = search (rules, the_lemmas)

pub item-Chain : (first : BExpr) (links : List (ChainSign × BExpr)) (k : ℕ) → item_names (V.Chain first links) k ≡ or_numbered k (own_name (V.Chain first links)) ∷ []
unfolding item_names own_names
item-Chain first links k = search (rules, the_lemmas)

pub item-Path : (whole : BExpr) (steps : List BExpr) (k : ℕ) → item_names (V.Path whole steps) k ≡ or_numbered k (own_name (V.Path whole steps)) ∷ []
unfolding item_names own_names
item-Path whole steps k = search (rules, the_lemmas)

pub item-Window : (f : Window) (args : List BExpr) (k : ℕ) → item_names (V.Window f args) k ≡ or_numbered k (own_name (V.Window f args)) ∷ []
unfolding item_names own_names
item-Window f args k = search (rules, the_lemmas)

pub item-Aggregate : (f : Aggregate) (args : List BExpr) (k : ℕ) → item_names (V.Aggregate f args) k ≡ map (or_numbered k) (aggregate_names f args)
unfolding item_names own_names
item-Aggregate f args k = search (rules, the_lemmas)

pub ruleset item_steps = (item-Literal, item-Column, item-Step, item-Call, item-Chain, item-Path, item-Window, item-Aggregate)

-- Whether it takes a number.

pub number-Literal : (l : Lit) → takes_number (V.Literal l) ≡ is_none (own_name (V.Literal l))
unfolding takes_number own_names
number-Literal l = search (rules, the_lemmas)

pub number-Column : (n : List ℕ) → takes_number (V.Column n) ≡ is_none (own_name (V.Column n))
unfolding takes_number own_names
number-Column n = search (rules, the_lemmas)

pub number-Step : (c : StepColumn) → takes_number (V.Step c) ≡ is_none (own_name (V.Step c))
unfolding takes_number own_names
number-Step c = search (rules, the_lemmas)

pub number-Call : (f : Func) (args : List BExpr) → takes_number (V.Call f args) ≡ is_none (own_name (V.Call f args))
unfolding takes_number own_names
number-Call f args = search (rules, the_lemmas)

pub number-Chain : (first : BExpr) (links : List (ChainSign × BExpr)) → takes_number (V.Chain first links) ≡ is_none (own_name (V.Chain first links))
unfolding takes_number own_names
number-Chain first links = search (rules, the_lemmas)

pub number-Path : (whole : BExpr) (steps : List BExpr) → takes_number (V.Path whole steps) ≡ is_none (own_name (V.Path whole steps))
unfolding takes_number own_names
number-Path whole steps = search (rules, the_lemmas)

pub number-Window : (f : Window) (args : List BExpr) → takes_number (V.Window f args) ≡ is_none (own_name (V.Window f args))
unfolding takes_number own_names
number-Window f args = search (rules, the_lemmas)

pub number-Aggregate : (f : Aggregate) (args : List BExpr) → takes_number (V.Aggregate f args) ≡ list_any is_none (aggregate_names f args)
unfolding takes_number own_names
number-Aggregate f args = search (rules, the_lemmas)

pub ruleset number_steps = (number-Literal, number-Column, number-Step, number-Call, number-Chain, number-Path, number-Window, number-Aggregate)

-- As many names as result columns.

count-aggregate : (f : Aggregate) (args : List BExpr) (one : Kind) (n : ℕ) (columns : List Column) → length (map (or_numbered n) (aggregate_names f args)) ≡ length (aggregate_result_kinds f args one columns)
unfolding aggregate_names aggregate_result_kinds
count-aggregate aggregate.ArgMax args one n columns = simp length-map
count-aggregate aggregate.ArgMin args one n columns = simp length-map
count-aggregate aggregate.TakeAny args one n columns = simp length-map
count-aggregate _ args one n columns = refl

count-layer : (y : BExpr-F BExpr) (own : Option (List ℕ)) (one : Kind) (n : ℕ) (columns : List Column) → length (map (or_numbered n) (own_names_step y own)) ≡ length (result_kinds_step y one columns)
count-layer (BExpr-F.Aggregate f args) own one n columns = count-aggregate f args one n columns
count-layer _ own one n columns = refl

pub each_column_has_its_name : (e : BExpr) (n : ℕ) (columns : List Column) → length (item_names e n) ≡ length (result_kinds e columns)
unfolding item_names own_names result_kinds
each_column_has_its_name e n columns = count-layer (out-BExpr e) (own_name e) (typed e columns) n columns
