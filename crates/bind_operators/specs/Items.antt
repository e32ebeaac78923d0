-- Items: expressions with the names of the columns that they give.
use Rattle.std.specs.Prelude.{ℕ, Bool, not, ◌||◌, List, [], ◌∷◌, ◌++◌, Option, None, Some, Ok, fold, map, option_map}
use Rattle.std.specs.List.{list_any}
use Rattle.kql_cells.specs.declared.schema.Column.{Column}
use Rattle.kql_lexer.specs.declared.place.Place.{Place}
use Rattle.kql_bound.specs.declared.expr.BExpr.{BExpr}
use Rattle.kql_bound.specs.declared.expr.BExpr.TheVariants as V
use Rattle.kql_bound.specs.declared.parts.BItem.{BItem}
use Rattle.kql_meaning.specs.FittingOperators.{are_distinct}
use Rattle.kql_meaning.specs.Tables.{is_name_among}
use Rattle.kql_syntax.specs.declared.query.Item.{Item}
use Rattle.kql_syntax.specs.declared.tree.Name.{Name}
use Rattle.item_names.specs.ItemNames.{item_names, next_number}
use Rattle.bind_expr.specs.Bound.{bound_expr}
use Rattle.bind_expr.specs.Names.{text_of}
use Rattle.bind_expr.specs.Outcome.{Outcome, ◌>>=◌}
use Rattle.bind_expr.specs.declared.fault.BindFault.{BindFault}
use Rattle.bind_expr.specs.declared.scope.Scope.{Scope}
use Rattle.bind_expr.specs.declared.typed.Typed.{Typed}
use Rattle.bind_operators.specs.declared.items.NamedItems.{NamedItems}
use Rattle.bind_operators.specs.Faults.{fault_if}
use Rattle.bind_operators.specs.Places.{item_start, name_place}

-- Names.

unfoldable pub given_name : Item → Option (List ℕ)
given_name item = option_map text_of item.name

-- The names of an item's columns: the one that it is given, or those that it has by itself, where n numbers one that has none.
unfoldable pub names_or_own : ℕ → Option (List ℕ) → BExpr → List (List ℕ)
names_or_own n None e = item_names e n
names_or_own n (Some given) e = given ∷ []

-- The number behind an item, which may have taken n.
unfoldable pub number_behind : ℕ → Option (List ℕ) → BExpr → ℕ
number_behind n None e = next_number e n
number_behind n (Some given) e = n

-- A column as an item, under its own name or another.
unfoldable pub column_as : List ℕ → List ℕ → BItem
column_as name column = record { names = name ∷ []; expr = V.Column column }

abbrev pub column_item : Column → BItem
column_item c = column_as c.name c.name

-- The name of an item with one result column.
abbrev pub one_name : List (List ℕ) → List ℕ
one_name [] = []
one_name (n ∷ ns) = n

-- Items one after another.

-- No items, where n is the first number.
unfoldable pub no_items : ℕ → NamedItems
no_items n = record { items = []; places = []; next = n }

-- One item more under its names.
abbrev pub with_names : NamedItems → Place → List (List ℕ) → BExpr → ℕ → NamedItems
with_names done place names e next = record {
  items = done.items ++ record { names = names; expr = e } ∷ [];
  places = done.places ++ place ∷ [];
  next = next;
}

unfoldable pub with_item : NamedItems → Item → Typed → NamedItems
with_item done item t =
    with_names done (item_start item) (names_or_own done.next (given_name item) t.expr) t.expr (number_behind done.next (given_name item) t.expr)

abbrev pub item_link : Outcome NamedItems → Item → Outcome Typed → Outcome NamedItems
item_link before item next = do
  done ← before
  t ← next
  Ok (with_item done item t)

-- Items from left to right, each bound by itself, behind a number.
unfoldable pub items_from : (Item → Outcome Typed) → ℕ → List Item → Outcome NamedItems
items_from bind n items = fold (λ before item. item_link before item (bind item)) (Ok (no_items n)) items

unfoldable pub item_in : Scope → Item → Outcome Typed
item_in scope item = bound_expr item.value scope

unfoldable pub items_bound : Scope → List Item → Outcome NamedItems
items_bound scope items = items_from (item_in scope) 1 items

-- Columns of one name.

-- Whether one of these names stands before them, or twice among them.
unfoldable pub clash : List (List ℕ) → List (List ℕ) → Bool
clash before names = list_any (is_name_among before) names || not (are_distinct names)

-- 411 at each part that gives a column of a name that stands already: the places of the parts, and the names of their columns.
unfoldable pub twice : List (List ℕ) → List Place → List (List (List ℕ)) → List BindFault
twice before (place ∷ places) (names ∷ more) = fault_if (clash before names) 411 place ++ twice (before ++ names) places more
twice before _ _ = []

abbrev pub names_in : BItem → List (List ℕ)
names_in b = b.names

abbrev pub names_of_items : List BItem → List (List (List ℕ))
names_of_items items = map names_in items

-- The same of items alone.
unfoldable pub twice_items : NamedItems → List BindFault
twice_items done = twice [] done.places (names_of_items done.items)

-- The same of names alone, behind those that stand before them.
unfoldable pub names_twice : List (List ℕ) → List Name → List BindFault
names_twice before names = twice before (map name_place names) (map (λ n. text_of n ∷ []) names)
