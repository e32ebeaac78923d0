-- Items: expressions with the names of the columns that they give.
use Rattle.std.specs.Prelude.{ℕ, not, List, [], ◌∷◌, filter, map}
use Rattle.std.specs.List.{flat_map}
use Rattle.kql_cells.specs.Table.{Grid}
use Rattle.kql_cells.specs.declared.schema.Column.{Column}
use Rattle.kql_cells.specs.declared.value.Kind.{Kind}
use Rattle.kql_cells.specs.declared.value.Value.{Value}
use Rattle.kql_bound.specs.declared.parts.BItem.{BItem}
use Rattle.kql_meaning.specs.Results.{result_kinds, results}
use Rattle.kql_meaning.specs.Tables.{cell, is_name_among}

-- Columns of these names and types.
unfoldable pub named_columns : List (List ℕ) → List Kind → List Column
named_columns (n ∷ ns) (k ∷ ks) = record { name = n; kind = k } ∷ named_columns ns ks
named_columns _ _ = []

-- The columns that items give, in order.
unfoldable pub items_columns : List BItem → List Column → List Column
items_columns items columns = flat_map (λ b. named_columns b.names (result_kinds b.expr columns)) items

-- The values that items have at a row, in order.
unfoldable pub items_values : List BItem → Grid → ℕ → List Value
items_values items t i = flat_map (λ b. results b.expr t i []) items

-- The names that items give.
unfoldable pub items_names : List BItem → List (List ℕ)
items_names items = flat_map (λ b. b.names) items

-- The columns that have none of these names.
unfoldable pub without : List (List ℕ) → List Column → List Column
without names columns = filter (λ c. not (is_name_among names c.name)) columns

-- The cells of a row in these columns.
unfoldable pub cells_in : List Column → Grid → ℕ → List Value
cells_in columns t i = map (λ c. cell t i c.name) columns
