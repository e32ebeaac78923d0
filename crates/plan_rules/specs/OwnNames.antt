-- The names that right columns have in the right table, by the names that they have in a join.
use Rattle.std.specs.Prelude.{ℕ, ◌++◌, List, [], ◌∷◌, Option, None, bytes_eq, cond, unwrap_or}
use Rattle.kql_cells.specs.declared.schema.Column.{Column}
use Rattle.kql_bound.specs.declared.parts.BItem.{BItem}
use Rattle.kql_meaning.specs.FittingExpressions.{column_of}
use Rattle.kql_meaning.specs.Join.{free_name}
use Rattle.kql_meaning.specs.Tables.{is_name_among}

unfoldable pub own_name : List (List ℕ) → List Column → List ℕ → List ℕ
own_name taken [] n = n
own_name taken (c ∷ cs) n = cond (bytes_eq (free_name taken c.name) n) c.name (own_name (taken ++ free_name taken c.name ∷ []) cs n)

-- The column that an item of this name is, where it is a column.
unfoldable pub inner_name : List BItem → List ℕ → Option (List ℕ)
inner_name [] n = None
inner_name (b ∷ bs) n = cond (is_name_among b.names n) (column_of b.expr) (inner_name bs n)

abbrev pub inner_or_same : List BItem → List ℕ → List ℕ
inner_or_same items n = unwrap_or (inner_name items n) n
