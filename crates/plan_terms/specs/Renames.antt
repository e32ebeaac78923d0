-- Names in the place of others.
use Rattle.std.specs.Prelude.{ℕ, List, [], ◌∷◌, ◌++◌, Option, None, Some, bytes_eq, option_and_then, option_map, if◌then◌else◌}
use Rattle.kql_cells.specs.declared.schema.Column.{Column}
use Rattle.kql_bound.specs.declared.parts.BItem.{BItem}
use Rattle.kql_bound.specs.declared.parts.JoinPlan.{JoinPlan}
use Rattle.kql_meaning.specs.Join.{free_name}
use Rattle.kql_meaning.specs.Tables.{has_column, names_of}
use Rattle.plan_rules.specs.OwnNames.{inner_name}
use Rattle.plan_rules.specs.Rules.{shows_right}

-- The name that stands among others at the place that a name has in a list; the name itself where it is none of these.
unfoldable pub renamed_by : List (List ℕ) → List (List ℕ) → List ℕ → List ℕ
renamed_by (m ∷ ms) (t ∷ ts) n = if bytes_eq m n then t else renamed_by ms ts n
renamed_by _ _ n = n

-- The columns that items of these names are, where each of them is a column.
unfoldable pub inner_names : List BItem → List (List ℕ) → Option (List (List ℕ))
inner_names items [] = Some []
inner_names items (n ∷ ns) = option_and_then (λ m. option_map (λ ms. m ∷ ms) (inner_names items ns)) (inner_name items n)

-- The name that the right column of a name in a join has in the right table, behind columns of these names.
unfoldable pub own_in : List (List ℕ) → List Column → List ℕ → Option (List ℕ)
own_in taken [] n = None
own_in taken (c ∷ cs) n = if bytes_eq (free_name taken c.name) n then Some c.name else own_in (taken ++ free_name taken c.name ∷ []) cs n

-- The same of a join that is no lookup, where the name is that of a right column alone.
unfoldable pub one_right : JoinPlan → List Column → List Column → List ℕ → Option (List ℕ)
one_right j cs rc n = if shows_right j.kind then (if has_column n rc then Some n else None) else (if has_column n cs then None else own_in (names_of cs) rc n)

unfoldable pub right_names : JoinPlan → List Column → List Column → List (List ℕ) → Option (List (List ℕ))
right_names j cs rc [] = Some []
right_names j cs rc (n ∷ ns) = option_and_then (λ m. option_map (λ ms. m ∷ ms) (right_names j cs rc ns)) (one_right j cs rc n)
