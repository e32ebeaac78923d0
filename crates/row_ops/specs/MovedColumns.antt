-- Items that are columns of the table: they need no computing.
use Rattle.std.specs.Prelude.{◌≡◌, ◌≢◌, ℕ, List, [], ◌∷◌, Some}
use Rattle.std.specs.List.{AllPairs}
use Rattle.kql_cells.specs.Named.{column_name, place_of}
use Rattle.kql_cells.specs.declared.schema.Column.{Column}
use Rattle.kql_bound.specs.declared.expr.BExpr.TheVariants as expr
use Rattle.kql_bound.specs.declared.parts.BItem.{BItem}

-- An item is the column at a place.
unfoldable pub IsColumnAt : List Column → BItem → ℕ → Type 0
IsColumnAt columns b j = (n : List ℕ) × (b.expr ≡ expr.Column n) × (place_of column_name n columns ≡ Some j)

-- The items are the columns at these places.
unfoldable pub AreColumnsAt : List Column → List BItem → List ℕ → Type 0
AreColumnsAt columns [] [] = Unit {0}
AreColumnsAt columns (b ∷ bs) (j ∷ js) = IsColumnAt columns b j × AreColumnsAt columns bs js
AreColumnsAt columns _ _ = ⊥

-- The same, and no column is there twice, so that each can be moved.
unfoldable pub AreMoved : List Column → List BItem → List ℕ → Type 0
AreMoved columns items places = AreColumnsAt columns items places × AllPairs (λ i j. i ≢ j) places
