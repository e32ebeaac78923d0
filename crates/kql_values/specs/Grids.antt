-- Rows that are stored by columns.
use Rattle.std.specs.Prelude.{ℕ, ◌≡◌, ◌≢◌, List, [], ◌∷◌, ◌++◌, map, length, slice_index_or, All, Option}
use Rattle.std.specs.List.{range_with_len}
use Rattle.kql_cells.specs.Seen.{value_at}
use Rattle.kql_cells.specs.Table.{CellFits}
use Rattle.kql_cells.specs.Keys.{absent}
use Rattle.kql_values.specs.Moves.{value_or}
use Rattle.kql_cells.specs.declared.schema.Column.{Column}
use Rattle.kql_cells.specs.declared.value.Value.{Value}

-- each list has so many items
unfoldable pub HaveLength : {X : Type 0} → ℕ → List (List X) → Type 0
HaveLength n [] = Unit {0}
HaveLength n (xs ∷ rest) = (length xs ≡ n) × HaveLength n rest

-- the row at a place of columns: what each column has there
unfoldable pub row_of : List (List Value) → ℕ → List Value
row_of [] i = []
row_of (column ∷ columns) i = value_at column i ∷ row_of columns i

-- the first rows of columns
unfoldable pub rows_of : ℕ → List (List Value) → List (List Value)
rows_of count columns = map (row_of columns) (range_with_len 0 count)

-- the values at a place of all rows
abbrev pub column_at : List (List Value) → ℕ → List Value
column_at rows j = map (λ row. value_at row j) rows

-- each list with the list at its place of others at its end
unfoldable pub joined : {X : Type 0} → List (List X) → List (List X) → List (List X)
joined [] more = []
joined (xs ∷ lists) [] = xs ∷ lists
joined (xs ∷ lists) (ys ∷ more) = (xs ++ ys) ∷ joined lists more

-- a list for each item
abbrev pub singletons : {X : Type 0} → List X → List (List X)
singletons xs = map (λ x. x ∷ []) xs

-- one list for each column, of so many values, which fit it
unfoldable pub ColumnsFit : List Column → ℕ → List (List Value) → Type 0
ColumnsFit [] n [] = Unit {0}
ColumnsFit (c ∷ cs) n (v ∷ vs) = ((length v ≡ n) × All (CellFits c) v) × ColumnsFit cs n vs
ColumnsFit _ n _ = ⊥

-- each column at places, with its absent cell where there is none
unfoldable pub or_absent : List Column → List (List Value) → List (Option ℕ) → List (List Value)
or_absent [] vs places = []
or_absent (c ∷ cs) [] places = []
or_absent (c ∷ cs) (v ∷ vs) places = map (value_or (absent c.kind) v) places ∷ or_absent cs vs places

-- two lists are as long, and have the same but at these places
unfoldable pub AgreeOff : List ℕ → List (List Value) → List (List Value) → Type 0
AgreeOff places xs ys = (length xs ≡ length ys) × ((j : ℕ) → All (λ i. i ≢ j) places → slice_index_or xs j [] ≡ slice_index_or ys j [])
