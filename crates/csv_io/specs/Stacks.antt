-- Tables of the same columns, one behind another, and columns in parts.
use Rattle.std.specs.Prelude.{◌≡◌, ℕ, ◌<◌, ◌^◌, ◌++◌, List, All, flat_map, length}
use Rattle.kql_cells.specs.Table.{Grid}
use Rattle.kql_cells.specs.declared.value.Value.{Value}

abbrev pub lines_of : List Grid → List (List Value)
lines_of ts = flat_map (λ (t : Grid). t.lines) ts

-- the lines of a table, and those of others behind them
abbrev pub stacked : Grid → List Grid → Grid
stacked first more = record { columns = first.columns; lines = first.lines ++ lines_of more }

-- the others have its columns, and together so many lines stand in them
abbrev pub IsStack : Grid → List Grid → ℕ → Type 0
IsStack first more count = All (λ (t : Grid). t.columns ≡ first.columns) more × (count ≡ length (stacked first more).lines) × (count < 2 ^ 63)

-- the cells of a column in parts
abbrev pub cells_in : List Value → List (List Value) → List Value
cells_in first more = first ++ flat_map (λ (part : List Value). part) more
