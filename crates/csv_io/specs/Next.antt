-- The column of the next cell.
use Rattle.std.specs.Prelude.{◌≡◌, IsSomeAnd, length, slice_get}
use Rattle.kql_cells.specs.declared.value.Kind.{Kind}
use Rattle.kql_values.specs.Growing.{Growing}

-- the next cell of a row is one of a column of this type
abbrev pub IsNext : Growing → Kind → Type 0
IsNext g k = IsSomeAnd (slice_get g.grid.columns (length g.row)) (λ c. c.kind ≡ k)
