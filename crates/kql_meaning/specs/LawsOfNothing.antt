-- What the aggregates give where there is nothing to count, add, compare or list.
use Rattle.std.specs.Prelude.{◌≡◌, ◌≤◌, ℕ, List, [], Option, Some, length, pos, slice_get}
use Rattle.kql_cells.specs.Named.{column_name, place_of}
use Rattle.kql_cells.specs.Table.{Grid}
use Rattle.kql_cells.specs.declared.dynamic.Dyn.TheVariants as dyn
use Rattle.kql_cells.specs.declared.schema.Column.{Column}
use Rattle.kql_cells.specs.declared.value.Kind.{Kind}
use Rattle.kql_cells.specs.declared.value.Kind.TheVariants as kind
use Rattle.kql_cells.specs.declared.value.Value.{Value}
use Rattle.kql_cells.specs.declared.value.Value.TheVariants as value
use Rattle.kql_functions.specs.declared.aggregate.Aggregate.{Aggregate}
use Rattle.kql_functions.specs.declared.aggregate.Aggregate.TheVariants as aggregate
use Rattle.kql_meaning.specs.Aggregates.{aggregated}
use Rattle.kql_meaning.specs.Laws.{no_rows}
use Rattle.kql_meaning.specs.Readings.{Reading, Records, reading_at}
use Rattle.kql_meaning.specs.Tables.{cell}
use Rattle.kql_meaning.specs.Values.{absent}

-- The sum of nothing, of values of a type.
unfoldable pub zero_of : Option Kind → Value
zero_of (Some kind.Span) = value.Span (pos 0)
zero_of _ = value.Long (pos 0)

-- Counts and sums are 0, lists and sets are `[]`, and all else is null; `take_any` gives what its column has at a row that is not there.
unfoldable pub of_nothing : Aggregate → Option Kind → Value → Value
of_nothing aggregate.Count k missing = value.Long (pos 0)
of_nothing aggregate.CountIf k missing = value.Long (pos 0)
of_nothing aggregate.CountDistinct k missing = value.Long (pos 0)
of_nothing aggregate.CountDistinctIf k missing = value.Long (pos 0)
of_nothing aggregate.Sum k missing = zero_of k
of_nothing aggregate.SumIf k missing = zero_of k
of_nothing aggregate.MakeList k missing = value.Dynamic (dyn.Array [])
of_nothing aggregate.MakeListIf k missing = value.Dynamic (dyn.Array [])
of_nothing aggregate.MakeSet k missing = value.Dynamic (dyn.Array [])
of_nothing aggregate.MakeSetIf k missing = value.Dynamic (dyn.Array [])
of_nothing aggregate.TakeAny k missing = missing
of_nothing _ k missing = value.Null

-- Over no rows each aggregate gives that.
abbrev pub AggregatesOfNothing : Type 0
AggregatesOfNothing = (f : Aggregate) (args : List Reading) (columns : List Column) (s : Records) → aggregated f args (no_rows columns) s ≡ of_nothing f ((reading_at args 0).kind columns) ((reading_at args 0).at (no_rows columns) 0 s)

-- A column of a row that is not there is absent: null, or the empty text of type string.
abbrev pub AbsentWithoutRow : Type 0
AbsentWithoutRow = (t : Grid) (i j : ℕ) (name : List ℕ) (c : Column) → length t.lines ≤ i → place_of column_name name t.columns ≡ Some j → slice_get t.columns j ≡ Some c → cell t i name ≡ absent c.kind
