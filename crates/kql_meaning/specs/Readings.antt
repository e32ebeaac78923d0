-- How an expression reads over a table: its type there, and its value at each row.
use Rattle.std.specs.Prelude.{ℕ, List, Option, None, map, filter, slice_index_or}
use Rattle.kql_cells.specs.Table.{Grid}
use Rattle.kql_cells.specs.declared.schema.Column.{Column}
use Rattle.kql_cells.specs.declared.value.Kind.{Kind}
use Rattle.kql_cells.specs.declared.value.Value.{Value}
use Rattle.kql_cells.specs.declared.value.Value.TheVariants as value
use Rattle.kql_meaning.specs.Tables.{places}
use Rattle.kql_meaning.specs.Values.{holds}

-- The step records of a scan: for each of its steps in order, the record that is held for it, or none. Outside scan the list
-- is empty.
abbrev pub Records : Type 0
Records = List (Option (List Value))

-- A reading of an expression: `kind` is its type over a table's columns, where it has one, and `at` its value at a row of a
-- table, with step records. The value may depend on the other rows of the table.
pub record Reading : Type 0 where
  pub kind : List Column → Option Kind
  pub at : Grid → ℕ → Records → Value

-- The reading that stands in the place of an argument which is not there.
abbrev pub no_reading : Reading
no_reading = record { kind = λ columns. None; at = λ t i s. value.Null }

-- The argument at a place.
unfoldable pub reading_at : List Reading → ℕ → Reading
reading_at args n = slice_index_or args n no_reading

-- The types of the arguments.
unfoldable pub kinds_of : List Reading → List Column → List (Option Kind)
kinds_of args columns = map (λ (a : Reading). a.kind columns) args

-- The values of the arguments at a row.
unfoldable pub values_at : List Reading → Grid → ℕ → Records → List Value
values_at args t i s = map (λ (a : Reading). a.at t i s) args

-- The values of one expression at these rows, in order.
unfoldable pub values_over : Reading → List ℕ → Grid → Records → List Value
values_over a rows t s = map (λ i. a.at t i s) rows

-- The rows at which a condition is true, in order.
unfoldable pub rows_where : Reading → Grid → Records → List ℕ
rows_where p t s = filter (λ i. holds (p.at t i s)) (places t)
