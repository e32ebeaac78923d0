-- The aggregates: functions of the list of a group's rows, which is the table that they are read over.
use Rattle.std.specs.Prelude.{not, List, Option, None, Some, map, filter, filter_map, take, slice_get, ℤ}
use Rattle.std.specs.List.{reduce}
use Rattle.std.specs.Int.{int_bit_and, int_bit_or, int_bit_xor, w64}
use Rattle.kql_cells.specs.Table.{Grid}
use Rattle.kql_cells.specs.declared.value.Value.{Value}
use Rattle.kql_dynamic.specs.Arrays.{pack_array}
use Rattle.kql_scalar_fns.specs.Arguments.{long_or_null}
use Rattle.kql_scalar_fns.specs.Choice.{greatest, is_null, least}
use Rattle.kql_scalar_fns.specs.Dynamic.{element}
use Rattle.kql_functions.specs.declared.aggregate.Aggregate.{Aggregate}
use Rattle.kql_functions.specs.declared.aggregate.Aggregate.TheVariants as aggregate
use Rattle.kql_meaning.specs.Numbers.{counted, fitted, sum_of}
use Rattle.kql_meaning.specs.Readings.{Reading, Records, reading_at, rows_where, values_over}
use Rattle.kql_meaning.specs.Tables.{distinct_by, places}
use Rattle.kql_meaning.specs.Values.{number_of, same_key}
use Rattle.kql_meaning.specs.Windows.{count_in}

-- Those that are not null.
unfoldable pub given : List Value → List Value
given vs = filter (λ v. not (is_null v)) vs

-- Those that are not null, each once, by first occurrence.
unfoldable pub distinct_given : List Value → List Value
distinct_given vs = distinct_by same_key (given vs)

-- The values as the elements of an array, in order; null where it would have more than 127 levels.
unfoldable pub listed : List Value → Value
listed vs = pack_array (map element vs)

-- The first n, where n is given.
unfoldable pub first_of : Option Reading → Grid → Records → List Value → List Value
first_of None t s vs = vs
first_of (Some n) t s vs = take (count_in (n.at t 0 s)) vs

-- The numbers among these values, taken together from the left; null where there is none.
unfoldable pub combined : (ℤ → ℤ → ℤ) → List Value → Value
combined both vs = long_or_null (reduce both (filter_map number_of vs))

-- The values of an argument at all rows of the group.
unfoldable pub all_values : Reading → Grid → Records → List Value
all_values x t s = values_over x (places t) t s

-- The values of an argument at the rows of the group at which a condition is true.
unfoldable pub values_where : Reading → Reading → Grid → Records → List Value
values_where x p t s = values_over x (rows_where p t s) t s

-- The arguments of a call: what is aggregated stands first, and behind it a condition or a number, where the aggregate takes one. Here are
-- the values of the first at all rows, those at the rows at which the condition is true, and the first of them up to the number.
abbrev pub taken : List Reading → Grid → Records → List Value
taken args t s = all_values (reading_at args 0) t s

abbrev pub taken_if : List Reading → Grid → Records → List Value
taken_if args t s = values_where (reading_at args 0) (reading_at args 1) t s

abbrev pub up_to_number : List Reading → Grid → Records → List Value → List Value
up_to_number args t s vs = first_of (slice_get args 1) t s vs

-- The sum of values of the first argument, in its type.
abbrev pub summed : List Reading → Grid → List Value → Value
summed args t vs = fitted ((reading_at args 0).kind t.columns) (sum_of vs)

-- What each aggregate gives. A call with several result columns gives the first of them here. `countif` takes a condition alone.
unfoldable pub aggregated : Aggregate → List Reading → Grid → Records → Value
aggregated aggregate.Count args t s = counted (places t)
aggregated aggregate.CountIf args t s = counted (rows_where (reading_at args 0) t s)
aggregated aggregate.CountDistinct args t s = counted (distinct_given (taken args t s))
aggregated aggregate.CountDistinctIf args t s = counted (distinct_given (taken_if args t s))
aggregated aggregate.Sum args t s = summed args t (taken args t s)
aggregated aggregate.SumIf args t s = summed args t (taken_if args t s)
aggregated aggregate.Min args t s = least (taken args t s)
aggregated aggregate.MinIf args t s = least (taken_if args t s)
aggregated aggregate.Max args t s = greatest (taken args t s)
aggregated aggregate.MaxIf args t s = greatest (taken_if args t s)
aggregated aggregate.MakeList args t s = listed (up_to_number args t s (given (taken args t s)))
aggregated aggregate.MakeListIf args t s = listed (given (taken_if args t s))
aggregated aggregate.MakeSet args t s = listed (up_to_number args t s (distinct_given (taken args t s)))
aggregated aggregate.MakeSetIf args t s = listed (distinct_given (taken_if args t s))
aggregated aggregate.ArgMax args t s = greatest (taken args t s)
aggregated aggregate.ArgMin args t s = least (taken args t s)
aggregated aggregate.TakeAny args t s = (reading_at args 0).at t 0 s
aggregated aggregate.BinaryAllAnd args t s = combined (int_bit_and w64) (taken args t s)
aggregated aggregate.BinaryAllOr args t s = combined (int_bit_or w64) (taken args t s)
aggregated aggregate.BinaryAllXor args t s = combined (int_bit_xor w64) (taken args t s)
