-- Running sums and numbers of rows, each from the row before it.
use Rattle.std.specs.Prelude.{ℕ, ◌+◌, ◌-◌, Bool, false, List, Option, None, Some, ℤ, pos, length, map}
use Rattle.std.specs.List.{range_with_len}
use Rattle.kql_cells.specs.Seen.{value_at}
use Rattle.kql_cells.specs.declared.value.Kind.{Kind}
use Rattle.kql_cells.specs.declared.value.Value.{Value}
use Rattle.kql_cells.specs.declared.value.Value.TheVariants as value
use Rattle.kql_scalar_fns.specs.Arithmetic.{sum}
use Rattle.kql_meaning.specs.Numbers.{added, fitted}
use Rattle.kql_meaning.specs.Values.{holds, number_of}
use Rattle.window_ops.specs.Carries.{Carried, run_on}

-- Whether a run begins at a row.
unfoldable pub restart_at : Option (List Value) → ℕ → Bool
restart_at None i = false
restart_at (Some restarts) i = holds (value_at restarts i)

-- What a row adds to a sum: nothing where there is no term, or the term is null.
unfoldable pub term_at : Option (List Value) → ℕ → ℤ
term_at None i = pos 0
term_at (Some terms) i = added (number_of (value_at terms i))

-- The carry up to a row, from that of the rows in front of the columns.
unfoldable pub run_to : Option (List Value) → Option (List Value) → Carried → ℕ → Carried
run_to restarts terms before i = run_on (restart_at restarts) (term_at terms) before (i + 1)

-- The running sum at each row.
unfoldable pub sum_at : Option Kind → Option (List Value) → List Value → Carried → ℕ → Value
sum_at kind restarts terms before i = fitted kind (run_to restarts (Some terms) before i).sum

unfoldable pub running_sums : Option Kind → Option (List Value) → List Value → Carried → List Value
running_sums kind restarts terms before = map (sum_at kind restarts terms before) (range_with_len 0 (length terms))

-- The number of each row: the start at it, and the rows since its run began.
unfoldable pub start_at : Option (List Value) → ℕ → Value
start_at None i = value.Long (pos 1)
start_at (Some starts) i = value_at starts i

unfoldable pub number_at : Option (List Value) → Option (List Value) → Carried → ℕ → Value
number_at starts restarts before i = sum (start_at starts i) (value.Long (pos ((run_to restarts None before i).count - 1)))

unfoldable pub row_numbers : ℕ → Option (List Value) → Option (List Value) → Carried → List Value
row_numbers count starts restarts before = map (number_at starts restarts before) (range_with_len 0 count)
