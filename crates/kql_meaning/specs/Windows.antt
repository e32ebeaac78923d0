-- The window functions, which look from a row at other rows of its table: `prev`, `next`, `row_cumsum` and `row_number`.
use Rattle.std.specs.Prelude.{ℕ, zero, suc, ◌+◌, ◌-◌, nat_le, nat_lt, Bool, List, Option, None, Some, if◌then◌else◌, pos, length, slice_get}
use Rattle.std.specs.List.{range_with_len}
use Rattle.kql_cells.specs.Table.{Grid}
use Rattle.kql_cells.specs.declared.value.Value.{Value}
use Rattle.kql_cells.specs.declared.value.Value.TheVariants as value
use Rattle.kql_scalar_fns.specs.Arithmetic.{sum}
use Rattle.kql_functions.specs.declared.window.Window.{Window}
use Rattle.kql_functions.specs.declared.window.Window.TheVariants as window
use Rattle.kql_meaning.specs.Numbers.{fitted, sum_of}
use Rattle.kql_meaning.specs.Readings.{Reading, Records, reading_at, values_over}
use Rattle.kql_meaning.specs.Values.{absent_as, holds}

-- The number that a constant long of 0 or more is.
unfoldable pub count_in : Value → ℕ
count_in (value.Long (pos n)) = n
count_in _ = 0

-- How many rows `prev` and `next` look away: the second argument, and 1 where it is not given.
unfoldable pub rows_away : Option Reading → Grid → ℕ → Records → ℕ
rows_away None t i s = 1
rows_away (Some k) t i s = count_in (k.at t i s)

-- What they give where there is no such row: the third argument, and absent where it is not given.
unfoldable pub where_none : Reading → Option Reading → Grid → ℕ → Records → Value
where_none c None t i s = absent_as (c.kind t.columns)
where_none c (Some d) t i s = d.at t i s

-- `prev(c, k, d)`: c at the row k places before, where there is one, and else d.
unfoldable pub value_before : Reading → ℕ → Value → Grid → ℕ → Records → Value
value_before c k d t i s = if nat_le k i then c.at t (i - k) s else d

-- `next(c, k, d)`: c at the row k places after, where there is one, and else d.
unfoldable pub value_after : Reading → ℕ → Value → Grid → ℕ → Records → Value
value_after c k d t i s = if nat_lt (i + k) (length t.lines) then c.at t (i + k) s else d

-- The greatest place that is not above i and at which a test passes, and 0 where there is none.
unfoldable pub last_where : (ℕ → Bool) → ℕ → ℕ
last_where test zero = 0
last_where test (suc i) = if test (suc i) then suc i else last_where test i

-- The row from which `row_cumsum` and `row_number` count at row i: the last one not after i at which the restart is true, and
-- else the first row.
unfoldable pub run_start : Option Reading → Grid → ℕ → Records → ℕ
run_start None t i s = 0
run_start (Some restart) t i s = last_where (λ j. holds (restart.at t j s)) i

-- `row_cumsum(term, restart)`: the exact sum of the term over the rows from the start of the run to row i, nulls left out, and
-- null where it does not fit.
unfoldable pub running_sum : Reading → Option Reading → Grid → ℕ → Records → Value
running_sum term restart t i s =
    let b = run_start restart t i s in
    fitted (term.kind t.columns) (sum_of (values_over term (range_with_len b (i + 1 - b)) t s))

-- Where `row_number` begins: its first argument, and 1 where it is not given. To it are added the rows since the run began; the sum
-- is null where it is null, or does not fit.
unfoldable pub first_number : Option Reading → Grid → ℕ → Records → Value
first_number None t i s = value.Long (pos 1)
first_number (Some start) t i s = start.at t i s

-- What each window function gives at row i.
unfoldable pub windowed : Window → List Reading → Grid → ℕ → Records → Value
windowed window.Prev args t i s =
    value_before (reading_at args 0) (rows_away (slice_get args 1) t i s) (where_none (reading_at args 0) (slice_get args 2) t i s) t i s
windowed window.Next args t i s =
    value_after (reading_at args 0) (rows_away (slice_get args 1) t i s) (where_none (reading_at args 0) (slice_get args 2) t i s) t i s
windowed window.RowCumsum args t i s = running_sum (reading_at args 0) (slice_get args 1) t i s
windowed window.RowNumber args t i s = sum (first_number (slice_get args 0) t i s) (value.Long (pos (i - run_start (slice_get args 1) t i s)))
