-- The values of the parts of an expression at a row, and when step records are sound.
use Rattle.std.specs.Prelude.{ℕ, ◌+◌, ◌-◌, nat_le, nat_lt, Bool, ℤ, List, [], ◌∷◌, Option, None, Some, All, IfSome, fold, if◌then◌else◌, length, map, slice_get}
use Rattle.std.specs.List.{range_with_len}
use Rattle.kql_cells.specs.Table.{Grid}
use Rattle.kql_cells.specs.declared.value.Value.{Value}
use Rattle.kql_scalar_fns.specs.Applied.{applied}
use Rattle.kql_scalar_fns.specs.Arguments.{AreWellFormed}
use Rattle.kql_bound.specs.Signs.{sign_func}
use Rattle.kql_bound.specs.declared.expr.ChainSign.{ChainSign}
use Rattle.kql_functions.specs.declared.window.Window.{Window}
use Rattle.kql_meaning.specs.Expressions.{look, reading, val}
use Rattle.kql_meaning.specs.Numbers.{sum_of}
use Rattle.kql_meaning.specs.Readings.{Reading, Records, reading_at}
use Rattle.kql_meaning.specs.Values.{holds}
use Rattle.kql_meaning.specs.Windows.{rows_away, where_none, windowed}
use Rattle.kql_scalar.specs.Means.{means}
use Rattle.kql_scalar.specs.declared.node.Node.{Node}

-- The values of several parts.
unfoldable pub values_of : List Node → Grid → ℕ → Records → List Value
values_of ns t i s = map (λ n. val (means n) t i s) ns

-- The value of a chain behind a first value, and of a path into a value.
abbrev pub link_step : Grid → ℕ → Records → Value → ChainSign × Node → Value
link_step t i s v l = applied (sign_func l.0) (v ∷ val (means l.1) t i s ∷ [])

unfoldable pub along : List (ChainSign × Node) → Grid → ℕ → Records → Value → Value
along links t i s first = fold (link_step t i s) first links

abbrev pub path_step : Grid → ℕ → Records → Value → Node → Value
path_step t i s v n = applied look (v ∷ val (means n) t i s ∷ [])

unfoldable pub down : List Node → Grid → ℕ → Records → Value → Value
down steps t i s whole = fold (path_step t i s) whole steps

-- How parts read.
unfoldable pub readings_of : List Node → List Reading
readings_of ns = map (λ n. reading (means n)) ns

-- What a window function of these parts gives.
unfoldable pub window_of : Window → List Node → Grid → ℕ → Records → Value
window_of f ns t i s = windowed f (readings_of ns) t i s

-- How many rows `prev` and `next` of these parts look away.
unfoldable pub distance : List Node → Grid → ℕ → Records → ℕ
distance ns t i s = rows_away (slice_get (readings_of ns) 1) t i s

-- The row so many before a row, and so many after, where there is one.
unfoldable pub row_before : ℕ → ℕ → Option ℕ
row_before i k = if nat_le k i then Some (i - k) else None

unfoldable pub row_after : Grid → ℕ → ℕ → Option ℕ
row_after t i k = if nat_lt (i + k) (length t.lines) then Some (i + k) else None

-- What they give: the first part at that row, where there is one, and else the third at this row.
abbrev pub looked_step : Reading → Value → Grid → Records → Option ℕ → Value
looked_step c d t s None = d
looked_step c d t s (Some j) = c.at t j s

unfoldable pub looked_at : List Node → Option ℕ → Grid → ℕ → Records → Value
looked_at ns row t i s = looked_step (reading_at (readings_of ns) 0) (where_none (reading_at (readings_of ns) 0) (slice_get (readings_of ns) 2) t i s) t s row

-- Each value that a step holds is well formed.
pub record AreSound (s : Records) : Type 0 where
  pub each : All (λ (held : Option (List Value)). IfSome held AreWellFormed) s

-- Whether a part is true at a row.
unfoldable pub is_restart : Node → Grid → Records → ℕ → Bool
is_restart n t s j = holds (val (means n) t j s)

-- The sum of a part over the rows from one on and before another, nulls left out.
unfoldable pub sum_over : Node → Grid → Records → ℕ → ℕ → ℤ
sum_over n t s from to = sum_of (map (λ j. val (means n) t j s) (range_with_len from (to - from)))
