-- The places at which values are true.
use Rattle.std.specs.Prelude.{ℕ, List, filter}
use Rattle.std.specs.List.{range_with_len}
use Rattle.kql_cells.specs.Seen.{value_at}
use Rattle.kql_cells.specs.declared.value.Value.{Value}
use Rattle.kql_meaning.specs.Values.{holds}

-- Those below a count.
unfoldable pub places_true : List Value → ℕ → List ℕ
places_true values count = filter (λ i. holds (value_at values i)) (range_with_len 0 count)
