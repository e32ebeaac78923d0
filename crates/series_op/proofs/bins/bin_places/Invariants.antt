use Rattle.std.proofs.Common.{◌≡◌, ◌<◌, ℕ, get_or, length}
use Rattle.std.specs.Prelude.{None}
use Rattle.kql_cells.specs.Seen.{value_at}
use Rattle.kql_meaning.specs.Values.{number_of}
use Rattle.series_op.specs.Bins.{IsPlace}
use Rattle.series_op.proofs.bins.bin_places.Given as goal

-- the places so far
abbrev pub invariant-rows : goal.invariant-rows
invariant-rows l = record {
  long : length l.places.items ≡ l.i;
  each : (r : ℕ) → r < l.i → IsPlace l.series l.count (number_of (value_at l.starts r)) (get_or l.places.items r None);
}
