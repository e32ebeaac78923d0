use Rattle.std.proofs.Common.{◌≡◌}
use Rattle.window_ops.specs.Kept.{places_true}
use Rattle.window_ops.proofs.kept.places_true.Given as goal

-- the places so far
abbrev pub invariant-rows : goal.invariant-rows
invariant-rows l = l.places.items ≡ places_true l.values l.i
