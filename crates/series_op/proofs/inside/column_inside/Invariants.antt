use Rattle.std.proofs.Common.{◌≡◌}
use Rattle.series_op.proofs.InsideSteps.{inside_column}
use Rattle.series_op.proofs.inside.column_inside.Given as goal

-- the places so far
abbrev pub invariant-rows : goal.invariant-rows
invariant-rows l = l.places ≡ inside_column l.series l.column l.i
