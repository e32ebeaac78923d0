use Rattle.std.proofs.Common.{◌≡◌}
use Rattle.series_op.proofs.BinSteps.{parts_below}
use Rattle.series_op.proofs.bins.axis_parts.Given as goal

-- the bins so far
abbrev pub invariant-bins : goal.invariant-bins
invariant-bins l = l.parts ≡ parts_below l.series l.k
