use Rattle.std.proofs.Common.{◌≡◌}
use Rattle.summarize_op.specs.Picks.{picked_rows}
use Rattle.summarize_op.proofs.picks.picked_rows.Given as goal

-- the rows of the groups so far
abbrev pub invariant-groups : goal.invariant-groups
invariant-groups l = l.rows.items ≡ picked_rows l.numbers l.g l.places
