use Rattle.std.proofs.Common.{◌≡◌, take}
use Rattle.summarize_op.specs.Picks.{all_picked}
use Rattle.summarize_op.proofs.picks.picked_columns.Given as goal

-- the columns so far
abbrev pub invariant-columns : goal.invariant-columns
invariant-columns l = l.vectors.items ≡ all_picked (take l.column-index l.columns) l.t l.rows
