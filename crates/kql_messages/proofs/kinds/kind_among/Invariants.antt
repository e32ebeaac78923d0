use Rattle.std.proofs.Common.{◌≡◌, length}
use Rattle.kql_messages.specs.Facts.{kind_among}
use Rattle.kql_messages.proofs.kinds.kind_among.Given as goal

-- the columns that are left have the type that all have
abbrev pub invariant-loop-left : goal.invariant-loop-left
invariant-loop-left l = kind_among l.left l.fn.name ≡ kind_among l.fn.columns l.fn.name

abbrev pub decreases-loop-left : goal.decreases-loop-left
decreases-loop-left l = length l.left
