use Rattle.std.proofs.Common.{◌≡◌, ◌+◌, length}
use Rattle.live_tables.specs.Columns.{difference_from}
use Rattle.live_tables.proofs.columns.first_difference.Given as goal

abbrev pub invariant-columns : goal.invariant-columns
invariant-columns l = record {
  same : difference_from l.place l.left l.right ≡ difference_from 0 l.fn.columns l.fn.others;
  count : l.place + length l.left ≡ length l.fn.columns;
}

abbrev pub decreases-columns : goal.decreases-columns
decreases-columns l = length l.left
