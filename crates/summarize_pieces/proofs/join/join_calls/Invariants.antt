use Rattle.std.proofs.Common.{length}
use Rattle.summarize_pieces.proofs.JoinSteps.{JoiningCalls}
use Rattle.summarize_pieces.proofs.join.join_calls.Given as goal

-- the calls that are joined so far, and those that are left
abbrev pub invariant-calls : goal.invariant-calls
invariant-calls l = JoiningCalls l.first l.fn.folds.items l.numbers l.fn.more.items l.count l.further l.made.items l.left l.right

abbrev pub decreases-calls : goal.decreases-calls
decreases-calls l = length l.left
