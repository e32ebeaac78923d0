use Rattle.std.proofs.Common.{◌≡◌, ◌++◌, All, length}
use Rattle.live_run.specs.Runs.{IsOpen}
use Rattle.live_run.proofs.append.append_each.Given as goal

abbrev pub invariant-batches : goal.invariant-batches
invariant-batches g l = record {
  open_yet : IsOpen l.appender;
  opening : l.appender.opening ≡ l.fn.appender.opening;
  script : l.appender.published ++ l.left ≡ g.B.Script.batches;
  takes : All (g.V.Grows.can_take l.appender.value) l.left;
}

abbrev pub decreases-batches : goal.decreases-batches
decreases-batches g l = length l.left
