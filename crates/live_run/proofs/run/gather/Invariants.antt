use Rattle.std.proofs.Common.{◌≡◌, ◌+◌, All, length, vec_len}
use Rattle.std.specs.Prelude.{IsSomeAnd}
use Rattle.live_run.specs.Runs.{HasWatched}
use Rattle.live_run.specs.Sights.{IsSeenList}
use Rattle.live_run.proofs.run.gather.Given as goal

abbrev pub invariant-watchers : goal.invariant-watchers
invariant-watchers g l = record {
  watched : All (HasWatched (g.Q.Question.stands l.query g.B.Script.opening) (g.Q.Question.answer l.query) g.B.Script.opening g.B.Script.batches l.times) l.watchers.items;
  opened : IsSomeAnd l.appender.opening (g.Q.Question.stands l.query g.B.Script.opening);
  published : l.appender.published ≡ g.B.Script.batches;
  seen : All (IsSeenList (g.Q.Question.answer l.query) g.B.Script.opening g.B.Script.batches) l.seen;
  count : length l.seen + vec_len l.watchers ≡ vec_len l.fn.watchers;
}

abbrev pub decreases-watchers : goal.decreases-watchers
decreases-watchers g l = vec_len l.watchers
