use Rattle.std.proofs.Common.{◌≡◌, ◌+◌, ◌≤◌, All, vec_len}
use Rattle.live_run.specs.Runs.{IsFresh, IsOfFresh}
use Rattle.live_run.proofs.run.watchers_of.Given as goal

abbrev pub invariant-readers : goal.invariant-readers
invariant-readers g l = record {
  fresh : (first : g.row.V.Denot) → All (IsFresh first) l.fn.readers.items → All (IsFresh first) l.readers.items × All (IsOfFresh first) l.watchers.items;
  few : vec_len l.readers ≤ 8;
  count : vec_len l.watchers + vec_len l.readers ≡ vec_len l.fn.readers;
}

abbrev pub decreases-readers : goal.decreases-readers
decreases-readers g l = vec_len l.readers
