use Rattle.std.proofs.Common.{◌≡◌, ◌-◌, ◌≤◌, length, take}
use Rattle.kql_outside.specs.Calls.{NoneFailed}
use Rattle.kql_outside.specs.Told.{appended, reduced}
use Rattle.kql_outside.proofs.transfers.write_all.Given as goal

abbrev pub invariant-loop-at : goal.invariant-loop-at
invariant-loop-at g l = record {
  within : l.at ≤ length l.bytes;
  calls : NoneFailed (g.S.Sink.calls l.initial.sink) (g.S.Sink.calls l.sink);
  later : g.S.Sink.faults l.initial.sink ≤ g.S.Sink.faults l.sink;
  so_far : g.S.Sink.written l.sink ≡ appended (g.S.Sink.written l.initial.sink) (take l.at l.bytes);
  room : g.S.Sink.room l.sink ≡ reduced (g.S.Sink.room l.initial.sink) l.at;
}

abbrev pub decreases-loop-at : goal.decreases-loop-at
decreases-loop-at g l = length l.bytes - l.at
