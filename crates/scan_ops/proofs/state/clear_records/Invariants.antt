use Rattle.std.proofs.Common.{◌≡◌, length}
use Rattle.scan_ops.proofs.StateFacts.{AreNone}
use Rattle.scan_ops.proofs.state.clear_records.Given as goal

-- the first records are gone
abbrev pub invariant-each : goal.invariant-each
invariant-each l = record {
  size : length l.records ≡ length l.fn.records;
  none : AreNone l.at l.records;
}
