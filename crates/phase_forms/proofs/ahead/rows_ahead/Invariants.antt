use Rattle.std.proofs.Common.{◌≡◌, take, true}
use Rattle.phase_laws.specs.Runs.{are_by_row}
use Rattle.phase_forms.proofs.ahead.rows_ahead.Given as goal

-- the operators so far read one row at a time
abbrev pub invariant-loop-op : goal.invariant-loop-op
invariant-loop-op l = record {
  count : l.count ≡ l.op-index;
  by_row : are_by_row (take l.op-index l.ops) ≡ true;
}
