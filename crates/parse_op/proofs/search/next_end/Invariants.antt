use Rattle.std.proofs.Common.{◌≤◌}
use Rattle.parse_op.specs.Search.{NoneBefore}
use Rattle.parse_op.proofs.search.next_end.Given as goal

-- no end so far
abbrev pub invariant-ends : goal.invariant-ends
invariant-ends l = record {
  order : l.first ≤ l.end;
  none : NoneBefore l.relaxed l.item l.later l.text l.start l.end;
}
