use Rattle.std.proofs.Common.{◌≡◌, length}
use Rattle.parse_op.specs.Filled.{grown}
use Rattle.parse_op.proofs.fill.fill_rows.Given as goal

-- the rows of the texts so far
abbrev pub invariant-rows : goal.invariant-rows
invariant-rows l = record {
  count : length l.slots ≡ length l.p.pattern;
  rows : l.builder ≡ grown l.p l.texts l.i;
}
