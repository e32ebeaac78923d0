use Rattle.std.proofs.Common.{arith}
use Rattle.parse_op.proofs.TurnSteps.{passed-first, small-first}
use Rattle.parse_op.proofs.search.pass.Goals as goal

pub overflow_add-slot : goal.overflow_add-slot
overflow_add-slot c = omega (arith, small-first c.in-Some.slot.now c.in-Some._behind.now c.args.slots.now 9223372036854775808 c.in-Some.ensures.cases.0 c.requires.small)

pub returns-clause-passed : goal.returns-clause-passed
returns-clause-passed c = passed-first c.in-Some.slot.now c.in-Some._behind.now c.args.slots.now c.in-Some.ensures.cases.0
