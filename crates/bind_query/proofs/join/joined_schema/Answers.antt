use Rattle.std.proofs.Common.{arith}
use Rattle.bind_query.proofs.JoinSteps.{joined-once}
use Rattle.bind_query.proofs.join.joined_schema.Goals as goal

pub from_items-requires : goal.from_items-requires
from_items-requires c = joined-once c.args.plan.now c.args.left.now c.args.right.now c.in_ok-columns.columns c.law_of_join_names.ensures.differ c.requires.left c.requires.right (omega (arith, c.if-count-ge9223372036854775808.false)) c.in_ok-columns.ensures.columns
