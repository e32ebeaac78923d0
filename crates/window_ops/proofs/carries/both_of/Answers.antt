use Rattle.std.proofs.Common.{rules}
use Rattle.window_ops.specs.contracts.carries.Carry.{the_view}
use Rattle.window_ops.proofs.CarrySteps.{join-on}
use Rattle.window_ops.proofs.carries.both_of.Goals as goal

pub returns-else-b : goal.returns-else-b
returns-else-b c = record {
  joined = join-on c.args.a.now c.args.b.now (the_view c.a.inside) (the_view c.b.inside) _ c.a.view_is c.b.view_is c.if-b.false (search rules);
}
