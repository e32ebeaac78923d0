use Rattle.window_ops.proofs.ReadySteps.{sum-carry, sum-given, sum-ready}
use Rattle.window_ops.proofs.parts.sum_parts.Goals as goal

pub returns-clause-fits : goal.returns-clause-fits
returns-clause-fits c = sum-ready c.args._e.now c.args._t.now c.args._from c.args._count c.args._carries.now c.args.args.now c.as_slice.result.now c.requires.ready c.requires.sum c.as_slice.ensures.items

pub returns-clause-some : goal.returns-clause-some
returns-clause-some c = sum-given c.args._e.now c.args._t.now c.args._from c.args._count c.args._carries.now c.args.args.now c.as_slice.result.now c.requires.ready c.requires.sum c.as_slice.ensures.items

pub returns-clause-carry : goal.returns-clause-carry
returns-clause-carry c = sum-carry c.args._e.now c.args._t.now c.args._from c.args._count c.args._carries.now c.args.args.now c.as_slice.result.now c.requires.ready c.requires.sum c.as_slice.ensures.items
