use Rattle.window_ops.proofs.ReadySteps.{number-carry, number-ready}
use Rattle.window_ops.proofs.parts.number_parts.Goals as goal

pub returns-clause-fits : goal.returns-clause-fits
returns-clause-fits c = number-ready c.args._e.now c.args._t.now c.args._from c.args._count c.args._carries.now c.args.args.now c.as_slice.result.now c.requires.ready c.requires.number c.as_slice.ensures.items

pub returns-clause-carry : goal.returns-clause-carry
returns-clause-carry c = number-carry c.args._e.now c.args._t.now c.args._from c.args._count c.args._carries.now c.args.args.now c.as_slice.result.now c.requires.ready c.requires.number c.as_slice.ensures.items
