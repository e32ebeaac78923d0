use Rattle.window_ops.proofs.DownSteps.{column-of-down}
use Rattle.window_ops.proofs.columns.formed.Goals as goal

pub returns-clause-column : goal.returns-clause-column
returns-clause-column c = column-of-down c.args._e.now c.args.t.now c.args._from c.args._count c.args._carries.now c.args.values c.requires.ready c.table_facts.ensures.distinct c.table_facts.ensures.fits c.requires.values
