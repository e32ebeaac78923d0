use Rattle.window_ops.proofs.ItemSteps.{all-ready}
use Rattle.window_ops.proofs.items.values_at_each_row.Goals as goal

pub column-requires : goal.column-requires
column-requires c = record { ready = all-ready c.args.e.now c.args.t.now c.len.result c.requires.fits c.len.ensures.count }
