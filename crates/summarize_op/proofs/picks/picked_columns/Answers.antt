use Rattle.std.proofs.Common.{rules}
use Rattle.summarize_op.proofs.PickSteps.{picks-step}
use Rattle.summarize_op.proofs.picks.picked_columns.Goals as goal

pub columns-preserved : goal.columns-preserved
columns-preserved c = picks-step c.args.columns.now c.args.t.now c.args.rows.now c.columns.column-index c.column-item.result c.columns.vectors.items c.push.new.self.items c.in_ok-vector.vector (search rules) c.column-item.is c.columns.invariant c.in_ok-vector.ensures.values c.in_ok-push.ensures.items
