use Rattle.std.proofs.Common.{rules}
use Rattle.summarize_pieces.proofs.ColumnSteps.{columns-step}
use Rattle.summarize_pieces.proofs.columns.columns_along.Goals as goal

pub arguments-preserved : goal.arguments-preserved
arguments-preserved c = columns-step c.args.args.now c.args.t.now c.args.from c.args.to c.arguments.arg-index c.arg-item.result c.arguments.vectors.items c.push.new.self.items c.in_ok-vector.vector (search rules) c.arg-item.is c.arguments.invariant c.in_ok-vector.ensures.values c.in_ok-push.ensures.items
