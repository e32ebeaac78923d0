use Rattle.std.proofs.Common.{rules}
use Rattle.summarize_op.proofs.ArgumentSteps.{arguments-step}
use Rattle.summarize_op.proofs.arguments.argument_vectors.Goals as goal

pub arguments-preserved : goal.arguments-preserved
arguments-preserved c = arguments-step c.args.args.now c.args.t.now c.arguments.arg-index c.arg-item.result c.arguments.vectors.items c.push.new.self.items c.in_ok-vector.vector (search rules) c.arg-item.is c.arguments.invariant c.in_ok-vector.ensures.values c.in_ok-push.ensures.items
