use Rattle.std.proofs.Common.{rules}
use Rattle.summarize_op.proofs.KeySteps.{held-step}
use Rattle.summarize_op.proofs.groups.key_vectors.Goals as goal

pub keys-preserved : goal.keys-preserved
keys-preserved c = held-step c.args.keys.now c.args.t.now c.keys.key-index c.key-item.result c.keys.vectors.items c.push.new.self.items c.in_ok-vector.vector (search rules) c.key-item.is c.keys.invariant c.in_ok-vector.ensures.values c.in_ok-push.ensures.items
