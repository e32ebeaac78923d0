use Rattle.std.proofs.Common.{rules, ◌∙◌, ap, map}
use Rattle.join_op.proofs.KeySteps.{keys-more, keys-none}
use Rattle.join_op.proofs.keys.key_columns.Goals as goal

pub loop-pair-init : goal.loop-pair-init
loop-pair-init c = ap (map (λ c. c.now)) c.in_ok-columns.ensures.items ∙ keys-none c.args.side c.args.t.now

pub loop-pair-preserved : goal.loop-pair-preserved
loop-pair-preserved c =
    keys-more c.args.side c.args.on.now c.args.t.now c.loop-pair.pair-index c.pair-item.result c.key_name.result.now c.loop-pair.columns.items c.push.new.self.items c.key_column.result
    (search rules) c.pair-item.is c.key_name.ensures.name c.loop-pair.invariant c.key_column.ensures.cells c.in_ok-push.ensures.items
