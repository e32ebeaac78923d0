use Rattle.join_op.proofs.LedSteps.{rows-are}
use Rattle.join_op.proofs.MatchSteps.{rows-inside}
use Rattle.join_op.proofs.led.leading_rows.Goals as goal

pub returns-clause-within : goal.returns-clause-within
returns-clause-within c =
    rows-inside c.args.kind c.args.on.now c.args.lead.now c.in_ok-rows.rows
    (rows-are c.args.kind c.args.on.now c.args.lead.now c.args.keys.now c.len.result c.in_ok-rows.rows c.requires.keys c.len.ensures.count c.in_ok-rows.ensures.rows)
