use Rattle.scan_ops.proofs.RunFacts.{turn-start}
use Rattle.scan_ops.proofs.run.started.Goals as goal

pub returns-clause-turn : goal.returns-clause-turn
returns-clause-turn c = turn-start c.args.plan.now c.len.result c.in_ok-states.states.items c.args.out c.len.ensures.count c.in_ok-states.ensures.states
