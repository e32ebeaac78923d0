use Rattle.phase_joins.proofs.JoinSteps.{kinds-full, made-full, names-full}
use Rattle.phase_joins.proofs.join.run_full.Goals as goal

pub run_led-requires-clause-names : goal.run_led-requires-clause-names
run_led-requires-clause-names g c κs within = names-full c.law_of_leads.ensures.both c.args.j.now c.args.left.now c.args.right.now c.requires.full c.requires.names

pub run_led-requires-2-clause-names : goal.run_led-requires-2-clause-names
run_led-requires-2-clause-names g c κs within = names-full c.law_of_leads.ensures.both c.args.j.now c.args.left.now c.args.right.now c.requires.full c.requires.names
