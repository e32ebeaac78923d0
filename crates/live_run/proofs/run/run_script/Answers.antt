use Rattle.live_run.proofs.RunLaws.{all_waiting}
use Rattle.live_run.proofs.run.run_script.Goals as goal

pub run_beside-requires-clause-waiting : goal.run_beside-requires-clause-waiting
run_beside-requires-clause-waiting g c κs within =
    all_waiting (g.Q.Question.stands c.args.query.now g.B.Script.opening) c.args.appender.now.opening c.args.readers.items c.in_ok-watchers.watchers.items c.requires.opened c.requires.fresh c.in_ok-watchers.ensures.fresh
