use Rattle.std.proofs.Common.{rules}
use Rattle.std.proofs.lemmas.Result.{on_ok_weaker}
use Rattle.scan_ops.specs.Runs.{turn_of}
use Rattle.scan_ops.proofs.RunFacts.{tried-one, tried-two}
use Rattle.scan_ops.proofs.run.try_step.Goals as goal

pub returns-then-branch-clause-turn : goal.returns-then-branch-clause-turn
returns-then-branch-clause-turn c =
    on_ok_weaker c.promote.result (λ e. tried-one c.args.plan.now c.args.step.now.step c.args.t.now c.args.i c.args.at (turn_of c.args.run.now) (turn_of c.promote.new.run) e) c.promote.ensures.turn

pub returns-clause-turn : goal.returns-clause-turn
returns-clause-turn c =
    on_ok_weaker c.try_again.result (λ e. tried-two c.args.plan.now c.args.step.now.step c.args.t.now c.args.i c.args.at (turn_of c.args.run.now) (turn_of c.try_again.new.run) (search rules) e) c.try_again.ensures.turn
