use Rattle.std.proofs.lemmas.Result.{on_ok_weaker}
use Rattle.scan_ops.specs.Runs.{turn_of}
use Rattle.scan_ops.proofs.RunFacts.{outcome-again}
use Rattle.scan_ops.proofs.run.try_again.Goals as goal

pub returns-then-at-eq0-clause-turn : goal.returns-then-at-eq0-clause-turn
returns-then-at-eq0-clause-turn c =
    on_ok_weaker c.begin.result (λ e. outcome-again (turn_of c.args.run.now) (turn_of c.begin.new.run) _ e) c.begin.ensures.turn

pub returns-else-at-eq0-clause-turn : goal.returns-else-at-eq0-clause-turn
returns-else-at-eq0-clause-turn c =
    on_ok_weaker c.renew.result (λ e. outcome-again (turn_of c.args.run.now) (turn_of c.renew.new.run) _ e) c.renew.ensures.turn
