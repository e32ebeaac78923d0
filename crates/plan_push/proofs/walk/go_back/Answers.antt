use Rattle.std.proofs.Common.{◌≡◌, sym}
use Rattle.plan_push.proofs.WalkSteps.{back-none, back-one}
use Rattle.plan_push.proofs.walk.go_back.Goals as goal

pub returns-in_default : goal.returns-in_default
returns-in_default c = record { back = back-none c.args.before.now c.args.passed.now c.pop.new.self c.args.waiting.now c.in_default.ensures.last.0 c.in_default.ensures.last.1 }

pub returns : goal.returns
returns c = record { back = back-one c.args.before.now c.truncate.new.self c.args.passed.now c.pop.new.self c.args.waiting.now c.push.new.self c.in-Some.op c.len-count.result c.len-count.ensures.count c.in-Some.ensures.last c.in_ok-push.ensures.added c.truncate.ensures.rest }
