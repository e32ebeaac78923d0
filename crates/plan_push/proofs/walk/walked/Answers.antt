use Rattle.std.proofs.Common.{◌≡◌, refl}
use Rattle.kql_meaning.specs.Fits.{known_of}
use Rattle.plan_push.proofs.WalkSteps.{walked-first, walked-same}
use Rattle.plan_push.proofs.walk.walked.Goals as goal

pub places-init : goal.places-init
places-init c = walked-first (known_of c.args.tables.now c.args.lets.now) c.args.inside c.args.columns.now c.in_ok-here.here c.args.ops.now c.new-before.result c.push.new.self c.new-passed.result c.new.result c.in_ok-waiting.waiting c.reverse.new.self c.in_ok-here.ensures.same c.new-before.ensures.empty c.in_ok-push.ensures.added c.new-passed.ensures.empty c.new.ensures.empty c.in_ok-waiting.ensures.all c.reverse.ensures.turned c.requires

pub returns : goal.returns
returns c = record { found = walked-same (known_of c.args.tables.now c.args.lets.now) c.args.inside c.args.columns.now c.args.ops.now c.places.before c.places.passed c.places.waiting c.places.changed c.places.invariant (c.places-test.ensures.empty.0 refl) c.if-changed.false }
