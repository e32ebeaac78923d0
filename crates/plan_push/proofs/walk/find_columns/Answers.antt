use Rattle.std.proofs.Common.{◌≡◌, arith}
use Rattle.kql_meaning.specs.Fits.{known_of}
use Rattle.plan_push.proofs.PlaceSteps.{finding-end, finding-turn}
use Rattle.plan_push.proofs.walk.find_columns.Goals as goal

pub loop-i-preserved : goal.loop-i-preserved
loop-i-preserved c = λ cs b. finding-turn (known_of c.args.tables.now c.args.lets.now) cs c.columns_at-columns.result.now c.loop-i.before c.push.new.self c.as_slice.result.now c.args.passed.now c.loop-i.i c.index-passed-i.result c.in_ok-next.next c.loop-i-test.true c.index-passed-i.is c.as_slice.ensures.items c.columns_at-columns.ensures.columns c.in_ok-next.ensures.columns c.in_ok-push.ensures.added (c.loop-i.invariant cs b)

pub returns : goal.returns
returns c = record { found = λ cs b. finding-end (known_of c.args.tables.now c.args.lets.now) cs c.loop-i.before c.args.passed.now c.loop-i.i (omega arith) (c.loop-i.invariant cs b) }
