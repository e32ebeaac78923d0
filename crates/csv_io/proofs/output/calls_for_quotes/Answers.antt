use Rattle.std.proofs.Common.{arith}
use Rattle.csv_io.proofs.ClearFacts.{none-calls}
use Rattle.csv_io.proofs.output.calls_for_quotes.Goals as goal

pub returns : goal.returns
returns c = none-calls c.args.field.now c.loop-at.at (omega (arith, c.loop-at-test.false)) c.loop-at.invariant.1
