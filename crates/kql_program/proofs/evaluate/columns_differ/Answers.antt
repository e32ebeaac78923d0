use Rattle.std.proofs.Common.{rules}
use Rattle.kql_program.proofs.BoundFacts.{differ-all, differ-more}
use Rattle.kql_program.proofs.evaluate.columns_differ.Goals as goal

pub loop-named-preserved : goal.loop-named-preserved
loop-named-preserved c = differ-more c.args.schemas.now c.loop-named.named-index c.named-item.result (search rules) c.named-item.is c.columns.ensures.distinct c.loop-named.invariant

pub returns : goal.returns
returns c = record { differ = differ-all c.args.schemas.now c.loop-named.named-index (search rules) c.loop-named.invariant }
