use Rattle.std.proofs.Common.{arith}
use Rattle.kql_scalar.proofs.OppositeSteps.{opposite-test}
use Rattle.kql_scalar.proofs.opposites.opposite_test.Goals as goal

pub returns-in-Comparison : goal.returns-in-Comparison
returns-in-Comparison c = record {
  test = opposite-test c.args.args.now _ c.as_slice.result.now c.args._t.now c.a-item.result _ _ c.opposite_of.result c.requires (omega arith) (omega arith) c.a-item.is c.in-Call.is c.in-Comparison.is c.opposite_of.ensures c.as_slice.ensures.items;
}
