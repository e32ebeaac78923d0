use Rattle.std.proofs.Common.{subst, sym}
use Rattle.kql_scalar.specs.Chains.{IsChainOf}
use Rattle.kql_scalar.proofs.ChainSteps.{chain-single}
use Rattle.kql_scalar.proofs.chains.single.Goals as goal

pub returns : goal.returns
returns c = record {
  chain = subst (IsChainOf c.args.t.now c.args.node.now c.in-Some.first) (sym c.new.ensures.items) (chain-single c.args.t.now c.args.node.now c.in-Some.first c.in-Some.ensures.term);
}
