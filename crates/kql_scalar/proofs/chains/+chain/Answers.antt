use Rattle.kql_scalar.proofs.ChainSteps.{chains-opened}
use Rattle.kql_scalar.proofs.chains.+chain.Goals as goal

pub returns-in-Some : goal.returns-in-Some
returns-in-Some t c = record {
  chain = chains-opened c.args.t.now c.args.node.now c.in-Chain.first c.part-first.result.now c.in-Chain.links c.link_parts.result.now c.longer.result
      c.in-Chain.is c.part-first.ensures.value c.link_parts.ensures.items c.longer.ensures.chain;
}
