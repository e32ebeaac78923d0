use Rattle.std.proofs.Common.{◌≡◌, drop}
use Rattle.plan_rules.specs.Folding.{folded_chain}
use Rattle.plan_constants.proofs.chains.joined_links.Given as goal

abbrev pub invariant-loop-link : goal.invariant-loop-link
invariant-loop-link l = record {
  count : l.taken ≡ l.link-index;
  same : folded_chain l.fn.first l.links ≡ folded_chain l.front (drop l.link-index l.links);
}
