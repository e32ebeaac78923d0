use Rattle.std.proofs.Common.{◌≡◌, Some, None, rules}
use Rattle.kql_bound.specs.Signs.{sign_func}
use Rattle.plan_constants.specs.Fronts.{joined}
use Rattle.plan_constants.proofs.FrontSteps.{chain-done, chain-stopped, chain-turned}
use Rattle.plan_constants.proofs.chains.joined_links.Goals as goal

pub returns-in_default-clause-chain : goal.returns-in_default-clause-chain
returns-in_default-clause-chain c =
    let none : None ≡ joined (sign_func c.link-item.result.0) c.loop-link.front c.link-item.result.1 = cc (c.in_default.is, c.in_ok-next.ensures.joined, c.func.ensures.func, c.get.ensures.value) in
    rw c.loop-link.invariant.count (chain-stopped c.args.first c.args.links.now c.loop-link.link-index c.loop-link.front c.link-item.result c.loop-link-test.true c.link-item.is c.loop-link.invariant.same none)

pub loop-link-preserved : goal.loop-link-preserved
loop-link-preserved c =
    let made : Some c.in-Some.next ≡ joined (sign_func c.link-item.result.0) c.loop-link.front c.link-item.result.1 = cc (c.in-Some.is, c.in_ok-next.ensures.joined, c.func.ensures.func, c.get.ensures.value) in
    record {
      count = search rules;
      same = chain-turned c.args.first c.args.links.now c.loop-link.link-index c.loop-link.front c.in-Some.next c.link-item.result c.loop-link-test.true c.link-item.is c.loop-link.invariant.same made;
    }

pub returns-clause-chain : goal.returns-clause-chain
returns-clause-chain c =
    rw c.loop-link.invariant.count (chain-done c.args.first c.args.links.now c.loop-link.link-index c.loop-link.front c.loop-link-test.false c.loop-link.invariant.same)
