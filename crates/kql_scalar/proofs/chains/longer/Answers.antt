use Rattle.std.proofs.Common.{◌+◌, arith, refl, subst, sym, take}
use Rattle.kql_scalar.specs.Chains.{IsAlong}
use Rattle.kql_scalar.proofs.ChainSteps.{chain-more, chain-start}
use Rattle.kql_scalar.proofs.chains.longer.Goals as goal

pub links-init : goal.links-init
links-init c = chain-start c.args.t.now c.args._first.now c.args.chain.first c.args.chain.terms.items c.requires.inner

pub links-preserved : goal.links-preserved
links-preserved c =
    subst (IsAlong c.args.t.now c.args._first.now (take (c.links.link-index + 1) c.args.links.now) c.args.chain.first) (sym c.in_ok-push.ensures.items)
    (chain-more c.args.t.now c.args._first.now c.args.links.now c.links.link-index c.link-item.result c.args.chain.first c.links.terms.items _
    (omega (arith, c.links-test.true)) c.link-item.is c.links.invariant refl c.in-Some.ensures.term)
