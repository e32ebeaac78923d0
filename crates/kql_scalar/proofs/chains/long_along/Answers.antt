use Rattle.std.proofs.Common.{◌∙◌, ap₂, arith, length}
use Rattle.kql_scalar.specs.Chains.{long_step}
use Rattle.kql_scalar.proofs.ChainSteps.{number-more, reach-at}
use Rattle.kql_scalar.proofs.chains.long_along.Goals as goal

pub term_at-requires-clause-reach : goal.term_at-requires-clause-reach
term_at-requires-clause-reach c = reach-at (length c.args._t.now.lines) c.args.links.now c.links.link-index _ c.requires.reach (omega (arith, c.links-test.true))

pub links-preserved : goal.links-preserved
links-preserved c =
    c.long_step-number.ensures
    ∙ (ap₂ (long_step _) c.links.invariant c.term_at.ensures.value ∙ number-more c.args.links.now c.links.link-index _ c.args.i c.args.first (omega (arith, c.links-test.true)))
