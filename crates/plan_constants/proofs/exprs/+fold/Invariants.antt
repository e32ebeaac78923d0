use Rattle.std.proofs.Common.{◌≡◌, map, take}
use Rattle.plan_rules.specs.Folding.{folded}
use Rattle.plan_rules.proofs.FoldSteps.{folded_link}
use Rattle.plan_constants.proofs.exprs.+fold.Given as goal

abbrev pub invariant-folded_exprs-loop-e : goal.invariant-folded_exprs-loop-e
invariant-folded_exprs-loop-e l = l.all ≡ map folded (take l.e-index l.es)

abbrev pub invariant-folded_links-loop-link : goal.invariant-folded_links-loop-link
invariant-folded_links-loop-link l = l.all ≡ map folded_link (take l.link-index l.links)
