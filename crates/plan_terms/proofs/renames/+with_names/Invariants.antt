use Rattle.std.proofs.Common.{◌≡◌, map, take}
use Rattle.plan_rules.specs.Reads.{with_names}
use Rattle.plan_rules.proofs.ReadSteps.{link_names}
use Rattle.plan_terms.specs.Renames.{renamed_by}
use Rattle.plan_terms.proofs.renames.+with_names.Given as goal

abbrev pub invariant-exprs_with_names-loop-e : goal.invariant-exprs_with_names-loop-e
invariant-exprs_with_names-loop-e l = l.all ≡ map (with_names (renamed_by l.from l.to)) (take l.e-index l.es)

abbrev pub invariant-links_with_names-loop-link : goal.invariant-links_with_names-loop-link
invariant-links_with_names-loop-link l = l.all ≡ map (link_names (renamed_by l.from l.to)) (take l.link-index l.links)
