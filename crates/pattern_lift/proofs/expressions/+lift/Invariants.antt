use Rattle.std.proofs.Common.{◌≡◌, map, take}
use Rattle.pattern_lift.specs.Lifted.{lifted, lifted_link}
use Rattle.pattern_lift.proofs.expressions.+lift.Given as goal

abbrev pub invariant-lifted_exprs-loop-e : goal.invariant-lifted_exprs-loop-e
invariant-lifted_exprs-loop-e l = l.all ≡ map (lifted l.marks) (take l.e-index l.es)

abbrev pub invariant-lifted_links-loop-link : goal.invariant-lifted_links-loop-link
invariant-lifted_links-loop-link l = l.all ≡ map (lifted_link l.marks) (take l.link-index l.links)
