use Rattle.std.proofs.Common.{◌≡◌, ◌++◌, take}
use Rattle.plan_rules.specs.Rules.{terms_in}
use Rattle.plan_neighbours.proofs.filters.+push_terms.Given as goal

abbrev pub invariant-push_terms_in-loop-e : goal.invariant-push_terms_in-loop-e
invariant-push_terms_in-loop-e l = l.terms ≡ l.initial.terms ++ terms_in (take l.e-index l.es)
