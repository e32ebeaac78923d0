use Rattle.std.proofs.Common.{◌≡◌, take, true}
use Rattle.std.specs.List.{list_all}
use Rattle.pattern_lift.specs.Calls.{calls_are_lent}
use Rattle.pattern_lift.proofs.CallSteps.{links_lent}
use Rattle.pattern_lift.proofs.lent.+lent.Given as goal

abbrev pub invariant-all_lent-loop-e : goal.invariant-all_lent-loop-e
invariant-all_lent-loop-e l = list_all (calls_are_lent l.lent) (take l.e-index l.es) ≡ true

abbrev pub invariant-links_lent-loop-link : goal.invariant-links_lent-loop-link
invariant-links_lent-loop-link l = links_lent l.lent (take l.link-index l.links) ≡ true
