use Rattle.std.proofs.Common.{◌≡◌, take, true}
use Rattle.std.specs.List.{list_all}
use Rattle.pattern_laws.specs.Liftable.{is_readable}
use Rattle.pattern_laws.proofs.ToldSteps.{links_readable}
use Rattle.pattern_places.proofs.expressions.+is_readable.Given as goal

abbrev pub invariant-all_readable-loop-e : goal.invariant-all_readable-loop-e
invariant-all_readable-loop-e l = list_all (is_readable l.marks) (take l.e-index l.es) ≡ true

abbrev pub invariant-links_readable-loop-link : goal.invariant-links_readable-loop-link
invariant-links_readable-loop-link l = links_readable l.marks (take l.link-index l.links) ≡ true
