use Rattle.std.proofs.Common.{◌≡◌, length, not}
use Rattle.std.specs.List.{list_all}
use Rattle.pattern_lift.specs.Marks.{begins_with}
use Rattle.pattern_places.proofs.marks.are_unmarked.Given as goal

abbrev pub invariant-names : goal.invariant-names
invariant-names l = list_all (λ n. not (begins_with l.marks n)) l.left ≡ list_all (λ n. not (begins_with l.fn.marks n)) l.fn.names

abbrev pub decreases-names : goal.decreases-names
decreases-names l = length l.left
