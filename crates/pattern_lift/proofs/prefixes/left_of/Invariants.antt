use Rattle.std.proofs.Common.{◌≡◌, ℕ, List, filter, not, take}
use Rattle.pattern_lift.specs.Calls.{is_among}
use Rattle.pattern_lift.proofs.prefixes.left_of.Given as goal

abbrev pub invariant-names : goal.invariant-names
invariant-names l = l.kept ≡ filter (λ (n : List ℕ). not (is_among l.set n)) (take l.name-index l.names)
