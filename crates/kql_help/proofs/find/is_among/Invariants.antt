use Rattle.std.proofs.Common.{◌≡◌, map, length}
use Rattle.kql_help.specs.Topics.{has_name}
use Rattle.kql_help.proofs.find.is_among.Given as goal

-- a name is among all where it is among those that are left
abbrev pub invariant-loop-left : goal.invariant-loop-left
invariant-loop-left l = has_name l.fn.name (map (λ n. n.now) l.left) ≡ has_name l.fn.name (map (λ n. n.now) l.fn.names)

abbrev pub decreases-loop-left : goal.decreases-loop-left
decreases-loop-left l = length l.left
