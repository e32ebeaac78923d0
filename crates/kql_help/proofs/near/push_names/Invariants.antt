use Rattle.std.proofs.Common.{◌≡◌, ◌++◌, map, length}
use Rattle.kql_near.specs.Nearest.{texts}
use Rattle.kql_help.specs.Topics.{names_in, seen}
use Rattle.kql_help.proofs.near.push_names.Given as goal

-- the names so far, and those of the topics that are left, are all
abbrev pub invariant-loop-left : goal.invariant-loop-left
invariant-loop-left l = texts l.names.items ++ names_in (map seen l.left) ≡ texts l.fn.names.items ++ names_in (map seen l.fn.topics)

abbrev pub decreases-loop-left : goal.decreases-loop-left
decreases-loop-left l = length l.left
