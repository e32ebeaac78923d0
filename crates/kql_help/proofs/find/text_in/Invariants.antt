use Rattle.std.proofs.Common.{◌≡◌, map, length}
use Rattle.kql_help.specs.Topics.{text_of, seen}
use Rattle.kql_help.proofs.find.text_in.Given as goal

-- the topics that are left have the answer of all
abbrev pub invariant-loop-left : goal.invariant-loop-left
invariant-loop-left l = text_of (map seen l.left) l.fn.name ≡ text_of (map seen l.fn.topics) l.fn.name

abbrev pub decreases-loop-left : goal.decreases-loop-left
decreases-loop-left l = length l.left
