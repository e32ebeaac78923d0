use Rattle.std.proofs.Common.{map}
use Rattle.kql_near.specs.Nearest.{edits, few}
use Rattle.kql_near.proofs.Standing.{Standing}
use Rattle.kql_near.proofs.near.nearest.Given as goal

-- of the names that were looked at, the first of the nearest is found
abbrev pub invariant-loop-i : goal.invariant-loop-i
invariant-loop-i l = Standing (few l.fn.word) (map (λ n. edits l.fn.word n.now) l.fn.names) l.i l.limit l.found
