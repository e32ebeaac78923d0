use Rattle.std.proofs.Common.{◌-◌, ◌≤◌, ◌<◌, length}
use Rattle.kql_syntax.specs.Grammar.{pattern}
use Rattle.kql_syntax.proofs.ReadingLaws.{SomeOf}
use Rattle.kql_operators.proofs.parts.patterns.Given as goal

abbrev pub invariant-list : goal.invariant-list
invariant-list l = record { order : l.fn.at < l.end; within : l.end ≤ length l.ts; run : SomeOf (pattern) l.ts l.fn.at l.end l.items }

abbrev pub decreases-list : goal.decreases-list
decreases-list l = length l.ts - l.end
