use Rattle.std.proofs.Common.{◌-◌, ◌≤◌, length}
use Rattle.kql_syntax.specs.Grammar.{hint}
use Rattle.kql_syntax.proofs.ReadingLaws.{Ahead}
use Rattle.kql_operators.proofs.parts.hints.Given as goal

abbrev pub invariant-chain : goal.invariant-chain
invariant-chain l = record { order : l.fn.at ≤ l.end; within : l.end ≤ length l.ts; ahead : Ahead (hint) l.ts l.fn.at l.end l.more }

abbrev pub decreases-chain : goal.decreases-chain
decreases-chain l = length l.ts - l.end
