use Rattle.std.proofs.Common.{◌≡◌, ◌≤◌, ◌+◌, length}
use Rattle.kql_syntax.specs.Parsing.{too_deep}
use Rattle.kql_syntax.proofs.parse.too_deep.Given as goal

abbrev pub invariant-left : goal.invariant-left
invariant-left l = record { same : too_deep l.next l.unclosed l.left ≡ too_deep l.fn.at 0 l.fn.ts; within : l.next + length l.left ≡ l.fn.at + length l.fn.ts; after : l.fn.at ≤ l.next; few : l.unclosed ≤ 64 }

abbrev pub decreases-left : goal.decreases-left
decreases-left l = length l.left
