use Rattle.std.proofs.Common.{◌≡◌, ◌≤◌, ◌+◌, length}
use Rattle.kql_parser.specs.declared.count.Next.TheVariants as next
use Rattle.kql_parser.specs.Operators.{one_too_many}
use Rattle.kql_parser.proofs.count.one_too_many.Given as goal

abbrev pub invariant-left : goal.invariant-left
invariant-left l = record { same : one_too_many l.at l.named l.next l.left ≡ one_too_many 0 0 next.Free l.ts; within : l.at + length l.left ≡ length l.ts; few : l.named ≤ 256 }

abbrev pub decreases-left : goal.decreases-left
decreases-left l = length l.left
