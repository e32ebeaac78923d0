use Rattle.std.proofs.Common.{◌≡◌, ◌≤◌, drop, length}
use Rattle.kql_keys.specs.TextKeys.{number_of}
use Rattle.kql_keys.proofs.text_key.number_of.Given as goal

-- the number of the bytes at the end so far
abbrev pub invariant-loop-left : goal.invariant-loop-left
invariant-loop-left l = (l.left ≤ length l.bytes) × (l.number ≡ number_of (drop l.left l.bytes))

abbrev pub decreases-loop-left : goal.decreases-loop-left
decreases-loop-left l = l.left
