use Rattle.std.proofs.Common.{◌≡◌, ◌<◌, ◌≤◌, drop, length, Some}
use Rattle.kql_ticks.proofs.NumberLaws.{shared}
use Rattle.kql_ticks.proofs.numbers.share.Given as goal

abbrev pub invariant-digits : goal.invariant-digits
invariant-digits l = (shared l.unit (drop l.i l.t) ≡ Some l.n) × (l.n < l.unit) × (l.i ≤ length l.t)

abbrev pub decreases-digits : goal.decreases-digits
decreases-digits l = l.i
