use Rattle.std.proofs.Common.{◌≡◌, ◌≤◌, ◌<◌, ◌==◌, ℕ, false, length, get_or}
use Rattle.kql_shell.proofs.names.split_last.Given as goal

abbrev pub invariant-back : goal.invariant-back
invariant-back l = (l.end ≤ length l.text) × ((k : ℕ) → l.end ≤ k → k < length l.text → (get_or l.text k 0 == l.byte) ≡ false)

abbrev pub decreases-back : goal.decreases-back
decreases-back l = l.end
