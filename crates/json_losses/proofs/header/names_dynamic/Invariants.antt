use Rattle.std.proofs.Common.{◌≡◌, ◌≤◌, ◌<◌, ◌==◌, ℕ, false, length, get_or}
use Rattle.json_losses.proofs.header.names_dynamic.Given as goal

abbrev pub invariant-back : goal.invariant-back
invariant-back l = (l.end ≤ length l.field) × ((k : ℕ) → l.end ≤ k → k < length l.field → (get_or l.field k 0 == 58) ≡ false)

abbrev pub decreases-back : goal.decreases-back
decreases-back l = l.end
