use Rattle.std.proofs.Common.{◌≡◌, ◌≤◌, ◌∷◌, ◌++◌, ℕ, [], drop, get_or, length, reverse, true}
use Rattle.std.specs.Prelude.{nat_le, ◌||◌}
use Rattle.kql_plain.specs.Readings.{last_readings, plans_name}
use Rattle.kql_plain.proofs.readings.last_readings.Given as goal

-- of the plans from here on, the lets that they name are marked, and the flags stand from the last one
abbrev pub invariant-lets : goal.invariant-lets
invariant-lets l = record {
  within : l.left ≤ length l.lets;
  marked : (i : ℕ) → get_or l.named.items i true ≡ (nat_le (length l.lets) i || plans_name i (drop l.left l.lets ++ l.main ∷ []));
  flags : reverse l.last ≡ last_readings (length l.lets) (drop l.left l.lets ++ l.main ∷ []);
}

abbrev pub decreases-lets : goal.decreases-lets
decreases-lets l = l.left
