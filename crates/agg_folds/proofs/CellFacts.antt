-- Counts that longs are.
use Rattle.std.proofs.Common.{◌≡◌, ℕ, ℤ, refl, arith}
use Rattle.std.specs.Prelude.{pos, negsuc, ◌<ℤ◌}
use Rattle.kql_cells.specs.declared.value.Value.TheVariants as value
use Rattle.kql_meaning.specs.Windows.{count_in}

pub count-below : (n : ℤ) → n <ℤ pos 0 → count_in (value.Long n) ≡ 0
unfolding count_in
count-below (pos n) l = absurd (grind arith)
count-below (negsuc n) l = refl

pub count-pos : (n : ℕ) → count_in (value.Long (pos n)) ≡ n
unfolding count_in
count-pos n = refl

pub ruleset count_facts = (count-below, count-pos)
