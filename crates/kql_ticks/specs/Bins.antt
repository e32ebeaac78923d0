-- Bins of one size, side by side over the whole numbers.
use Rattle.std.specs.Prelude.{◌≡◌, Option, None, if◌then◌else◌, ℤ, ◌+ℤ◌, ◌-ℤ◌, ◌*ℤ◌, ◌<ℤ◌, ◌≤ℤ◌}
use Rattle.std.specs.Int.{int_rem_euclid, is_positive}
use Rattle.kql_ticks.specs.Ranges.{fit}

-- x less how far it lies above the start of its bin, where one bin starts at f and each has the size s
abbrev pub bin_at : ℤ → ℤ → ℤ → Option ℤ
bin_at x s f = if is_positive s then fit (x -ℤ int_rem_euclid (x -ℤ f) s) else None

-- r is the greatest f + k * s that is not above x
pub record IsBin (x s f r : ℤ) : Type 0 where
  pub k : ℤ
  pub start : r ≡ f +ℤ k *ℤ s
  pub below : r ≤ℤ x
  pub next : x <ℤ (r +ℤ s)
