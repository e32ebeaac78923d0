-- How many readers a live table may have.
use Rattle.std.specs.Prelude.{◌<◌, ◌≤◌, ℕ}

abbrev pub readers_top : ℕ
readers_top = 8

abbrev pub readers_ungiven : ℕ
readers_ungiven = 2

abbrev pub AreReaders : ℕ → Type 0
AreReaders n = (0 < n) × (n ≤ readers_top)
