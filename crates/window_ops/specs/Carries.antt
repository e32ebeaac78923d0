-- What the rows behind a range of rows need to know of it for `row_cumsum` and `row_number`.
use Rattle.std.specs.Prelude.{ℕ, zero, suc, ◌+◌, Bool, false, not, ◌||◌, List, filter, fold, length, if◌then◌else◌, ℤ, pos, ◌+ℤ◌}
use Rattle.std.specs.List.{list_any}
use Rattle.kql_scalar.specs.Rows.{rows}

-- Whether a run begins in a range, the sum over its last run, and how many rows that has.
pub record Carried : Type 0 where
  pub restarts : Bool
  pub sum : ℤ
  pub count : ℕ

-- That of no row.
abbrev pub no_rows : Carried
no_rows = record { restarts = false; sum = pos 0; count = 0 }

-- The rows of a range from the last one at which a run begins, and all of them where none begins: those behind which none begins.
unfoldable pub last_run : (ℕ → Bool) → ℕ → ℕ → List ℕ
last_run begins from to = filter (λ i. not (list_any begins (rows (i + 1) to))) (rows from to)

-- The carry of a range.
unfoldable pub carried : (ℕ → Bool) → (ℕ → ℤ) → ℕ → ℕ → Carried
carried begins adds from to = record {
  restarts = list_any begins (rows from to);
  sum = fold (λ n i. n +ℤ adds i) (pos 0) (last_run begins from to);
  count = length (last_run begins from to);
}

-- That of two ranges, one behind the other.
unfoldable pub joined : Carried → Carried → Carried
joined a b = if b.restarts then b else record { restarts = a.restarts; sum = a.sum +ℤ b.sum; count = a.count + b.count }

-- The carry of a range with one row more, from whether a run begins at that row, and what the row adds.
unfoldable pub stepped : Bool → ℤ → Carried → Carried
stepped begins n c = record {
  restarts = c.restarts || begins;
  sum = (if begins then pos 0 else c.sum) +ℤ n;
  count = (if begins then 0 else c.count) + 1;
}

-- The carry of so many rows more, from that of the rows before them.
unfoldable pub run_on : (ℕ → Bool) → (ℕ → ℤ) → Carried → ℕ → Carried
run_on begins adds c zero = c
run_on begins adds c (suc i) = stepped (begins i) (adds i) (run_on begins adds c i)
