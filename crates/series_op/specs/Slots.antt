-- The rows that stand in the bins of a group.
use Rattle.std.specs.Prelude.{ℕ, List, Option, None, Some, fold, replicate, slice_index_or, slice_set}

-- A row into the slot at a place, where there is one.
unfoldable pub put : Option ℕ → List (Option ℕ) → ℕ → List (Option ℕ)
put None slots r = slots
put (Some k) slots r = slice_set slots k (Some r)

-- For each of so many slots the last of these rows whose place it is, where one is.
unfoldable pub slots_of : List (Option ℕ) → ℕ → List ℕ → List (Option ℕ)
slots_of places count rows = fold (λ slots r. put (slice_index_or places r None) slots r) (replicate count None) rows
