-- Groups of rows that stand behind others.
use Rattle.std.specs.Prelude.{◌≡◌, ◌≢◌, ◌≤◌, ◌+◌, ℕ, List, [], ◌∷◌, ◌++◌, All, AllPairs, drop, length, slice_index_or, slice_set, nat_lt, if◌then◌else◌}
use Rattle.kql_cells.specs.Keys.{same_keys}
use Rattle.kql_cells.specs.declared.value.Value.{Value}
use Rattle.kql_keys.specs.Numbers.{distinct, numbers_of}
use Rattle.agg_folds.specs.States.{place_in, with_fold}
use Rattle.summarize_pieces.specs.Pieces.{GroupKept, Grouped}

-- What is kept of the rows of two groups of which the second stands behind the first. Where the row that is chosen of both does not stand
-- among as many as the first has, it is that of the second.
unfoldable pub with_kept : GroupKept → GroupKept → GroupKept
with_kept a b = record {
  kept = with_fold a.kept b.kept;
  further = if nat_lt (place_in (with_fold a.kept b.kept).state) a.kept.count then a.further else b.further;
}

-- One group more, by its number: where that is the number of one of the first groups, it is joined to that one, and else it stands last.
unfoldable pub with_group : ℕ → List GroupKept → ℕ → GroupKept → List GroupKept
with_group first states n k = if nat_lt n first then slice_set states n (with_kept (slice_index_or states n k) k) else states ++ k ∷ []

-- Groups more, by their numbers.
unfoldable pub with_groups : ℕ → List GroupKept → List ℕ → List GroupKept → List GroupKept
with_groups first states [] more = states
with_groups first states (n ∷ ns) [] = states
with_groups first states (n ∷ ns) (k ∷ ks) = with_groups first (with_group first states n k) ns ks

-- The same for each call.
unfoldable pub joined_states : ℕ → List (List GroupKept) → List ℕ → List (List GroupKept) → List (List GroupKept)
joined_states first [] ns more = []
joined_states first (s ∷ states) ns [] = []
joined_states first (s ∷ states) ns (m ∷ more) = with_groups first s ns m ∷ joined_states first states ns more

-- The numbers of the keys of `b` among those of `a` and, behind them, those of `b` that `a` has not.
unfoldable pub further_numbers : List (List Value) → List (List Value) → List ℕ
further_numbers a b = drop (length a) (numbers_of same_keys (a ++ b))

-- The groups of `a`, and behind them those of `b` that `a` has not; of a key that both have, what is kept of both is joined.
unfoldable pub joined_groups : Grouped → Grouped → Grouped
joined_groups a b = record {
  count = a.count + b.count;
  width = a.width;
  keys = distinct same_keys (a.keys ++ b.keys);
  calls = a.calls;
  states = joined_states (length a.keys) a.states (further_numbers a.keys b.keys) b.states;
}

-- Numbers of which none stands there twice.
pub record Differ (numbers : List ℕ) : Type 0 where
  pub apart : AllPairs (λ m n. m ≢ n) numbers

-- For each call a state of each of so many groups, which took at most so many values.
pub record AllFew (groups count : ℕ) (states : List (List GroupKept)) : Type 0 where
  pub each : All (λ s. (length s ≡ groups) × All (λ k. k.kept.count ≤ count) s) states
