use Rattle.std.specs.Prelude.{◌≡◌, ℕ, ◌+◌, ◌^◌, ◌<◌, ◌≤◌, min, List, length, sum_by, slice_index}
use mathlib.Core.Option.{some}
use lib.ListN.{get_elem?}
use Rattle.atomic_table.specs.Table.{State}
use Rattle.worker_board.specs.declared.known.Size.{Size}
use Rattle.worker_board.specs.declared.known.Known.{Known}
use Rattle.worker_board.specs.Counts.{once_below, times, claims_by, times_held, times_taken}
use Rattle.worker_board.specs.Counts.{number_count, claim_count, mark_count, stop_count}

-- what holds of one view
pub record IsSound (size : Size) (view : Known) : Type 0 where
  pub same_size : 0 < length view.numbers → (view.size.pieces ≡ size.pieces) × (view.size.workers ≡ size.workers)
  -- a claim or a mark is of a worker whose number the view holds, and no worker has two marks
  pub claims_held : (w : ℕ) → 0 < claims_by w view.claims → 0 < times w view.numbers
  pub marks_held : (w : ℕ) → times w view.ended ≤ times w view.numbers
  pub marks_few : length view.ended ≤ length view.numbers
  -- a view without a number is spent: it holds nothing
  pub spent : length view.numbers ≡ 0 → (length view.claims ≡ 0) × (length view.ended ≡ 0) × (view.stops ≡ 0)

-- The rule: `next` is the number that is drawn next, `stop` is the stop word, and the views are those of all seats
pub record IsKept (size : Size) (next stop : ℕ) (views : List Known) : Type 0 where
  pub sizes : (size.pieces < 2 ^ 32) × (size.workers < 2 ^ 32)
  -- each worker's number stands in one view, once, and no other number in any
  pub numbers : (w : ℕ) → sum_by (times_held w) views ≡ once_below w size.workers
  pub numbers_counted : sum_by number_count views ≡ size.workers
  -- each number below both `next` and the number of pieces stands in the claims of one view, once, and no other number
  -- in any
  pub pieces : (p : ℕ) → sum_by (times_taken p) views ≡ once_below p (min next size.pieces)
  pub pieces_counted : sum_by claim_count views ≡ min next size.pieces
  -- `next` is at most the number of pieces and marks together, and above that of the pieces where a mark stands
  pub bounded : next ≤ size.pieces + sum_by mark_count views
  pub past : 0 < sum_by mark_count views → size.pieces < next
  -- the stop word is 1 where a view has a stop mark, and 0 where none has
  pub unstopped : sum_by stop_count views ≡ 0 → stop ≡ 0
  pub stopped : 0 < sum_by stop_count views → stop ≡ 1
  pub each : (j : ℕ) (view : Known) → get_elem? views j ≡ some view → IsSound size view

-- the table of a board has two words: `next` and `stop`
pub record Keeps {S : Type 0} (size : Size) (s : State S Known) : Type 0 where
  pub two_words : length s.words ≡ 2
  pub kept : IsKept size (slice_index s.words 0) (slice_index s.words 1) s.views
