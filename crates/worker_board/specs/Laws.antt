use Rattle.std.specs.Prelude.{◌≡◌, ◌≢◌, ℕ, ◌+◌, ◌<◌, ◌≤◌, ◌⊎◌, List, [], length, sum_by}
use mathlib.Core.Option.{some}
use lib.ListN.{get_elem?}
use Rattle.worker_board.specs.declared.known.Size.{Size}
use Rattle.worker_board.specs.declared.known.Known.{Known}
use Rattle.worker_board.specs.Counts.{times, claims_by, times_held, times_taken, mark_count}

-- one view alone has it, and once
pub record IsInOne (count : Known → ℕ) (views : List Known) : Type 0 where
  pub place : ℕ
  pub view : Known
  pub there : get_elem? views place ≡ some view
  pub once : count view ≡ 1
  pub alone : (other : ℕ) (v : Known) → other ≢ place → get_elem? views other ≡ some v → count v ≡ 0

-- no view has it
abbrev pub IsInNone : (Known → ℕ) → List Known → Type 0
IsInNone count views = (place : ℕ) (v : Known) → get_elem? views place ≡ some v → count v ≡ 0

abbrev pub HasStopMark : List Known → Type 0
HasStopMark views = (place : ℕ) × (v : Known) × (get_elem? views place ≡ some v) × (0 < v.stops)

-- between any two steps, where `next` is the number that is drawn next and `stop` the stop word
pub record IsLawful (size : Size) (next stop : ℕ) (views : List Known) : Type 0 where
  -- each piece that was drawn is claimed in one view, once, and no other number is
  pub drawn : (piece : ℕ) → piece < next → piece < size.pieces → IsInOne (times_taken piece) views
  pub later : (piece : ℕ) → (next ≤ piece) ⊎ (size.pieces ≤ piece) → IsInNone (times_taken piece) views
  -- each worker's number is in one view, once, and no other number is
  pub seated : (worker : ℕ) → worker < size.workers → IsInOne (times_held worker) views
  pub unknown : (worker : ℕ) → size.workers ≤ worker → IsInNone (times_held worker) views
  -- a claim or a mark stands in the view that holds its worker's number, and a worker has one mark at most
  pub claims :
      (place worker : ℕ) (v : Known) → get_elem? views place ≡ some v → 0 < claims_by worker v.claims
      → times worker v.numbers ≡ 1
  pub marks :
      (place worker : ℕ) (v : Known) → get_elem? views place ≡ some v → 0 < times worker v.ended
      → (times worker v.ended ≡ 1) × (times worker v.numbers ≡ 1)
  -- a view without a number is spent: it holds nothing
  pub spent :
      (place : ℕ) (v : Known) → get_elem? views place ≡ some v → v.numbers ≡ []
      → (v.claims ≡ []) × (v.ended ≡ []) × (v.stops ≡ 0)
  -- a worker that was told the end was told so when all pieces were drawn, and no number is drawn but by a claim or
  -- a mark
  pub past : (place : ℕ) (v : Known) → get_elem? views place ≡ some v → 0 < length v.ended → size.pieces < next
  pub bounded : next ≤ size.pieces + sum_by mark_count views
  -- the stop word is 1 where a view has the stop mark, and 0 where none has
  pub stopped : HasStopMark views → stop ≡ 1
  pub unstopped : (HasStopMark views → ⊥) → stop ≡ 0
