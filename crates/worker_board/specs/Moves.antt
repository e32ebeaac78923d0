-- what a seat knows at first, and after each kind of step
use Rattle.std.specs.Prelude.{◌≡◌, ℕ, ◌+◌, ◌-◌, List, [], ◌∷◌, ◌++◌, length}
use Rattle.std.specs.List.{range_with_len}
use Rattle.worker_board.specs.declared.known.Size.{Size}
use Rattle.worker_board.specs.declared.known.Known.{Known}
use Rattle.worker_board.specs.Counts.{least}

-- these numbers, no claim and no mark
abbrev pub newly : Size → List ℕ → Known
newly size numbers = record { size = size; numbers = numbers; claims = []; ended = []; stops = 0 }

-- the first seat holds every worker's number
abbrev pub everyone : Size → Known
everyone size = newly size (range_with_len 0 size.workers)

-- a seat of one worker
abbrev pub only : Size → ℕ → Known
only size worker = newly size (worker ∷ [])

-- the numbers from this worker's on
abbrev pub from_worker : Size → ℕ → Known
from_worker size worker = newly size (range_with_len worker (size.workers - worker))

-- a view without a number, which holds nothing
abbrev pub spent : Known
spent = newly (record { pieces = 0; workers = 0 }) []

-- a view that has no claim and no mark
abbrev pub IsFresh : Known → Type 0
IsFresh view = (length view.claims ≡ 0) × (length view.ended ≡ 0) × (view.stops ≡ 0)

abbrev pub first_of : List ℕ → List ℕ
first_of [] = []
first_of (x ∷ xs) = x ∷ []

abbrev pub others_of : List ℕ → List ℕ
others_of [] = []
others_of (x ∷ xs) = xs

-- a seat is split: the new one has the first number, and the old one keeps the others
abbrev pub all_but_first : Known → Known
all_but_first view = record view { numbers = others_of view.numbers }

abbrev pub first_alone : Known → Known
first_alone view = newly view.size (first_of view.numbers)

-- the least worker of the seat claims a piece
abbrev pub with_claim : Known → ℕ → Known
with_claim view piece =
    record view { claims = view.claims ++ record { piece = piece; worker = least view.numbers } ∷ [] }

-- or is told the end
abbrev pub told_end : Known → Known
told_end view = record view { ended = view.ended ++ least view.numbers ∷ [] }

-- one seat takes over all that another has
abbrev pub together : Known → Known → Known
together view other =
    record view {
      numbers = view.numbers ++ other.numbers;
      claims = view.claims ++ other.claims;
      ended = view.ended ++ other.ended;
      stops = view.stops + other.stops;
    }

-- the seat gets the stop mark
abbrev pub with_stop : Known → Known
with_stop view = record view { stops = 1 }
