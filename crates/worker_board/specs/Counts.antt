use Rattle.std.specs.Prelude.{ℕ, nat_lt, ◌==◌, min, List, [], ◌∷◌, length, count_by, if◌then◌else◌}
use Rattle.board_core.specs.declared.events.Claim.{Claim}
use Rattle.worker_board.specs.declared.known.Known.{Known}

-- 1 for a number below n, and 0 for every other
unfoldable pub once_below : ℕ → ℕ → ℕ
once_below x n = if nat_lt x n then 1 else 0

-- how often a number stands in a list
abbrev pub times : ℕ → List ℕ → ℕ
times x xs = count_by (λ n. n == x) xs

-- how many claims are of this piece
abbrev pub times_claimed : ℕ → List Claim → ℕ
times_claimed piece claims = count_by (λ c. c.piece == piece) claims

-- how many claims are this worker's
abbrev pub claims_by : ℕ → List Claim → ℕ
claims_by worker claims = count_by (λ c. c.worker == worker) claims

-- the least number of a list that has one
abbrev pub least : List ℕ → ℕ
least [] = 0
least (x ∷ []) = x
least (x ∷ (y ∷ ys)) = min x (least (y ∷ ys))

-- of one view: how often it holds a worker's number, and has claimed a piece
abbrev pub times_held : ℕ → Known → ℕ
times_held worker view = times worker view.numbers

abbrev pub times_taken : ℕ → Known → ℕ
times_taken piece view = times_claimed piece view.claims

-- how many numbers, claims, marks of the end and stop marks a view has
abbrev pub number_count : Known → ℕ
number_count view = length view.numbers

abbrev pub claim_count : Known → ℕ
claim_count view = length view.claims

abbrev pub mark_count : Known → ℕ
mark_count view = length view.ended

abbrev pub stop_count : Known → ℕ
stop_count view = view.stops
