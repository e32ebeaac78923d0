-- what contracts see of a board, of a seat, and of what `close` answers
use Rattle.std.specs.Prelude.{◌≡◌, ℕ, ◌<◌, min, List, length, map}
use Rattle.std.specs.List.{flat_map, range_with_len}
use Rattle.atomic_table.specs.Seated.{TableId}
use Rattle.board_core.specs.declared.events.Claim.{Claim}
use Rattle.board_core.specs.State.{first, run}
use Rattle.board_core.specs.Replay.{events_of, turns_of, IsBegunWith, IsFinishedWith, NamesEachOnce}
use Rattle.worker_board.specs.declared.known.Size.{Size}
use Rattle.worker_board.specs.declared.known.Known.{Known}
use Rattle.worker_board.specs.Counts.{times}
use Rattle.worker_board.specs.Moves.{only}

pub record BoardView : Type 0 where
  pub id : TableId
  pub size : Size

pub record SeatView : Type 0 where
  pub board : TableId
  pub known : Known

pub record WholeClaims : Type 0 where
  pub size : Size
  pub claims : List Claim

-- the seat is one of this board's
pub record IsOf (board : BoardView) (seat : SeatView) : Type 0 where
  pub table : seat.board ≡ board.id
  pub pieces : seat.known.size.pieces ≡ board.size.pieces
  pub workers : seat.known.size.workers ≡ board.size.workers

-- this seat, or one that was joined into it, was told the end
abbrev pub IsDone : SeatView → Type 0
IsDone seat = 0 < length seat.known.ended

abbrev pub HasStopped : SeatView → Type 0
HasStopped seat = 0 < seat.known.stops

-- the seat holds the number of each worker
abbrev pub HoldsEach : BoardView → SeatView → Type 0
HoldsEach board seat = (w : ℕ) → w < board.size.workers → 0 < times w seat.known.numbers

-- it holds as many numbers as there are workers, and is done
abbrev pub IsWhole : BoardView → SeatView → Type 0
IsWhole board seat = (length seat.known.numbers ≡ board.size.workers) × IsDone seat

-- the seat of one worker, which has no claim and no mark
abbrev pub seat_of : BoardView → ℕ → SeatView
seat_of board worker = record { board = board.id; known = only board.size worker }

-- the seats of the workers below n, in order
abbrev pub seats_of : BoardView → ℕ → List SeatView
seats_of board n = map (seat_of board) (range_with_len 0 n)

-- each piece is claimed once, by one of the workers
abbrev pub NamesEach : Size → List Claim → Type 0
NamesEach size claims = NamesEachOnce claims size.pieces size.workers

-- the core that runs on the events of the claims has these claims in the end, every slot filled and every worker told
-- the end
abbrev pub Replays : Size → List Claim → Type 0
Replays size claims =
    IsFinishedWith claims size.pieces size.workers
    (run (events_of claims size.pieces size.workers) (first size.pieces size.workers))

-- the claims of all these views
abbrev pub claims_in : List Known → List Claim
claims_in views = flat_map (λ view. view.claims) views

-- the core that runs on the events of these claims has drawn as many pieces as the board's counter tells, and has these
-- claims
abbrev pub ReplaysSoFar : Size → ℕ → List Known → Type 0
ReplaysSoFar size next views =
    IsBegunWith (claims_in views) (min next size.pieces) size.pieces size.workers
    (run (turns_of (claims_in views) (min next size.pieces)) (first size.pieces size.workers))
