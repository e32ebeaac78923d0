-- the results of the pieces that were claimed, and how workers leave
use Rattle.std.specs.Prelude.{◌≡◌, ℕ, ◌<◌, ◌==◌, ◌⊎◌, List, [], map, length, count_by, Option, Some}
use Rattle.std.specs.List.{range_with_len}
use Rattle.board_core.specs.declared.events.Claim.{Claim}
use Rattle.worker_board.specs.Views.{BoardView, SeatView, IsOf, IsDone, HasStopped}
use Rattle.worker_board.specs.declared.work.PieceResult.{PieceResult}
use Rattle.worker_board.specs.declared.work.Desk.{Desk}

-- a seat of this board for one worker, which has claimed nothing
pub record IsReady (board : BoardView) (seat : SeatView) : Type 0 where
  pub of_board : IsOf board seat
  pub one_number : length seat.known.numbers ≡ 1
  pub no_claim : seat.known.claims ≡ []
  pub no_mark : seat.known.ended ≡ []

-- a worker's desk before it begins
abbrev pub IsWaiting : {T : Type 0} → BoardView → Desk T → Type 0
IsWaiting board desk = IsReady board desk.seat × (desk.results.items ≡ [])

-- how many results are of this piece
abbrev pub times_made : {T : Type 0} → ℕ → List (PieceResult T) → ℕ
times_made piece results = count_by (λ r. r.piece == piece) results

-- each piece below n has one result
abbrev pub NamesAll : {T : Type 0} → ℕ → List (PieceResult T) → Type 0
NamesAll n results = (piece : ℕ) → piece < n → times_made piece results ≡ 1

abbrev pub IsNamedBelow : {T : Type 0} → ℕ → PieceResult T → Type 0
IsNamedBelow n r = r.piece < n

module _ {T : Type 0} (answer : ℕ → T) where
  -- the answers of all pieces below n, in order
  abbrev pub answers : ℕ → List T
  answers n = map answer (range_with_len 0 n)

  -- and each in a slot
  abbrev pub filled : ℕ → List (Option T)
  filled n = map (λ piece. Some (answer piece)) (range_with_len 0 n)

  -- the results of the claims, in their order
  abbrev pub result_of : Claim → PieceResult T
  result_of claim = record { piece = claim.piece; value = answer claim.piece }

  abbrev pub results_of : List Claim → List (PieceResult T)
  results_of claims = map result_of claims

  abbrev pub IsRight : PieceResult T → Type 0
  IsRight r = r.value ≡ answer r.piece

  -- the seat has stopped, or it is done and each of its claims has its result
  pub record Leaves (board : BoardView) (desk : Desk T) : Type 0 where
    pub seat : IsOf board desk.seat
    pub left : HasStopped desk.seat ⊎ (IsDone desk.seat × (desk.results.items ≡ results_of desk.seat.known.claims))

  -- what one worker leaves: no result where it has stopped
  abbrev pub LeavesAlone : BoardView → Desk T → Type 0
  LeavesAlone board desk =
      Leaves board desk
      × (length desk.seat.known.numbers ≡ 1)
      × (HasStopped desk.seat → desk.results.items ≡ [])
