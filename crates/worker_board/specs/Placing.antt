use Rattle.std.specs.Prelude.{◌≡◌, ℕ, ◌<◌, ◌⊎◌, List, All, length, Option, Some}
use mathlib.Core.Option.{some}
use lib.ListN.{get_elem?}
use Rattle.worker_board.specs.declared.work.PieceResult.{PieceResult}
use Rattle.worker_board.specs.Results.{IsRight, IsNamedBelow, times_made}

-- the slots, while some results are still to be put into them
pub record IsFilling {T : Type 0} (answer : ℕ → T) (pieces : ℕ)
    (slots : List (Option T)) (results : List (PieceResult T)) : Type 0 where
  pub count : length slots ≡ pieces
  -- a slot is filled, or a result that is left is of its piece
  pub filled :
      (piece : ℕ) → piece < pieces
      → (get_elem? slots piece ≡ some (Some (answer piece))) ⊎ (0 < times_made piece results)
  pub below : All (IsNamedBelow pieces) results
  pub right : All (IsRight answer) results
