use Rattle.std.specs.Prelude.{◌≡◌, ℕ, ◌<◌, ◌==◌, ◌↔◌, true, Some, None, List, [], ◌∷◌, ◌++◌, map, find, count_by, All, Contains}
use Rattle.std.specs.List.{flat_map, range_with_len}
use Rattle.std.specs.List.Sorted.{IsStrictlyIncreasing}
use Rattle.std.specs.Option.{option_map_or}
use Rattle.board_core.specs.declared.events.Claim.{Claim}
use Rattle.board_core.specs.declared.events.Event.{Event}
use Rattle.board_core.specs.declared.events.Event.TheVariants.{Claim as Asks, Fill}
use Rattle.board_core.specs.State.{State, worker_count, piece_count, claims_of, open_claim_of, is_told, slot_of}

-- each piece is named once, with one of the workers, and no other piece is named
pub record NamesEachOnce (claims : List Claim) (pieces workers : ℕ) : Type 0 where
  pub once : (piece : ℕ) → piece < pieces → count_by (λ c. c.piece == piece) claims ≡ 1
  pub known : All (λ c. (c.piece < pieces) × (c.worker < workers)) claims

-- the worker that is named with a piece
abbrev pub named_worker : List Claim → ℕ → ℕ
named_worker claims piece = option_map_or (λ (c : Claim). c.worker) (find (λ c. c.piece == piece) claims) 0

-- that worker claims a piece and fills its slot
abbrev pub turn_of : List Claim → ℕ → List Event
turn_of claims piece = Asks (named_worker claims piece) ∷ Fill (named_worker claims piece) ∷ []

-- the first so many pieces in rising order, each claimed and filled
abbrev pub turns_of : List Claim → ℕ → List Event
turns_of claims drawn = flat_map (turn_of claims) (range_with_len 0 drawn)

-- all pieces in rising order, each claimed and filled, and then a claim of each worker
abbrev pub events_of : List Claim → ℕ → ℕ → List Event
events_of claims pieces workers = turns_of claims pieces ++ map Asks (range_with_len 0 workers)

-- the first so many pieces are claimed: each worker has those that are named with it, in rising order, and their slots are filled
pub record IsBegunWith (claims : List Claim) (drawn pieces workers : ℕ) (s : State) : Type 0 where
  pub pieces_kept : piece_count s ≡ pieces
  pub workers_kept : worker_count s ≡ workers
  pub claimed : s.next ≡ drawn
  pub same : (piece worker : ℕ) → Contains (claims_of s worker) piece ↔ Contains claims (record { piece = piece; worker = worker })
  pub rising : (worker : ℕ) → IsStrictlyIncreasing (claims_of s worker)
  pub filled : (piece : ℕ) → piece < drawn → slot_of s piece ≡ Some piece

-- each worker has the pieces that are named with it, in rising order, all slots are filled, and all workers were told the end
pub record IsFinishedWith (claims : List Claim) (pieces workers : ℕ) (s : State) : Type 0 where
  pub pieces_kept : piece_count s ≡ pieces
  pub workers_kept : worker_count s ≡ workers
  pub all_claimed : s.next ≡ pieces
  pub same : (piece worker : ℕ) → Contains (claims_of s worker) piece ↔ Contains claims (record { piece = piece; worker = worker })
  pub rising : (worker : ℕ) → IsStrictlyIncreasing (claims_of s worker)
  pub filled : (piece : ℕ) → piece < pieces → slot_of s piece ≡ Some piece
  pub told : (worker : ℕ) → worker < workers → is_told s worker ≡ true
  pub closed : (worker : ℕ) → worker < workers → open_claim_of s worker ≡ None
