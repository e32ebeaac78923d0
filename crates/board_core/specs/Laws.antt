use Rattle.std.specs.Prelude.{◌≡◌, ◌≢◌, ℕ, ◌<◌, ◌≤◌, true, false, ◌==◌, Some, None, IsSome, length, sum_by, count_by, Contains, ◌⊎◌}
use Rattle.board_core.specs.declared.events.Event.{Event}
use Rattle.board_core.specs.declared.events.Event.TheVariants.{Claim, Fill}
use Rattle.board_core.specs.State.{State, worker_count, piece_count, claims_of, open_claim_of, is_told, slot_of}

-- how often a piece stands in the claims of a worker
abbrev pub times_claimed : State → ℕ → ℕ → ℕ
times_claimed s worker piece = count_by (λ p. p == piece) (claims_of s worker)

-- how many claims there are, of all workers together
abbrev pub claim_count : State → ℕ
claim_count s = sum_by length s.claims

-- the piece stands in the claims of one worker alone, and there once
pub record IsClaimedOnce (s : State) (piece : ℕ) : Type 0 where
  pub worker : ℕ
  pub known : worker < worker_count s
  pub once : times_claimed s worker piece ≡ 1
  pub alone : (other : ℕ) → other ≢ worker → times_claimed s other piece ≡ 0

-- some worker claimed the piece
abbrev pub IsClaimed : State → ℕ → Type 0
IsClaimed s piece = (worker : ℕ) × (worker < worker_count s) × Contains (claims_of s worker) piece

-- some worker has the piece open
abbrev pub IsOpen : State → ℕ → Type 0
IsOpen s piece = (worker : ℕ) × (worker < worker_count s) × (open_claim_of s worker ≡ Some piece)

-- there is a worker, each was told the end, and none has a claim open
pub record IsOver (s : State) : Type 0 where
  pub workers : 0 < worker_count s
  pub told : (worker : ℕ) → worker < worker_count s → is_told s worker ≡ true
  pub closed : (worker : ℕ) → worker < worker_count s → open_claim_of s worker ≡ None

-- what holds after every list of events
pub record IsLawful (s : State) : Type 0 where
  -- each number below `next` stands in exactly one claim list, once, and no other number in any
  pub once : (piece : ℕ) → piece < s.next → IsClaimedOnce s piece
  pub later : (piece worker : ℕ) → s.next ≤ piece → times_claimed s worker piece ≡ 0
  -- `next` is the number of claims, and at most the number of pieces
  pub counted : s.next ≡ claim_count s
  pub within : s.next ≤ piece_count s
  -- a slot is empty or holds its own piece, and that piece was claimed
  pub own : (piece held : ℕ) → slot_of s piece ≡ Some held → held ≡ piece
  pub filled : (piece : ℕ) → IsSome (slot_of s piece) → IsClaimed s piece
  -- a piece that is claimed and not filled is open, and what is open was claimed
  pub pending : (piece : ℕ) → piece < s.next → IsSome (slot_of s piece) ⊎ IsOpen s piece
  pub opened : (piece : ℕ) → IsOpen s piece → IsClaimed s piece
  -- who was told the end was told so when all pieces were claimed, and in the end all slots are filled
  pub last : (worker : ℕ) → is_told s worker ≡ true → s.next ≡ piece_count s
  pub whole : IsOver s → (piece : ℕ) → piece < piece_count s → slot_of s piece ≡ Some piece

-- a worker who may claim does so, and all pieces are claimed
pub record IsClaimAtTheEnd (s : State) (event : Event) : Type 0 where
  pub worker : ℕ
  pub claims : event ≡ Claim worker
  pub known : worker < worker_count s
  pub closed : open_claim_of s worker ≡ None
  pub going : is_told s worker ≡ false
  pub none_left : s.next ≡ piece_count s

-- a claim by no worker, with a claim open or after the end, or a fill with none open
abbrev pub IsOutOfTurn : State → Event → Type 0
IsOutOfTurn s (Claim worker) = (worker_count s ≤ worker) ⊎ (IsSome (open_claim_of s worker) ⊎ (is_told s worker ≡ true))
IsOutOfTurn s (Fill worker) = open_claim_of s worker ≡ None
