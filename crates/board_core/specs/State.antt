use Rattle.std.specs.Prelude.{◌≡◌, ℕ, ◌+◌, Bool, true, false, not, ◌&&◌, if◌then◌else◌, nat_lt, Option, Some, None, is_none, List, [], ◌∷◌, ◌++◌, length, replicate, slice_index_or, slice_set}
use Rattle.board_core.specs.declared.events.Event.{Event}
use Rattle.board_core.specs.declared.events.Event.TheVariants.{Claim, Fill}
use Rattle.board_core.specs.declared.events.Stepped.{Stepped}
use Rattle.board_core.specs.declared.events.Stepped.TheVariants.{Claimed, Filled, Done, Ignored}

pub record State : Type 0 where
  pub next : ℕ  -- the piece that is claimed next
  pub claims : List (List ℕ)  -- of each worker the pieces that it claimed, in that order
  pub open_claims : List (Option ℕ)  -- of each worker the piece that it has claimed and not filled yet
  pub ended : List Bool  -- of each worker whether it was told the end
  pub slots : List (Option ℕ)  -- of each piece what its slot holds

abbrev pub worker_count : State → ℕ
worker_count s = length s.claims

abbrev pub piece_count : State → ℕ
piece_count s = length s.slots

-- what a worker claimed
abbrev pub claims_of : State → ℕ → List ℕ
claims_of s worker = slice_index_or s.claims worker []

-- what a worker has open
abbrev pub open_claim_of : State → ℕ → Option ℕ
open_claim_of s worker = slice_index_or s.open_claims worker None

-- whether a worker was told the end
abbrev pub is_told : State → ℕ → Bool
is_told s worker = slice_index_or s.ended worker false

-- what the slot of a piece holds
abbrev pub slot_of : State → ℕ → Option ℕ
slot_of s piece = slice_index_or s.slots piece None

-- nothing is claimed, open, told or filled
abbrev pub first : ℕ → ℕ → State
first pieces workers =
    record {
      next = 0;
      claims = replicate workers [];
      open_claims = replicate workers None;
      ended = replicate workers false;
      slots = replicate pieces None;
    }

-- whether this is one of the workers, has nothing open and was not told the end
abbrev pub may_claim : State → ℕ → Bool
may_claim s worker = nat_lt worker (worker_count s) && (is_none (open_claim_of s worker) && not (is_told s worker))

-- a claim in turn is given the next piece, or told that none is left
abbrev pub answer_to_claim : State → ℕ → Stepped
answer_to_claim s worker =
    if may_claim s worker
    then (if nat_lt s.next (piece_count s) then Claimed s.next else Done)
    else Ignored

-- a fill is of the piece that the worker has open
abbrev pub answer_to_fill : Option ℕ → Stepped
answer_to_fill None = Ignored
answer_to_fill (Some piece) = Filled piece

abbrev pub answer : State → Event → Stepped
answer s (Claim worker) = answer_to_claim s worker
answer s (Fill worker) = answer_to_fill (open_claim_of s worker)

-- the state after a worker was given an answer
abbrev pub effect : State → ℕ → Stepped → State
effect s worker (Claimed piece) =
    record {
      next = piece + 1;
      claims = slice_set s.claims worker (claims_of s worker ++ piece ∷ []);
      open_claims = slice_set s.open_claims worker (Some piece);
      ended = s.ended;
      slots = s.slots;
    }
effect s worker (Filled piece) =
    record {
      next = s.next;
      claims = s.claims;
      open_claims = slice_set s.open_claims worker None;
      ended = s.ended;
      slots = slice_set s.slots piece (Some piece);
    }
effect s worker Done =
    record {
      next = s.next;
      claims = s.claims;
      open_claims = s.open_claims;
      ended = slice_set s.ended worker true;
      slots = s.slots;
    }
effect s worker Ignored = s

abbrev pub worker_of : Event → ℕ
worker_of (Claim worker) = worker
worker_of (Fill worker) = worker

-- the state after an event
abbrev pub after : State → Event → State
after s event = effect s (worker_of event) (answer s event)

-- the state after events, one after another
abbrev pub run : List Event → State → State
run [] s = s
run (event ∷ events) s = run events (after s event)

-- some list of events leads to this state from the first one
abbrev pub IsReached : State → Type 0
IsReached s = (events : List Event) × (run events (first (piece_count s) (worker_count s)) ≡ s)
