use Rattle.std.proofs.Common.{◌≡◌, ℕ, ◌++◌, ◌∷◌, List, [], refl, ap, ◌∙◌, Some}
use Rattle.std.proofs.lemmas.List.{length-set}
use Rattle.board_core.specs.declared.events.Event.{Event}
use Rattle.board_core.specs.declared.events.Stepped.{Stepped}
use Rattle.board_core.specs.declared.events.Stepped.TheVariants.{Claimed, Filled, Done, Ignored}
use Rattle.board_core.specs.State.{State, after, run, effect, answer, worker_of, worker_count, piece_count, claims_of}

-- no answer adds a worker or a piece
worker_count-effect : (s : State) (worker : ℕ) (given : Stepped) → worker_count (effect s worker given) ≡ worker_count s
worker_count-effect s worker (Claimed piece) = length-set s.claims worker (claims_of s worker ++ piece ∷ [])
worker_count-effect s worker (Filled piece) = refl
worker_count-effect s worker Done = refl
worker_count-effect s worker Ignored = refl

piece_count-effect : (s : State) (worker : ℕ) (given : Stepped) → piece_count (effect s worker given) ≡ piece_count s
piece_count-effect s worker (Claimed piece) = refl
piece_count-effect s worker (Filled piece) = length-set s.slots piece (Some piece)
piece_count-effect s worker Done = refl
piece_count-effect s worker Ignored = refl

pub worker_count-after : (s new : State) (event : Event) → new ≡ after s event → worker_count new ≡ worker_count s
worker_count-after s new event h = ap worker_count h ∙ worker_count-effect s (worker_of event) (answer s event)

pub piece_count-after : (s new : State) (event : Event) → new ≡ after s event → piece_count new ≡ piece_count s
piece_count-after s new event h = ap piece_count h ∙ piece_count-effect s (worker_of event) (answer s event)

pub worker_count-run : (events : List Event) (s : State) → worker_count (run events s) ≡ worker_count s
worker_count-run [] s = refl
worker_count-run (event ∷ events) s = worker_count-run events (after s event) ∙ worker_count-effect s (worker_of event) (answer s event)

pub piece_count-run : (events : List Event) (s : State) → piece_count (run events s) ≡ piece_count s
piece_count-run [] s = refl
piece_count-run (event ∷ events) s = piece_count-run events (after s event) ∙ piece_count-effect s (worker_of event) (answer s event)

pub ruleset sizes = (worker_count-after, piece_count-after)
