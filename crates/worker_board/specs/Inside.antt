use Rattle.std.specs.Prelude.{◌≡◌, ℕ, ◌<◌, ◌≤◌, ◌↔◌, IsTrue, [], length, vec_capacity}
use Rattle.worker_board.specs.declared.seat.WorkerSeat.TheInside.{Inside}
use Rattle.worker_board.specs.Counts.{once_below, times, least}

-- what ties the fields of a seat to what it knows
pub record IsSeated (s : Inside) : Type 0 where
  pub empty_handed : s.place.me.1 ≡ []
  pub claims : s.claims.items ≡ s.place.me.0.claims
  pub room : s.pieces ≤ vec_capacity s.claims
  pub pieces : s.pieces ≡ s.place.me.0.size.pieces
  pub workers : s.workers ≡ s.place.me.0.size.workers
  pub first : s.first ≡ least s.place.me.0.numbers
  pub held : s.held ≡ length s.place.me.0.numbers
  pub some_held : 0 < s.held
  -- each number is a worker's, and none is held twice
  pub numbers : (w : ℕ) → times w s.place.me.0.numbers ≤ once_below w s.workers
  pub done : IsTrue s.done ↔ (0 < length s.place.me.0.ended)
  pub stopped : IsTrue s.stopped ↔ (0 < s.place.me.0.stops)
