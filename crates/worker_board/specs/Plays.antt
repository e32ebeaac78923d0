-- What a step tells the seat that takes it: n is the number that it found
use Rattle.std.specs.Prelude.{◌≡◌, ℕ, ◌^◌, ◌<◌, ◌≤◌, length}
use Rattle.atomic_table.specs.Table.{Me, Step}
use Rattle.worker_board.specs.declared.known.Known.{Known}
use Rattle.worker_board.specs.Counts.{once_below, times}
use Rattle.worker_board.specs.Moves.{with_claim, told_end, with_stop}

module _ {S : Type 0} where
  -- a number that is a piece is claimed, and every other tells the end
  abbrev pub Draws : Step S → Me S Known → ℕ → Me S Known → Type 0
  Draws step me n me' =
      (me'.1 ≡ me.1)
      × (n < me.0.size.pieces → (me'.0 ≡ with_claim me.0 n) × (length me.0.claims < me.0.size.pieces))
      × (me.0.size.pieces ≤ n → me'.0 ≡ told_end me.0)

  -- a seat has at most as many claims as there are pieces, and no worker's number twice
  abbrev pub Weighs : Step S → Me S Known → ℕ → Me S Known → Type 0
  Weighs step me n me' =
      (me' ≡ me)
      × (length me.0.claims ≤ me.0.size.pieces)
      × (length me.0.numbers < 2 ^ 32)
      × ((w : ℕ) → times w me.0.numbers ≤ once_below w me.0.size.workers)

  abbrev pub SetsStop : Step S → Me S Known → ℕ → Me S Known → Type 0
  SetsStop step me n me' = (me'.1 ≡ me.1) × (me'.0 ≡ with_stop me.0)

  -- the stop word is 0, and then the seat has no mark, or 1, and then it gets one. A seat with every number had it
  -- before
  abbrev pub SeesStop : Step S → Me S Known → ℕ → Me S Known → Type 0
  SeesStop step me n me' =
      (me'.1 ≡ me.1)
      × (n ≡ 0 → (me'.0 ≡ me.0) × (me.0.stops ≡ 0))
      × (0 < n → (n ≡ 1) × (me'.0 ≡ with_stop me.0) × (length me.0.numbers ≡ me.0.size.workers → 0 < me.0.stops))
