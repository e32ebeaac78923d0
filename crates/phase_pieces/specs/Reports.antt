-- Who worked on the pieces of a phase.
use Rattle.std.specs.Prelude.{◌≡◌, ℕ}
use Rattle.phase_pieces.specs.Sizes.{ArePieces}
use Rattle.worker_board.specs.Views.{NamesEach, WholeClaims}

-- So many workers ran it, and each of its pieces was claimed once, by one of them.
pub record IsWholeFor (n : ℕ) (g : WholeClaims) : Type 0 where
  pub workers : g.size.workers ≡ n
  pub claims : NamesEach g.size g.claims

-- Its pieces are those of so many rows, each of the size that was asked for.
abbrev pub IsCutFor : ℕ → ℕ → WholeClaims → Type 0
IsCutFor count asked g = ArePieces count asked g.size.pieces
