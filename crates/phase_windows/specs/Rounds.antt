-- The rounds of a phase that computes items.
use Rattle.std.specs.Prelude.{◌≡◌, ℕ, ◌+◌, All, List, [], ◌∷◌, length}
use Rattle.kql_bound.specs.declared.expr.WinCall.{WinCall}
use Rattle.kql_bound.specs.declared.parts.BItem.{BItem}
use Rattle.phase_pieces.specs.Reports.{IsWholeFor}
use Rattle.window_ops.specs.Calls.{calls_of_items}
use Rattle.worker_board.specs.Views.{WholeClaims}

-- One round computes the rows. Where a `row_cumsum` or a `row_number` stands in the items, another sums up before it.
unfoldable pub rounds_for : List WinCall → ℕ
rounds_for [] = 1
rounds_for (w ∷ ws) = 2

abbrev pub rounds_of : List BItem → ℕ
rounds_of items = rounds_for (calls_of_items items)

-- So many workers ran each round: each piece of it was claimed once, by one of them.
pub record AreRounds (n : ℕ) (items : List BItem) (gs : List WholeClaims) : Type 0 where
  pub count : length gs ≡ rounds_of items
  pub whole : All (IsWholeFor n) gs

-- The same of the rounds before the last.
pub record AreRoundsBefore (n : ℕ) (items : List BItem) (gs : List WholeClaims) : Type 0 where
  pub count : length gs + 1 ≡ rounds_of items
  pub whole : All (IsWholeFor n) gs

-- Each round had so many pieces.

abbrev pub HasPieces : ℕ → WholeClaims → Type 0
HasPieces n g = g.size.pieces ≡ n

abbrev pub HavePieces : ℕ → List WholeClaims → Type 0
HavePieces n gs = All (HasPieces n) gs
