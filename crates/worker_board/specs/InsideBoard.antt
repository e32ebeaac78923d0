use Rattle.std.specs.Prelude.{◌≡◌}
use Rattle.worker_board.specs.declared.board.Board.TheInside.{Inside}

-- a board's table has two words and no slot, and knows the board's size
pub record IsTabled (b : Inside) : Type 0 where
  pub words : b.table.shared.table_id.words ≡ 2
  pub slots : b.table.shared.table_id.slots ≡ 0
  pub key : b.table.shared.key ≡ b.size
