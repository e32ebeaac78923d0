-- What the work of a top by pieces is.
use Rattle.std.specs.Prelude.{◌<◌, ◌+◌, ◌*◌, ◌^◌, ℕ, List}
use Rattle.order_ops.specs.declared.keys.KeyColumn.{KeyColumn}
use Rattle.phase_pieces.specs.declared.cut.Cut.{Cut}

-- The places below a count, cut into pieces, the columns of their keys, and how many are wanted.
pub record TopSeen : Type 0 where
  pub columns : List KeyColumn
  pub count : ℕ
  pub wanted : ℕ
  pub cut : Cut

-- Each piece begins at a place, or behind the last.
pub record IsTopRun (r : TopSeen) : Type 0 where
  pub each : r.cut.pieces * r.cut.rows < r.count + r.cut.rows
  pub rows : r.cut.rows < 2 ^ 63
  pub small : r.count < 2 ^ 63
