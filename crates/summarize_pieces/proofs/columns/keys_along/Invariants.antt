use Rattle.std.proofs.Common.{◌≡◌, take}
use Rattle.summarize_pieces.specs.Pieces.{columns_along}
use Rattle.summarize_pieces.proofs.ColumnSteps.{key_exprs}
use Rattle.summarize_pieces.proofs.columns.keys_along.Given as goal

-- the values of the keys so far
abbrev pub invariant-keys : goal.invariant-keys
invariant-keys l = l.vectors.items ≡ columns_along (key_exprs (take l.key-index l.keys)) l.t l.from l.to
