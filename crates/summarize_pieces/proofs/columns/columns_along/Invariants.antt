use Rattle.std.proofs.Common.{◌≡◌, take}
use Rattle.summarize_pieces.specs.Pieces.{columns_along}
use Rattle.summarize_pieces.proofs.columns.columns_along.Given as goal

-- the values of the arguments so far
abbrev pub invariant-arguments : goal.invariant-arguments
invariant-arguments l = l.vectors.items ≡ columns_along (take l.arg-index l.args) l.t l.from l.to
