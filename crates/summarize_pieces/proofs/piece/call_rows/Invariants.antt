use Rattle.std.proofs.Common.{◌≡◌, map, take}
use Rattle.summarize_pieces.specs.Pieces.{called}
use Rattle.summarize_pieces.proofs.piece.call_rows.Given as goal

-- what the calls so far take
abbrev pub invariant-calls : goal.invariant-calls
invariant-calls l = l.calls.items ≡ map (called l.t l.from l.to) (take l.call-index l.found)
