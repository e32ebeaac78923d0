use Rattle.std.proofs.Common.{◌≡◌, map, take}
use Rattle.summarize_pieces.specs.Pieces.{Called}
use Rattle.summarize_pieces.proofs.groups.fold_calls.Given as goal

-- the calls so far
abbrev pub invariant-calls : goal.invariant-calls
invariant-calls l = l.made.items ≡ map (λ (c : Called). c.call) (take l.call-index l.calls)
