use Rattle.std.proofs.Common.{◌≡◌, length, map, take}
use Rattle.std.specs.Prelude.{All}
use Rattle.summarize_pieces.specs.Pieces.{Called, ColumnsStored, group_states}
use Rattle.summarize_pieces.proofs.groups.folds_of_calls.Given as goal

-- what is kept of the calls so far
abbrev pub invariant-calls : goal.invariant-calls
invariant-calls l = (l.folds.items ≡ map (λ (c : Called). group_states c l.numbers l.count) (take l.call-index l.calls)) × All (λ (c : Called). ColumnsStored (length l.numbers) c.columns) (take l.call-index l.calls)
