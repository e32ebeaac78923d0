use Rattle.std.proofs.Common.{◌≡◌, ◌-◌, take, map}
use Rattle.kql_values.proofs.byte_pieces.lowered.Given as goal

abbrev pub invariant-loop-end : goal.invariant-loop-end
invariant-loop-end l = l.lower.items ≡ map (λ e. e - l.by) (take l.end-index l.ends)
