use Rattle.std.proofs.Common.{◌≡◌, take}
use Rattle.summarize_pieces.proofs.own.own_calls.Given as goal

abbrev pub invariant-loop-groups : goal.invariant-loop-groups
invariant-loop-groups l = l.made.items ≡ take l.groups-index l.calls
