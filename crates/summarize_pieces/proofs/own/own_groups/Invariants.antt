use Rattle.std.proofs.Common.{◌≡◌, take}
use Rattle.summarize_pieces.proofs.own.own_groups.Given as goal

abbrev pub invariant-loop-group : goal.invariant-loop-group
invariant-loop-group l = l.made ≡ take l.group-index l.groups
