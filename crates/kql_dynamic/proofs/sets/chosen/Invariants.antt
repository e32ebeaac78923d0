use Rattle.std.proofs.Common.{◌≡◌, take, map}
use Rattle.kql_dynamic.specs.Sets.{chosen}
use Rattle.kql_dynamic.proofs.sets.chosen.Given as goal

abbrev pub invariant-loop-part : goal.invariant-loop-part
invariant-loop-part l = map (λ d. d.now) l.kept.items ≡ chosen l.wanted (take l.part-index l.first) l.second
