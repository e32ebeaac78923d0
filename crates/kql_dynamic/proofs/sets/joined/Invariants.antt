use Rattle.std.proofs.Common.{◌≡◌, ◌++◌, take, map}
use Rattle.kql_dynamic.proofs.sets.joined.Given as goal

abbrev pub invariant-loop-part : goal.invariant-loop-part
invariant-loop-part l = map (λ d. d.now) l.both.items ≡ take l.part-index l.first

abbrev pub invariant-loop-part-2 : goal.invariant-loop-part-2
invariant-loop-part-2 l = map (λ d. d.now) l.both.items ≡ l.first ++ take l.part-index l.second
