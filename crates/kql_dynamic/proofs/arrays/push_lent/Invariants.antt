use Rattle.std.proofs.Common.{◌≡◌, ◌++◌, map, take}
use Rattle.kql_dynamic.proofs.arrays.push_lent.Given as goal

abbrev pub invariant-loop-part : goal.invariant-loop-part
invariant-loop-part l = l.list ≡ l.initial.list ++ map (λ d. d.now) (take l.part-index l.parts)
