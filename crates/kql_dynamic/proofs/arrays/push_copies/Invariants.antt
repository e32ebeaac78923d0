use Rattle.std.proofs.Common.{◌≡◌, ◌++◌, take}
use Rattle.kql_dynamic.proofs.arrays.push_copies.Given as goal

abbrev pub invariant-loop-part : goal.invariant-loop-part
invariant-loop-part l = l.list ≡ l.initial.list ++ take l.part-index l.parts
