use Rattle.std.proofs.Common.{◌≡◌, Some, map, take}
use Rattle.kql_dynamic.specs.Arrays.{joined}
use Rattle.kql_dynamic.proofs.arrays.array_concat.Given as goal

abbrev pub invariant-loop-d : goal.invariant-loop-d
invariant-loop-d l = joined (map (λ d. d.now) (take l.d-index l.args)) ≡ Some l.all
