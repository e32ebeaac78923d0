use Rattle.std.proofs.Common.{◌≡◌, map, take}
use Rattle.kql_meaning.specs.Results.{typed}
use Rattle.kql_columns.proofs.columns.typed_all.Given as goal

abbrev pub invariant-loop-arg : goal.invariant-loop-arg
invariant-loop-arg l = l.kinds ≡ map (λ a. typed a l.columns) (take l.arg-index l.args)
