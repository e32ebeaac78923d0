use Rattle.std.proofs.Common.{◌≡◌, map, take}
use Rattle.kql_scalar_fns.specs.Dynamic.{element}
use Rattle.agg_folds.proofs.elements.elements.Given as goal

abbrev pub invariant-loop-value : goal.invariant-loop-value
invariant-loop-value l = l.parts ≡ map element (take l.value-index l.values)
