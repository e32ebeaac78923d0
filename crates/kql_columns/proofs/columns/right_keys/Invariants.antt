use Rattle.std.proofs.Common.{◌≡◌, map, take}
use Rattle.kql_bound.specs.declared.parts.OnPair.{OnPair}
use Rattle.kql_columns.proofs.columns.right_keys.Given as goal

abbrev pub invariant-loop-pair : goal.invariant-loop-pair
invariant-loop-pair l = l.names ≡ map (λ (pair : OnPair). pair.right) (take l.pair-index l.on)
