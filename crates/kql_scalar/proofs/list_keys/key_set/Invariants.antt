use Rattle.std.proofs.Common.{◌≡◌, take}
use Rattle.std.specs.HashSet.{contains}
use Rattle.std.specs.List.{list_any}
use Rattle.kql_cells.specs.Keys.{same_key}
use Rattle.kql_cells.specs.declared.value.Value.{Value}
use Rattle.kql_scalar.proofs.list_keys.key_set.Given as goal

abbrev pub invariant-loop-value : goal.invariant-loop-value
invariant-loop-value l = (v : Value) → contains same_key l.set v ≡ list_any (same_key v) (take l.value-index l.values)
