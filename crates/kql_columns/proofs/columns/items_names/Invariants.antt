use Rattle.std.proofs.Common.{◌≡◌, take}
use Rattle.kql_meaning.specs.Items.{items_names}
use Rattle.kql_columns.proofs.columns.items_names.Given as goal

abbrev pub invariant-loop-item : goal.invariant-loop-item
invariant-loop-item l = l.names ≡ items_names (take l.item-index l.items)
