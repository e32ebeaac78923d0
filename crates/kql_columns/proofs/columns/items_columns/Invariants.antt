use Rattle.std.proofs.Common.{◌≡◌, take}
use Rattle.kql_meaning.specs.Items.{items_columns}
use Rattle.kql_columns.proofs.columns.items_columns.Given as goal

abbrev pub invariant-loop-item : goal.invariant-loop-item
invariant-loop-item l = l.made ≡ items_columns (take l.item-index l.items) l.columns
