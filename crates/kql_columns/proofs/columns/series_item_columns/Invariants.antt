use Rattle.std.proofs.Common.{◌≡◌, take}
use Rattle.kql_meaning.specs.MakeSeries.{series_item_columns}
use Rattle.kql_columns.proofs.columns.series_item_columns.Given as goal

abbrev pub invariant-loop-item : goal.invariant-loop-item
invariant-loop-item l = l.made ≡ series_item_columns (take l.item-index l.items)
