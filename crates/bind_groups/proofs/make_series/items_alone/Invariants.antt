use Rattle.std.proofs.Common.{◌≡◌, map, take}
use Rattle.kql_bound.specs.declared.parts.SeriesItem.{SeriesItem}
use Rattle.bind_operators.specs.Items.{column_as}
use Rattle.bind_groups.proofs.make_series.items_alone.Given as goal

abbrev pub invariant-loop-item : goal.invariant-loop-item
invariant-loop-item l = l.alone ≡ map (λ (i : SeriesItem). column_as i.name i.name) (take l.item-index l.items)
