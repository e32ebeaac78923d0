use Rattle.std.proofs.Common.{◌≡◌, map, take}
use Rattle.kql_bound.specs.declared.parts.ExpandItem.{ExpandItem}
use Rattle.bind_groups.proofs.mv_expand.names_in.Given as goal

abbrev pub invariant-loop-item : goal.invariant-loop-item
invariant-loop-item l = l.names ≡ map (λ (i : ExpandItem). i.name) (take l.item-index l.items)
