use Rattle.std.proofs.Common.{◌≡◌, map, take}
use Rattle.kql_meaning.specs.MvExpand.{new_items}
use Rattle.table_ops.specs.Parts.{item_cells}
use Rattle.table_ops.proofs.expand.new_vectors.Given as goal

-- the columns of the items so far
abbrev pub invariant-items : goal.invariant-items
invariant-items l = l.vectors ≡ map (item_cells l.x l.t) (new_items (take l.at l.x.items) l.t.columns)
