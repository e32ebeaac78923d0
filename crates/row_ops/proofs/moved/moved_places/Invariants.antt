use Rattle.std.proofs.Common.{take}
use Rattle.row_ops.specs.MovedColumns.{AreMoved}
use Rattle.row_ops.proofs.moved.moved_places.Given as goal

-- the items so far are columns
abbrev pub invariant-items : goal.invariant-items
invariant-items l = AreMoved l.schema (take l.item-index l.items) l.places
