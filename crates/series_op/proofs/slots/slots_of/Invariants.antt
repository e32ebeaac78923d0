use Rattle.std.proofs.Common.{◌≡◌, take}
use Rattle.series_op.proofs.SlotSteps.{put_all}
use Rattle.series_op.proofs.slots.slots_of.Given as goal

-- the slots after the rows so far
abbrev pub invariant-rows : goal.invariant-rows
invariant-rows l = l.slots.items ≡ put_all l.places l.fn.count (take l.row-index l.rows)
