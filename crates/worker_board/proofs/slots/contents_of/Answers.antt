use Rattle.std.proofs.Common.{arith}
use Rattle.worker_board.proofs.Filled.{last_filled, one_more, all_taken}
use Rattle.worker_board.proofs.slots.contents_of.Goals as goal

pub unwrap-requires : goal.unwrap-requires
unwrap-requires g c = (last_filled _ _ _ c.in-Some.ensures.items c.loop-slot.invariant.left).1

pub loop-slot-preserved : goal.loop-slot-preserved
loop-slot-preserved g c = record {
  left = (last_filled _ _ _ c.in-Some.ensures.items c.loop-slot.invariant.left).0;
  taken = one_more _ _ _ c.in-Some.ensures.items _ _ _ c.unwrap.ensures _ c.in_ok-push.ensures.added c.loop-slot.invariant.taken;
}

pub returns : goal.returns
returns g c = record {
  values = all_taken c.loop-slot.slots.items _ c.loop-slot.values _ (omega (arith, c.in_default.ensures.cases.0, c.loop-slot.slots.ok)) c.loop-slot.invariant.taken c.reverse.ensures.turned;
}
