use denote.Param.Send.{sendable}
use Rattle.std.proofs.Crossing
use Rattle.csv_workers.proofs.CrossingLaws.{slot_send}
use Rattle.csv_workers.proofs.joining.settle_each.Goals as goal

pub for_each_mut-requires-send-T : goal.for_each_mut-requires-send-T
for_each_mut-requires-send-T g c κs within = search (slot_send, Crossing.crosses, sendable) depth 60 fits 20000
