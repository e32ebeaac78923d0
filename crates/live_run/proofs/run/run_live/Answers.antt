use denote.Param.Send.{sendable}
use Rattle.std.proofs.Crossing
use Rattle.live_run.proofs.CrossingLaws.{live_table_send, live_table_sync}
use Rattle.live_run.proofs.run.run_live.Goals as goal

pub run_value-requires-send-V : goal.run_value-requires-send-V
run_value-requires-send-V g c κs = search (live_table_send, Crossing.crosses, sendable) depth 60 fits 20000

pub run_value-requires-sync-V : goal.run_value-requires-sync-V
run_value-requires-sync-V g c κs = search (live_table_sync, Crossing.crosses, sendable) depth 60 fits 20000
