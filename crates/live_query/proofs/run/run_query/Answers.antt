use denote.Param.Send.{sendable}
use Rattle.std.proofs.Crossing
use Rattle.live_query.proofs.CrossingLaws.{live_query_sync}
use Rattle.live_query.proofs.run.run_query.Goals as goal

pub run_live-requires-sync-Q : goal.run_live-requires-sync-Q
run_live-requires-sync-Q g c κs within = search (live_query_sync, Crossing.crosses, sendable) depth 60 fits 20000
