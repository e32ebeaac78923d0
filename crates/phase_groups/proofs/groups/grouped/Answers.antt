use denote.Param.Send.{sendable}
use Rattle.std.proofs.Crossing
use Rattle.crossing_laws.proofs.PlanLaws.{group_sync}
use Rattle.crossing_laws.proofs.TableLaws.{table_sync}
use Rattle.phase_groups.proofs.CrossingLaws.{groups_send, piece_sync}
use Rattle.phase_groups.proofs.groups.grouped.Goals as goal

pub run_pieces-requires-send-T : goal.run_pieces-requires-send-T
run_pieces-requires-send-T g c κs within = search (groups_send, table_sync, group_sync, Crossing.crosses, sendable) depth 60 fits 20000

pub run_pieces-requires-sync-W : goal.run_pieces-requires-sync-W
run_pieces-requires-sync-W g c κs within = search (piece_sync, table_sync, group_sync, Crossing.crosses, sendable) depth 60 fits 20000
