use denote.Param.Send.{sendable}
use Rattle.std.proofs.Crossing
use Rattle.crossing_laws.proofs.PlanLaws.{group_sync}
use Rattle.crossing_laws.proofs.TableLaws.{table_sync}
use Rattle.phase_pieces.proofs.CutLaws.{pieces-told}
use Rattle.phase_groups.proofs.CrossingLaws.{piece_send}
use Rattle.phase_groups.proofs.groups.run_ranges.Goals as goal

pub run_pieces-requires-send-T : goal.run_pieces-requires-send-T
run_pieces-requires-send-T g c κs within = search (piece_send, Crossing.crosses, sendable) depth 60 fits 20000

pub run_pieces-requires-sync-W : goal.run_pieces-requires-sync-W
run_pieces-requires-sync-W g c κs within = search (table_sync, group_sync, Crossing.crosses, sendable) depth 60 fits 20000

pub returns-clause-pieces : goal.returns-clause-pieces
returns-clause-pieces g c = pieces-told _ _ _ _ _ c.cut_rows-cut.ensures.pieces c.len.ensures.count c.in_ok-results.ensures.size.0
