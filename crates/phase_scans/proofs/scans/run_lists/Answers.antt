use denote.Param.Send.{sendable}
use Rattle.std.proofs.Crossing
use Rattle.std.proofs.Common.{length}
use Rattle.kql_keys.proofs.places.PlaceLists.TheSendSync as lists
use Rattle.crossing_laws.proofs.PlanLaws.{scan_sync}
use Rattle.crossing_laws.proofs.TableLaws.{table_send, table_sync}
use Rattle.phase_scans.proofs.KeySteps.{cut-all, keys-told}
use Rattle.phase_scans.proofs.ScanSteps.{scans-alike, whole-scans}
use Rattle.phase_scans.proofs.scans.run_lists.Goals as goal

pub run_pieces-requires-send-T : goal.run_pieces-requires-send-T
run_pieces-requires-send-T g c κs within = search (table_send, Crossing.crosses, sendable) depth 60 fits 20000

pub run_pieces-requires-sync-W : goal.run_pieces-requires-sync-W
run_pieces-requires-sync-W g c κs within = search (table_sync, scan_sync, lists.the_sync, Crossing.crosses, sendable) depth 60 fits 20000

pub put_together-requires : goal.put_together-requires
put_together-requires g c = record {
  kinds = scans-alike c.args.scan.now c.args.table.now c.args.extended.now c.in_ok-first.first c.args.lists.now c.cut_keys-cut.result.rows c.cut_keys-cut.result.pieces c.in_ok-results.field-0.results c.in_ok-first.ensures.table c.in_ok-results.ensures.results;
}

pub returns-clause-table : goal.returns-clause-table
returns-clause-table g c =
    let all = cut-all c.len.result (length c.args.lists.now) c.cut_keys-cut.result.pieces c.cut_keys-cut.result.rows c.len.ensures.count c.cut_keys-cut.ensures.all in
    whole-scans c.args.scan.now c.args.table.now c.args.extended.now c.in_ok-first.first c.in_ok-made.made c.args.lists.now c.cut_keys-cut.result.rows c.cut_keys-cut.result.pieces c.in_ok-results.field-0.results c.in_ok-first.ensures.table c.in_ok-results.ensures.results all c.in_ok-made.ensures.table

pub returns-clause-pieces : goal.returns-clause-pieces
returns-clause-pieces g c = keys-told _ _ _ _ _ _ _ c.cut_keys-cut.ensures.pieces c.len.ensures.count c.len-2.ensures.count c.in_ok-results.ensures.size.0
