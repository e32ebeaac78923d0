use denote.Param.Send.{sendable}
use Rattle.std.proofs.Crossing
use Rattle.std.proofs.Common.{refl}
use Rattle.kql_bound.proofs.parts.JoinPlan.TheSendSync as joining
use Rattle.crossing_laws.proofs.TableLaws.{table_send, table_sync, vector_field_sync, vector_sync}
use Rattle.phase_pieces.proofs.CutLaws.{pieces-told}
use Rattle.phase_joins.proofs.CrossingLaws.{probe_sync}
use Rattle.phase_joins.proofs.LedSteps.{all-alike, whole-led}
use Rattle.phase_joins.proofs.led.run_leads.Goals as goal

pub run_pieces-requires-send-T : goal.run_pieces-requires-send-T
run_pieces-requires-send-T g c κs within = search (table_send, Crossing.crosses, sendable) depth 60 fits 20000

pub run_pieces-requires-sync-W : goal.run_pieces-requires-sync-W
run_pieces-requires-sync-W g c κs within = search (table_sync, joining.the_sync, vector_sync, vector_field_sync, probe_sync, Crossing.crosses, sendable) depth 60 fits 20000

pub put_together-requires : goal.put_together-requires
put_together-requires g c = record {
  kinds = all-alike c.args.both c.args.kind c.args.j.now c.args.left.now c.args.right.now c.in_ok-first.first c.args.leads.now c.cut_rows-cut.result.rows c.cut_rows-cut.result.pieces c.in_ok-results.field-0.results
      c.in_ok-first.ensures.table c.in_ok-results.ensures.results;
}

pub returns-clause-table : goal.returns-clause-table
returns-clause-table g c =
    whole-led c.args.both c.args.kind c.args.j.now c.args.left.now c.args.right.now c.in_ok-first.first c.in_ok-made.made c.args.leads.now c.cut_rows-cut.result.rows c.cut_rows-cut.result.pieces c.in_ok-results.field-0.results
    c.cut_rows-cut.ensures.all c.in_ok-first.ensures.table c.in_ok-results.ensures.results c.in_ok-made.ensures.table

pub returns-clause-pieces : goal.returns-clause-pieces
returns-clause-pieces g c = pieces-told _ _ _ _ _ c.cut_rows-cut.ensures.pieces refl c.in_ok-results.ensures.size.0
