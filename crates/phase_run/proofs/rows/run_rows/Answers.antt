use denote.Param.Send.{sendable}
use Rattle.std.proofs.Crossing
use Rattle.std.proofs.Common.{◌≤◌, ◌*◌, ◌∙◌, ap, arith, length}
use Rattle.crossing_laws.proofs.PlanLaws.{op_sync}
use Rattle.crossing_laws.proofs.TableLaws.{catalogue_sync, table_send, table_sync}
use Rattle.phase_laws.specs.Runs.{made_of}
use Rattle.phase_pieces.proofs.CutLaws.{pieces-told}
use Rattle.kql_plain.specs.AtHand.{world_of}
use Rattle.phase_run.proofs.RowSteps.{all-alike, whole-run}
use Rattle.phase_run.proofs.rows.run_rows.Goals as goal

pub run_pieces-requires-send-T : goal.run_pieces-requires-send-T
run_pieces-requires-send-T g c κs within = search (table_send, Crossing.crosses, sendable) depth 60 fits 20000

pub run_pieces-requires-sync-W : goal.run_pieces-requires-sync-W
run_pieces-requires-sync-W g c κs within = search (table_sync, catalogue_sync, op_sync, Crossing.crosses, sendable) depth 60 fits 20000

pub put_together-requires : goal.put_together-requires
put_together-requires g c =
    let w = world_of c.args.catalogue.now c.args.lets.now in
    let t = c.args.table.now in
    let none = ap (made_of c.args.ops.now w) c.in_ok-none.ensures.rows in
    record { kinds = all-alike c.law_of_row_runs.ensures.columns c.args.ops.now w t c.in_ok-first.first c.cut_rows-cut.result.rows c.cut_rows-cut.result.pieces c.in_ok-results.field-0.results c.requires.by_row (c.in_ok-first.ensures.table ∙ none) c.in_ok-results.ensures.results }

pub returns-clause-table : goal.returns-clause-table
returns-clause-table g c =
    let w = world_of c.args.catalogue.now c.args.lets.now in
    let t = c.args.table.now in
    let none = ap (made_of c.args.ops.now w) c.in_ok-none.ensures.rows in
    let all : length t.lines ≤ c.cut_rows-cut.result.pieces * c.cut_rows-cut.result.rows = omega (arith, c.cut_rows-cut.ensures.all, c.len.ensures.count) in
    whole-run c.law_of_row_runs.ensures.pieces c.args.ops.now w t c.in_ok-first.first c.in_ok-made.made c.cut_rows-cut.result.rows c.cut_rows-cut.result.pieces c.in_ok-results.field-0.results c.requires.by_row all (c.in_ok-first.ensures.table ∙ none) c.in_ok-results.ensures.results c.in_ok-made.ensures.table

pub returns-clause-pieces : goal.returns-clause-pieces
returns-clause-pieces g c = pieces-told _ _ _ _ _ c.cut_rows-cut.ensures.pieces c.len.ensures.count c.in_ok-results.ensures.size.0
