use denote.Param.Send.{sendable}
use Rattle.std.proofs.Crossing
use Rattle.std.proofs.Common.{◌∙◌, refl}
use Rattle.kql_items.proofs.items.Items.TheSendSync as items
use Rattle.phase_pieces.proofs.CutLaws.{pieces-told}
use Rattle.phase_tops.proofs.CrossingLaws.{column_sync}
use Rattle.phase_tops.proofs.TopSteps.{tops-are}
use Rattle.phase_tops.proofs.tops.tops_of.Goals as goal

pub run_pieces-requires-send-T : goal.run_pieces-requires-send-T
run_pieces-requires-send-T g c κs within = search (items.the_send, Crossing.crosses, sendable) depth 60 fits 20000

pub run_pieces-requires-sync-W : goal.run_pieces-requires-sync-W
run_pieces-requires-sync-W g c κs within = search (column_sync, Crossing.crosses, sendable) depth 60 fits 20000

pub returns-clause-places : goal.returns-clause-places
returns-clause-places g c =
    c.from_vec.ensures.items
    ∙ tops-are c.law_of_tops.ensures.tops c.args.columns.now c.args.wanted c.args.count c.cut_rows-cut.result.rows c.cut_rows-cut.result.pieces c.in_ok-results.field-0.results c.in_ok-all.all c.as_slice.result.now c.in_ok-first.first.items
    c.cut_rows-cut.ensures.all c.in_ok-results.ensures.results c.in_ok-all.ensures.places c.as_slice.ensures.items c.in_ok-first.ensures.least

pub returns-clause-pieces : goal.returns-clause-pieces
returns-clause-pieces g c = pieces-told _ _ _ _ _ c.cut_rows-cut.ensures.pieces refl c.in_ok-results.ensures.size.0
