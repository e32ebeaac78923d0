use denote.Param.Send.{sendable}
use Rattle.std.proofs.Crossing
use Rattle.std.proofs.Common.{◌∙◌, length, refl}
use Rattle.crossing_laws.proofs.TableLaws.{vector_send, vector_sync}
use Rattle.phase_copies.proofs.CopySteps.{all-copied, copies-fit, copy-made}
use Rattle.phase_copies.proofs.copies.run_copy.Goals as goal

pub run_pieces-requires-send-T : goal.run_pieces-requires-send-T
run_pieces-requires-send-T g c κs within = search (vector_send, Crossing.crosses, sendable) depth 60 fits 20000

pub run_pieces-requires-sync-W : goal.run_pieces-requires-sync-W
run_pieces-requires-sync-W g c κs within = search (vector_sync, Crossing.crosses, sendable) depth 60 fits 20000

pub from_columns-copied-requires-clause-fits : goal.from_columns-copied-requires-clause-fits
from_columns-copied-requires-clause-fits g c =
    let t = c.args.table.now in
    let same = all-copied c.columns-columns.result.now c.in_ok-results.field-0.results c.into_vec.result.items (length c.columns-columns.result.now) refl c.in_ok-results.ensures.results c.into_vec.ensures.items in
    copies-fit t c.in_ok-schema.schema c.len.result c.columns-columns.result.now c.into_vec.result.items (c.in_ok-schema.ensures.same ∙ c.schema.ensures.columns) c.len.ensures.count same c.columns-columns.ensures.fits

pub returns : goal.returns
returns g c =
    let t = c.args.table.now in
    let same = all-copied c.columns-columns.result.now c.in_ok-results.field-0.results c.into_vec.result.items (length c.columns-columns.result.now) refl c.in_ok-results.ensures.results c.into_vec.ensures.items in
    record {
      same = copy-made t c.from_columns-copied.result c.in_ok-schema.schema c.len.result c.columns-columns.result.now c.into_vec.result.items (c.in_ok-schema.ensures.same ∙ c.schema.ensures.columns) c.len.ensures.count same c.columns-columns.ensures.lines c.from_columns-copied.ensures.parts;
    }
